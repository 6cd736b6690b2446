-- `leads::search::visit` and `rows`, which call each other: what a call sees more is in every shut set, and less is left to see.
use mathlib.Core.Path.{◌≡◌, sym, subst}
use mathlib.Core.List.{List}
use Prim.Native.Nat.{ℕ, ◌+◌, ◌*◌, ◌≤◌}
use native.Mathlib.Omega.{arith}
use lib.ListN.{length, get_or, set, length-set}
use Rattle.leads.specs.Depends.{Valid}
use Rattle.leads.proofs.SearchLaws.{room_le, put_room, visit_in, visit_more, PassedTo, to_more, to_all}
use Rattle.leads.proofs.search.+rows_visit.Goals as goal
use Rattle.leads.proofs.search.+rows_visit.Goals.{rows-then-seen-row, rows-else-seen-row}

valid_at : (deps : List ℕ) (k : ℕ) → Valid deps → get_or deps k 0 ≤ 32
unfolding Valid
valid_at deps k v = v k

pub rows-visit-requires : goal.rows-visit-requires
rows-visit-requires t c =
    let a = c.args in
    let l = c.loop-row in
    let less = room_le a.seen.now l.seen 7 l.invariant.1.grown.kept in
    let k = valid_at a.deps.now (7 * a.i + l.row) c.requires.valid in
    (omega (arith, c.decreases, less), (c.requires.valid, (omega arith, (omega arith, k))))

pub rows-loop-row-preserved : goal.rows-loop-row-preserved
rows-loop-row-preserved t c =
    let a = c.args in
    let l = c.loop-row in
    let deps = a.deps.now in
    let passed = PassedTo deps a.i (l.row + 1) a.seen.now in
    let more = to_more deps a.i l.row a.seen.now l.seen in (
      omega arith,
      elim c.if-seen-row.branch [
        | rows-then-seen-row w ↦ subst passed (sym w.seen-is) (more w.visit.new.seen (omega arith) l.invariant.1 w.visit.ensures)
        | rows-else-seen-row w ↦
            subst passed (sym w.seen-is) (more l.seen (omega arith) l.invariant.1 (visit_in deps l.row (get_or deps (7 * a.i + l.row) 0) l.seen (omega (arith, w.if-seen-row.false))))
      ],
    )

pub rows-returns : goal.rows-returns
rows-returns t c = to_all c.args.deps.now c.args.i c.loop-row.row c.args.seen.now c.loop-row.seen (omega arith) c.loop-row.invariant.1

pub visit-rows-requires : goal.visit-rows-requires
visit-rows-requires t c =
    let seen = c.args.seen.now in
    let row = c.args.row in
    let less = put_room seen row (omega arith) (omega arith) (omega arith) in
    let rows : length (set seen row (get_or seen row 0 + 1)) ≡ 7 = simp length-set c.requires.seen_len in
    (omega (arith, c.decreases, less), (c.requires.valid, (rows, omega arith)))

pub visit-visit-requires : goal.visit-visit-requires
visit-visit-requires t c =
    let seen = c.args.seen.now in
    let row = c.args.row in
    let marked = set seen row (get_or seen row 0 + 1) in
    let less = put_room seen row (omega arith) (omega arith) (omega arith) in
    let kept = room_le marked c.rows.new.seen 7 c.rows.ensures.grown.kept in
    (omega (arith, c.decreases, less, kept), (c.requires.valid, (omega arith, (omega arith, omega arith))))

pub visit-returns-then-seen-row : goal.visit-returns-then-seen-row
visit-returns-then-seen-row t c =
    visit_more c.args.deps.now c.args.row c.args.k c.args.seen.now c.rows.new.seen c.visit.new.seen (omega arith) (omega arith) (omega arith) c.rows.ensures c.visit.ensures
