-- `attempts::gather::deps` meets its contract: the numbers of the slots so far.
use mathlib.Core.Path.{◌≡◌, ap, ◌∙◌}
use mathlib.Core.List.{List}
use Prim.Native.Nat.{ℕ, ◌+◌, ◌*◌}
use native.Mathlib.Omega.{arith}
use lib.Seq.{sets}
use Rattle.base.specs.Below.{list_below}
use Rattle.deps.specs.Sets.{number}
use Rattle.table.specs.Table.{slot_no}
use Rattle.attempts.proofs.FillLaws.{deps_to, slot_held, slot_absent, deps_all}
use Rattle.attempts.proofs.gather.deps.Goals as goal
use Rattle.attempts.proofs.gather.deps.Goals.{else-i-table, then-i-table}

pub loop-i-preserved : goal.loop-i-preserved
loop-i-preserved c =
    let l = c.loop-i in
    let t = c.args.table in
    let next : 7 * l.i + 7 ≡ 7 * (l.i + 1) = omega arith in
    elim c.if-i-table.branch [
      | then-i-table w ↦ w.out-is ∙ w.put_set.ensures ∙ ap (λ (x : List ℕ). sets x (7 * l.i) (list_below 7 (number (slot_no t l.i).deps))) l.invariant ∙ slot_held t l.i 7 (omega arith) (omega arith) w.if-i-table.true ∙ ap (deps_to t) next
      | else-i-table w ↦ w.out-is ∙ l.invariant ∙ slot_absent t l.i 7 (omega arith) (omega arith) w.if-i-table.false ∙ ap (deps_to t) next
    ]

pub returns : goal.returns
returns c = c.loop-i.invariant ∙ deps_all c.args.table (7 * c.loop-i.i) (omega arith)
