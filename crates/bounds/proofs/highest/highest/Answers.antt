-- `bounds::highest::highest` meets its contract: the greatest of the rows so far.
use Prim.Native.Nat.{max}
use Rattle.base.proofs.Loops.{greatest_none, greatest_more}
use Rattle.bounds.proofs.HighestLaws.{held_each}
use Rattle.bounds.specs.Highest.{sequence_in, highest_of}
use mathlib.Core.Path.{◌≡◌, ap, sym, ◌∙◌}
use native.Mathlib.Omega.{arith}
use borrow.Author.Rules.{rules}
use Rattle.bounds.proofs.highest.highest.Goals as goal
use Rattle.bounds.proofs.highest.highest.Goals.{else-is_held, then-is_held}

pub loop-row-init : goal.loop-row-init
loop-row-init g c = (search rules, greatest_none _)

pub overflow_sub-number : goal.overflow_sub-number
overflow_sub-number g c =
    let h = held_each _ _ (sym c.is_held.ensures ∙ c.if-is_held.true) in
    omega (arith, h.0, h.1)

pub slot_no-requires : goal.slot_no-requires
slot_no-requires g c =
    let h = held_each _ _ (sym c.is_held.ensures ∙ c.if-is_held.true) in
    omega (arith, h.0, h.1)

pub loop-row-preserved : goal.loop-row-preserved
loop-row-preserved g c =
    let row = c.loop-row.row in
    let f = sequence_in (g.S.Shown.table c.args.shown.now) c.args.set in
    let named = c.from-number.ensures in
    let held = rw (named, c.lens-lens.ensures) at c.is_held.ensures in
    let more : c.if-is_held.highest ≡ max c.loop-row.highest (f row) =
    elim c.if-is_held.branch [
      | then-is_held t ↦ t.highest-is ∙ t.max-highest.ensures ∙ ap (max c.loop-row.highest) (sym (rw (sym held ∙ t.if-is_held.true, t.slot_no.ensures, named)))
      | else-is_held t ↦ t.highest-is ∙ sym (rw (sym held ∙ t.if-is_held.false) (omega arith))
    ] in
    (search rules, greatest_more f row _ _ c.loop-row.invariant.1 more)

pub returns : goal.returns
unfolding highest_of
returns g c =
    let e : c.loop-row.row ≡ 7 = omega arith in
    rw e at c.loop-row.invariant.1
