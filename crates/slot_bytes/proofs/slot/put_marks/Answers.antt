-- `slot_bytes::slot::put_marks` meets its contract: the marks passed so far are laid.
use mathlib.Core.Path.{◌≡◌, refl, ap, ◌∙◌}
use native.Mathlib.Omega.{arith}
use lib.ListN.{length}
use Rattle.layout.specs.Numbers.{lay}
use Rattle.layout.specs.Each.{each_bytes}
use Rattle.layout.proofs.Laying.{lay_length}
use Rattle.layout.proofs.EachLaws.{byte_turn}
use Rattle.slot_bytes.specs.Slot.{mark_in, marks_bytes}
use borrow.Author.Rules.{rules}
use Rattle.slot_bytes.proofs.slot.put_marks.Goals as goal

pub loop-i-init : goal.loop-i-init
unfolding each_bytes lay
loop-i-init c = (refl, refl)

pub loop-i-preserved : goal.loop-i-preserved
loop-i-preserved c =
    let a = c.args in
    let e = byte_turn (mark_in a.marks) c.loop-i.out a.out.now a.at c.loop-i.i _ (λ k. refl) c.loop-i.invariant.1 (search rules) in
    (ap length e ∙ lay_length _ _ _, e)

pub returns : goal.returns
unfolding marks_bytes
returns c =
    let e : c.loop-i.i ≡ 7 = omega arith in
    rw e at c.loop-i.invariant.1
