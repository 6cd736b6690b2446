-- `image::tables::put_slots` meets its contract: the slots passed so far are laid.
use mathlib.Core.Path.{◌≡◌, refl, ap, ◌∙◌}
use native.Mathlib.Omega.{arith}
use lib.ListN.{length, get_or}
use Rattle.slots.specs.Slot.{blank_slot}
use Rattle.layout.specs.Numbers.{lay}
use Rattle.layout.specs.Each.{each_bytes}
use Rattle.layout.proofs.Laying.{lay_length}
use Rattle.layout.proofs.EachLaws.{lay_turn}
use Rattle.image.specs.Tables.{slot_in, slots_bytes}
use Rattle.slot_bytes.proofs.SlotLaws.{slot_length}
use Rattle.image.proofs.tables.put_slots.Goals as goal

pub loop-i-init : goal.loop-i-init
unfolding each_bytes lay
loop-i-init c = (refl, refl)

pub loop-i-preserved : goal.loop-i-preserved
loop-i-preserved c =
    let a = c.args in
    let e = lay_turn (slot_in a.slots.now) 142 (λ k. slot_length (get_or a.slots.now k blank_slot)) _ _ _ a.at c.loop-i.i c.loop-i.invariant.1 c.put_slot.ensures in
    (ap length e ∙ lay_length _ _ _, e)

pub returns : goal.returns
unfolding slots_bytes
returns c =
    let e : c.loop-i.i ≡ 224 = omega arith in
    rw e at c.loop-i.invariant.1
