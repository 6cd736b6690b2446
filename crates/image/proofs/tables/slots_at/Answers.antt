-- `image::tables::slots_at` meets its contract: each slot is read at its place.
use Rattle.std.proofs.Common.{rules}
use Rattle.slots.specs.Slot.{blank_slot}
use Rattle.layout.proofs.EachLaws.{made_is}
use Rattle.slot_bytes.specs.Slot.{slot_at}
use Rattle.image.specs.Tables.{slots_at}
use Rattle.image.proofs.tables.slots_at.Goals as goal

pub returns : goal.returns
unfolding slots_at
returns c = made_is _ slot_at 142 c.args.at c.args.s.now _ (λ i y q h. search rules) 224 _ blank_slot c.from_fn.ensures.items
