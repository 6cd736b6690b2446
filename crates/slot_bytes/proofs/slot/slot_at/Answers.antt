-- `slot_bytes::slot::slot_at` meets its contract: field by field, where the layout has it.
use Rattle.std.proofs.Common.{rules}
use mathlib.Core.Path.{◌≡◌}
use Rattle.slot_bytes.specs.Slot.{narrowed}
use Rattle.slot_bytes.proofs.SlotLaws.{slot_is}
use Rattle.slot_bytes.proofs.slot.slot_at.Goals as goal

pub returns : goal.returns
returns c =
    let a = c.args in
    let narrow : c.unwrap_or.result ≡ narrowed c.word-2.result = search rules in
    slot_is a.s.now a.at c.status_of.ensures c.mark_of.ensures c.marks_at.ensures c.word.ensures c.word-2.ensures narrow c.set_at.ensures c.batch_at.ensures
