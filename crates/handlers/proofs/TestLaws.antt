-- What the tests after the refusals make of an AcceptReply that is heeded.
use mathlib.Core.Path.{◌≡◌}
use mathlib.Core.Bool.{true}
use Rattle.slots.specs.Slot.{with_mark}
use Rattle.table.specs.Table.{holds, slot_of}
use Rattle.table.specs.declared.table.Table.{Table}
use Rattle.outcomes.specs.declared.message.Message.{Message}
use Rattle.handlers.specs.Replies.{heeds, on_mark, on_held}

module _ (t : Table) (m : Message) where
  -- the slot that an AcceptReply names
  pub heeded : holds t m.at ≡ true → heeds (slot_of t m.at) m ≡ true → on_held t m ≡ on_mark t m.at (with_mark (slot_of t m.at) m.peer)
  heeded e f = rw (e, f)
