-- ExpPrepare.
use Rattle.std.specs.Prelude.{[], ◌∷◌, cond, ltb}
use Rattle.slots.specs.Slot.{heard_from}
use Rattle.table.specs.Table.{slot_of, nulls_to, put_at}
use Rattle.table.specs.declared.table.Table.{Table}
use Rattle.outcomes.specs.Output.{reply_of}
use Rattle.outcomes.specs.Outcome.{Handled, ignored, done, unless_refused}
use Rattle.outcomes.specs.Refusal.{message_refusal}
use Rattle.outcomes.specs.declared.message.Message.{Message}

-- the source is the peer, which gets the slot's values; the ballot stays
abbrev pub replied : Table → Message → Handled
replied t m =
    done (put_at t m.at (heard_from (slot_of t m.at) m.peer)) (reply_of m.peer m.ballot m.at (slot_of t m.at) ∷ [])

-- ballot strictly greater
abbrev pub on_greater : Table → Message → Handled
on_greater t m = cond (ltb (slot_of t m.at).ballot m.ballot) (replied t m) (ignored t)

-- null slots up to the column first
unfoldable pub exp_prepare : Table → Message → Handled
exp_prepare t m = unless_refused (message_refusal t m) (on_greater (nulls_to t m.at) m)
