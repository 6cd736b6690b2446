-- What goes out once a slot is logged PreAccepting or Accepting. Every record has the slot's present values.
use Rattle.std.specs.Prelude.{List, [], ◌∷◌, cond, ℕ, zero, suc}
use Rattle.base.specs.declared.answer.Answer.TheVariants.{Done}
use Rattle.slots.specs.Slot.{null_slot}
use Rattle.slots.specs.declared.slot.Slot.{Slot}
use Rattle.table.specs.Table.{slot_of}
use Rattle.table.specs.declared.place.Place.{Place}
use Rattle.table.specs.declared.table.Table.{Table}
use Rattle.outcomes.specs.Output.{record_of, output_of}
use Rattle.outcomes.specs.Outcome.{outcome, outcome_of, done_with}
use Rattle.outcomes.specs.declared.message.Message.{Message}
use Rattle.outcomes.specs.declared.output.What.{What}
use Rattle.outcomes.specs.declared.output.What.TheVariants.{PreAcceptReply, AcceptReply, NoteToSelf}
use Rattle.outcomes.specs.declared.output.Record.{Record}
use Rattle.outcomes.specs.declared.output.Output.{Output}
use Rattle.outcomes.specs.declared.outcome.Outcome.{Outcome}
use Rattle.changes.specs.declared.change.Change.{Change}
use Rattle.changes.specs.declared.change.Extent.TheVariants.{Nothing}
use Rattle.handlers.specs.Replies.{accept_reply}
use Rattle.logged.specs.declared.replies.Reply.{Reply}
use Rattle.logged.specs.declared.replies.Reply.TheVariants.{PreAccept, Accept}

-- a reply to the source, which is 0 for none and p + 1 for the peer p
abbrev pub to_source : ℕ → (ℕ → What) → Place → Slot → List Record
to_source zero reply at s = []
to_source (suc peer) reply at s = record_of (reply peer) at s ∷ []

-- led, a note to self; else a PreAcceptReply to the source; else nothing
unfoldable pub pre_accepting_out : Place → Slot → List Record
pre_accepting_out at s = cond s.led (record_of NoteToSelf at s ∷ []) (to_source s.source PreAcceptReply at s)

-- an AcceptReply from myself
abbrev pub my_reply : Table → Place → ℕ → Message
my_reply t at ballot = record { peer = t.config.own; at = at; ballot = ballot }

-- done, whatever the reply is answered
unfoldable pub own_reply : Table → Place → ℕ → Outcome
own_reply t at ballot =
    done_with (outcome_of t (accept_reply t (my_reply t at ballot))).table (outcome_of t (accept_reply t (my_reply t at ballot))).output

-- led, as AcceptReply from myself at the slot's ballot; else AcceptReply to the source; else nothing
unfoldable pub on_accepting : Table → Place → Outcome
on_accepting t at =
    cond (slot_of t at).led
    (own_reply t at (slot_of t at).ballot)
    (outcome Done t (to_source (slot_of t at).source AcceptReply at (slot_of t at)))

-- the one reply or the other, to a peer
abbrev pub reply_to : Reply → ℕ → What
reply_to PreAccept peer = PreAcceptReply peer
reply_to Accept peer = AcceptReply peer

-- the change that leaves the table as it was
abbrev pub leaving : Output → Change
leaving output = record { slot = null_slot; output = output; answer = Done; extent = Nothing }

abbrev pub putting_out : List Record → Change
putting_out records = leaving (output_of records)
