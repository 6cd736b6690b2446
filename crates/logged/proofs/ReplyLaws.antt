-- What goes out, by the slot's lead and source.
use mathlib.Core.Path.{◌≡◌, refl, ap, sym, ◌∙◌}
use mathlib.Core.List.{[], ◌∷◌}
use mathlib.Core.Bool.{true, false}
use Rattle.base.specs.declared.answer.Answer.TheVariants.{Done}
use Rattle.deps.specs.Batches.{no_op}
use Rattle.table.specs.Table.{slot_of}
use Rattle.table.specs.declared.place.Place.{Place}
use Rattle.table.specs.declared.table.Table.{Table}
use Rattle.outcomes.specs.Output.{record_of}
use Rattle.outcomes.specs.Outcome.{done_with}
use Rattle.outcomes.specs.declared.message.Message.{Message}
use Rattle.outcomes.specs.declared.outcome.Outcome.{Outcome}
use Rattle.outcomes.specs.declared.output.What.TheVariants.{NoteToSelf}
use Rattle.changes.specs.View.{view_of}
use Rattle.changes.specs.Change.{MakesForAny}
use Rattle.changes.specs.declared.view.View.{View}
use Rattle.changes.specs.declared.change.Change.{Change}
use Rattle.changes.proofs.ViewLaws.{config_seen, held_slot}
use Rattle.handlers.specs.Replies.{accept_reply}
use Rattle.logged.specs.Replies.{to_source, reply_to, putting_out, pre_accepting_out, own_reply, on_accepting}
use Rattle.logged.specs.Logged.{RepliesWith}
use Rattle.logged.specs.declared.replies.Reply.{Reply}
use Rattle.logged.specs.declared.replies.Reply.TheVariants.{PreAccept, Accept}

-- the AcceptReply from myself, as the view has it
abbrev my_reply_in : View → Place → Message
my_reply_in v at = record { peer = v.config.own; at = at; ballot = v.slot.ballot }

-- ---- led, or not: what the change makes of every table that looks so

module _ (v : View) (at : Place) (held : v.held ≡ true) where
  its_slot : (t : Table) → view_of t at no_op ≡ v → v.slot ≡ slot_of t at
  its_slot t e = sym (held_slot t at no_op v e held)

  pub note_replies : v.slot.led ≡ true → RepliesWith PreAccept v at (putting_out (record_of NoteToSelf at v.slot ∷ []))
  unfolding pre_accepting_out
  note_replies l = record { inside = tt; same = λ t lens e. rw (← its_slot t e, l) refl }

  pub source_replies : (reply : Reply) → v.slot.led ≡ false → RepliesWith reply v at (putting_out (to_source v.slot.source (reply_to reply) at v.slot))
  unfolding pre_accepting_out on_accepting
  source_replies PreAccept l = record { inside = tt; same = λ t lens e. rw (← its_slot t e, l) refl }
  source_replies Accept l = record { inside = tt; same = λ t lens e. rw (← its_slot t e, l) refl }

  -- an AcceptReply from myself, by its change
  pub own_replies : v.slot.led ≡ true → (c : Change) → MakesForAny (λ t. accept_reply t (my_reply_in v at)) v at c
      → RepliesWith Accept v at (record { slot = c.slot; output = c.output; answer = Done; extent = c.extent })
  unfolding on_accepting own_reply
  own_replies l c makes =
      record {
        inside = (makes no_op).inside;
        same = λ t lens e. ap (λ (o : Outcome). done_with o.table o.output) ((makes no_op).same t lens e) ∙ rw (← its_slot t e, config_seen t at no_op v e, l) refl;
      }
