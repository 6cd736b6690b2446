-- The events of a trace, as calls of the entries.
use Rattle.std.specs.Prelude.{cond, eqb, leb, ◌&&◌, ℕ, Result, Ok, Err}
use Rattle.table.specs.declared.place.Place.{Place}
use Rattle.outcomes.specs.declared.message.Message.{Message}
use Rattle.outcomes.specs.declared.message.Proposal.{Proposal}
use Rattle.proposing.specs.declared.proposals.Phase.{Phase}
use Rattle.proposing.specs.declared.proposals.Phase.TheVariants as Phases
use Rattle.base.specs.declared.log_status.LogStatus.{LogStatus}
use Rattle.base.specs.declared.refusals.Refusal.{Refusal}
use Rattle.base.specs.declared.refusals.Refusal.TheVariants.{Unreadable}
use Rattle.steps.specs.declared.event.Tag.{Tag}
use Rattle.steps.specs.declared.event.Tag.TheVariants.{PreAccept, Accept, CommitNotice, AcceptReply, ExpPrepare, Logged, Attempt, Lead}
use Rattle.steps.specs.declared.event.Event.{Event}
use Rattle.steps.specs.declared.event.Event.TheVariants as Events

-- 1 PreAccept, 2 Accept, 3 CommitNotice; 4 AcceptReply; 5 ExpPrepare; 6 Logged; 7 Attempt; 8 Lead
pub data Call : Type 0 where
  propose : Phase → Proposal → Call
  reply : Message → Call
  prepare : Message → Call
  log : LogStatus → Place → Call
  try : Place → Call
  lead_at : Place → Call

abbrev pub tag_number : Tag → ℕ
tag_number PreAccept = 1
tag_number Accept = 2
tag_number CommitNotice = 3
tag_number AcceptReply = 4
tag_number ExpPrepare = 5
tag_number Logged = 6
tag_number Attempt = 7
tag_number Lead = 8

-- what an event stands for
abbrev pub call_of : Event → Call
call_of (Events.PreAccept p) = propose Phases.PreAccept p
call_of (Events.Accept p) = propose Phases.Accept p
call_of (Events.CommitNotice p) = propose Phases.CommitNotice p
call_of (Events.AcceptReply m) = reply m
call_of (Events.ExpPrepare m) = prepare m
call_of (Events.Logged at status) = log status at
call_of (Events.Attempt at) = try at
call_of (Events.Lead at) = lead_at at

-- of a number that stands for none it is Lead
unfoldable pub tag_of : ℕ → Tag
tag_of k =
    cond (eqb k 1) PreAccept
    (cond (eqb k 2) Accept
    (cond (eqb k 3) CommitNotice
    (cond (eqb k 4) AcceptReply (cond (eqb k 5) ExpPrepare (cond (eqb k 6) Logged (cond (eqb k 7) Attempt Lead))))))

-- a number that stands for none is unreadable
abbrev pub tag_in : ℕ → Result Tag Refusal
tag_in k = cond (leb 1 k && leb k 8) (Ok (tag_of k)) (Err Unreadable)
