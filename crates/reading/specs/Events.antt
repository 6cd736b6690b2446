-- The header and the events of a trace.
use Rattle.std.specs.Prelude.{List, ℕ}
use Rattle.base.specs.declared.config.Config.{Config}
use Rattle.bounds.specs.Open.{config_of}
use Rattle.outcomes.specs.declared.message.Proposal.{Proposal}
use Rattle.proposing.specs.declared.proposals.Phase.{Phase}
use Rattle.proposing.specs.declared.proposals.Phase.TheVariants as Phases
use Rattle.base.specs.LogStatus.{status_of}
use Rattle.steps.specs.Calls.{Call, propose, reply, prepare, log, try, lead_at, tag_of}
use Rattle.steps.specs.declared.event.Tag.{Tag}
use Rattle.steps.specs.declared.event.Tag.TheVariants.{PreAccept, Accept, CommitNotice, AcceptReply, ExpPrepare, Logged, Attempt, Lead}
use Rattle.steps.specs.declared.event.Event.{Event}
use Rattle.steps.specs.declared.event.Event.TheVariants as Events
use Rattle.groups.specs.Cursor.{Numbers, numbers_from, number_from, number_within}
use Rattle.groups.specs.Numbers.{Cursor, Number}
use Rattle.reading.specs.Fields.{PlaceRead, MessageRead, SetRead, nth, place_from, message_from, set_from}
use Rattle.reading.specs.Batches.{BatchRead, batch_from}
use Rattle.reading.specs.Held.{held}
use Rattle.reading.specs.declared.events.Head.{Head}

-- ---- what was read, and where it ends or what was refused

pub record HeaderRead : Type 0 where
  pub config : Config
  pub cursor : Cursor

pub record ProposalRead : Type 0 where
  pub proposal : Proposal
  pub cursor : Cursor

pub record EventRead : Type 0 where
  pub event : Event
  pub cursor : Cursor

-- ---- the header: N, own number, simple, super

abbrev pub header_in : Numbers → HeaderRead
header_in x = record { config = config_of (nth x 0) (nth x 1) (nth x 2) (nth x 3); cursor = x.cursor }

abbrev pub start : Cursor
start = record { at = 0; refusal = 0 }

unfoldable pub header_of : List ℕ → HeaderRead
header_of s = header_in (numbers_from 4 s start)

-- as it is held
abbrev pub headed : HeaderRead → Head
headed x = record { config = x.config; next = x.cursor.at }

-- ---- PreAccept, Accept, CommitNotice: a message, sequence, N dependencies, batch

abbrev pub proposal_in : MessageRead → Number → SetRead → BatchRead → ProposalRead
proposal_in m seq d b =
    record {
      proposal = record { message = m.message; seq = seq.value; deps = d.set; batch = b.batch };
      cursor = b.cursor;
    }

abbrev pub from_set : List ℕ → MessageRead → Number → SetRead → ProposalRead
from_set s m seq d = proposal_in m seq d (batch_from s d.cursor)

abbrev pub from_seq : ℕ → List ℕ → MessageRead → Number → ProposalRead
from_seq n s m seq = from_set s m seq (set_from n s seq.cursor)

abbrev pub from_message : ℕ → List ℕ → MessageRead → ProposalRead
from_message n s m = from_seq n s m (number_from s m.cursor)

unfoldable pub proposal_from : ℕ → List ℕ → Cursor → ProposalRead
proposal_from n s c = from_message n s (message_from s c)

-- ---- an event: a tag, and what it asks for

pub record Found : Type 0 where
  pub call : Call
  pub cursor : Cursor

abbrev pub found : Call → Cursor → Found
found call c = record { call = call; cursor = c }

abbrev pub proposes : Phase → ProposalRead → Found
proposes phase x = found (propose phase x.proposal) x.cursor

abbrev pub logs : PlaceRead → Number → Found
logs x status = found (log (status_of status.value) x.at) status.cursor

abbrev pub by_tag : Tag → ℕ → List ℕ → Cursor → Found
by_tag PreAccept n s c = proposes Phases.PreAccept (proposal_from n s c)
by_tag Accept n s c = proposes Phases.Accept (proposal_from n s c)
by_tag CommitNotice n s c = proposes Phases.CommitNotice (proposal_from n s c)
by_tag AcceptReply n s c = found (reply (message_from s c).message) (message_from s c).cursor
by_tag ExpPrepare n s c = found (prepare (message_from s c).message) (message_from s c).cursor
by_tag Logged n s c = logs (place_from s c) (number_within 1 3 s (place_from s c).cursor)
by_tag Attempt n s c = found (try (place_from s c).at) (place_from s c).cursor
by_tag Lead n s c = found (lead_at (place_from s c).at) (place_from s c).cursor

-- of a trace of population n
unfoldable pub event_from : ℕ → List ℕ → Cursor → Found
event_from n s c = by_tag (tag_of (number_within 1 8 s c).value) n s (number_within 1 8 s c).cursor

-- ---- the values of an event

abbrev pub tag_for : Phase → Tag
tag_for Phases.PreAccept = PreAccept
tag_for Phases.Accept = Accept
tag_for Phases.CommitNotice = CommitNotice

abbrev pub event_of : Call → Event
event_of (propose Phases.PreAccept p) = Events.PreAccept p
event_of (propose Phases.Accept p) = Events.Accept p
event_of (propose Phases.CommitNotice p) = Events.CommitNotice p
event_of (reply m) = Events.AcceptReply m
event_of (prepare m) = Events.ExpPrepare m
event_of (log status at) = Events.Logged at status
event_of (try at) = Events.Attempt at
event_of (lead_at at) = Events.Lead at

-- as it is held
abbrev pub event_in : Found → EventRead
event_in x = record { event = event_of (held x.call); cursor = x.cursor }
