-- PreAccept, Accept and CommitNotice.
use Rattle.std.specs.Prelude.{[], ◌∷◌, cond, leb, ℕ, suc, max}
use Rattle.base.specs.Refusals.{over_limit, sequence_limit}
use Rattle.base.specs.declared.status.Status.{Status}
use Rattle.base.specs.declared.status.Status.TheVariants.{PreAccepting, Accepting, Committed}
use Rattle.deps.specs.Sets.{union_of}
use Rattle.deps.specs.declared.batches.Batch.{Batch}
use Rattle.deps.specs.declared.sets.DepSet.{DepSet}
use Rattle.keys.specs.Columns.{identify_of}
use Rattle.slots.specs.Slot.{stored_with, heard_from}
use Rattle.table.specs.Table.{slot_of, nulls_to, stored_at}
use Rattle.bounds.specs.Highest.{highest_of}
use Rattle.table.specs.declared.place.Place.{Place}
use Rattle.slots.specs.declared.slot.Slot.{Slot}
use Rattle.table.specs.declared.table.Table.{Table}
use Rattle.outcomes.specs.Output.{log_of}
use Rattle.outcomes.specs.Outcome.{Handled, refused, ignored, done, unless_refused}
use Rattle.outcomes.specs.Refusal.{proposal_refusal}
use Rattle.outcomes.specs.declared.message.Message.{Message}
use Rattle.outcomes.specs.declared.message.Proposal.{Proposal}
use Rattle.proposing.specs.declared.proposals.Phase.{Phase}
use Rattle.proposing.specs.declared.proposals.Phase.TheVariants.{PreAccept, Accept, CommitNotice}
use Rattle.proposing.specs.declared.proposals.Values.{Values}

abbrev pub values : ℕ → DepSet → Values
values seq deps = record { seq = seq; deps = deps }

abbrev pub given : Proposal → Values
given p = values p.seq p.deps

-- dependencies = given ∪ mine; sequence = max(given, 1 + highest of mine)
abbrev pub raised_from : DepSet → ℕ → Values → Values
raised_from mine highest v = values (max v.seq (suc highest)) (union_of v.deps mine)

-- my set = identify
unfoldable pub raised_by : Table → Batch → Values → Values
raised_by t b v = raised_from (identify_of t.keys b) (highest_of t (identify_of t.keys b)) v

-- Accept and CommitNotice store as given
abbrev pub phase_values : Phase → Values → Values → Values
phase_values PreAccept raised v = raised
phase_values Accept raised v = v
phase_values CommitNotice raised v = v

abbrev pub values_from : Phase → DepSet → ℕ → Proposal → Values
values_from phase mine highest p = phase_values phase (raised_from mine highest (given p)) (given p)

abbrev pub values_of : Phase → Table → Proposal → Values
values_of phase t p = phase_values phase (raised_by t p.batch (given p)) (given p)

-- the status that the slot is stored with
abbrev pub status_after : Phase → Status
status_after PreAccept = PreAccepting
status_after Accept = Accepting
status_after CommitNotice = Committed

-- the source is the peer, and not touched by a CommitNotice
abbrev pub stored_for : Phase → Slot → Message → Values → Batch → Slot
stored_for PreAccept s m v b = heard_from (stored_with s m.ballot PreAccepting v.seq v.deps b) m.peer
stored_for Accept s m v b = heard_from (stored_with s m.ballot Accepting v.seq v.deps b) m.peer
stored_for CommitNotice s m v b = stored_with s m.ballot Committed v.seq v.deps b

-- the slot stored, the keys refreshed, one log record of the stored values
abbrev pub logged : Table → Place → Slot → Handled
logged t at s = done (stored_at t at s) (log_of at s ∷ [])

-- unless the sequence about to be stored is over the limit
abbrev pub with_values : Phase → Table → Proposal → Values → Handled
with_values phase t p v =
    cond (leb v.seq sequence_limit) (logged t p.message.at (stored_for phase (slot_of t p.message.at) p.message v p.batch)) (refused over_limit)

-- ballot ≥ slot's
abbrev pub on_ballot : Phase → Table → Proposal → Handled
on_ballot phase t p = cond (leb (slot_of t p.message.at).ballot p.message.ballot) (with_values phase t p (values_of phase t p)) (ignored t)

-- null slots up to the column first
unfoldable pub proposed : Phase → Table → Proposal → Handled
proposed phase t p = unless_refused (proposal_refusal t p) (on_ballot phase (nulls_to t p.message.at) p)

abbrev pub pre_accept : Table → Proposal → Handled
pre_accept = proposed PreAccept

abbrev pub accept : Table → Proposal → Handled
accept = proposed Accept

abbrev pub commit_notice : Table → Proposal → Handled
commit_notice = proposed CommitNotice
