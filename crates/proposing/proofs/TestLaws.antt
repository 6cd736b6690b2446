-- What the tests after the refusals make of a proposal: its ballot, and then the sequence about to be stored.
use mathlib.Core.Path.{◌≡◌}
use Prim.Native.Nat.{◌<◌, ◌≤◌}
use borrow.Author.Tests.{lt-leb, le-leb}
use Rattle.base.specs.Refusals.{over_limit, sequence_limit}
use Rattle.table.specs.Table.{slot_of}
use Rattle.table.specs.declared.table.Table.{Table}
use Rattle.outcomes.specs.Outcome.{refused, ignored}
use Rattle.outcomes.specs.declared.message.Proposal.{Proposal}
use Rattle.proposing.specs.Proposals.{values_of, stored_for, logged, on_ballot}
use Rattle.proposing.specs.declared.proposals.Phase.{Phase}

module _ (phase : Phase) (t : Table) (p : Proposal) where
  pub ballot_below : p.message.ballot < (slot_of t p.message.at).ballot → on_ballot phase t p ≡ ignored t
  ballot_below l = rw (lt-leb _ _ l)

  pub sequence_over : (slot_of t p.message.at).ballot ≤ p.message.ballot → sequence_limit < (values_of phase t p).seq → on_ballot phase t p ≡ refused over_limit
  sequence_over l m = rw (le-leb _ _ l, lt-leb _ _ m)

  pub stored_as : (slot_of t p.message.at).ballot ≤ p.message.ballot → (values_of phase t p).seq ≤ sequence_limit
      → on_ballot phase t p ≡ logged t p.message.at (stored_for phase (slot_of t p.message.at) p.message (values_of phase t p) p.batch)
  stored_as l m = rw (le-leb _ _ l, le-leb _ _ m)
