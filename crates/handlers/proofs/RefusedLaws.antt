-- A call is refused exactly when the table of refusals says so, and a refused call leaves everything as it was.
use mathlib.Core.Path.{◌≡◌, refl}
use mathlib.Core.List.{[]}
use mathlib.Core.Logic.{◌↔◌, ◌⊎◌, inl, inr}
use mathlib.Core.Bool.{true, false}
use Prim.Native.Nat.{ℕ, zero, suc, ◌<◌, ◌≤◌}
use native.Mathlib.Omega.{arith}
use borrow.Author.Tests.{ltb-true, ltb-false, leb-false}
use Rattle.base.specs.Refusals.{first_refusal, outside_bounds, no_replica, no_column, bad_dependency, bad_batch, over_limit, no_slot, sequence_limit}
use Rattle.base.specs.declared.answer.Answer.TheVariants.{Refused}
use Rattle.base.proofs.RefusalLaws.{passed_first, at_first}
use Rattle.deps.specs.Sets.{set_fits}
use Rattle.deps.specs.Batches.{batch_fits}
use Rattle.table.specs.Table.{holds}
use Rattle.bounds.specs.Bounds.{table_fits}
use Rattle.table.specs.declared.place.Place.{Place}
use Rattle.table.specs.declared.table.Table.{Table}
use Rattle.outcomes.specs.Output.{output_of}
use Rattle.outcomes.specs.Outcome.{Handled, refused, ignored, outcome_of}
use Rattle.outcomes.specs.Refusal.{message_tests, contents_tests, lead_tests, message_refusal, proposal_refusal, lead_refusal}
use Rattle.outcomes.specs.declared.message.Message.{Message}
use Rattle.outcomes.specs.declared.message.Proposal.{Proposal}
use Rattle.proposing.specs.Proposals.{proposed}
use Rattle.proposing.specs.declared.proposals.Phase.{Phase}
use Rattle.proposing.specs.declared.proposals.Phase.TheVariants.{PreAccept}
use Rattle.handlers.specs.Replies.{on_mark, accept_reply}
use Rattle.handlers.specs.Prepare.{exp_prepare}
use Rattle.handlers.specs.Lead.{lead_slot}
use Rattle.outcomes.proofs.RefusalLaws.{Placed, Heard, Taken, message_heard, proposal_taken, head_refused, head_passed}
use Rattle.handlers.proofs.CaseLaws.{slot_before, to_store}

-- ---- what a refused call leaves, and what an ignored one puts out

pub refused_leaves : (t : Table) (k : ℕ) → ((outcome_of t (refused k)).table ≡ t) × ((outcome_of t (refused k)).output ≡ output_of [])
refused_leaves t k = (refl, refl)

pub ignored_puts_out : (t u : Table) → (outcome_of t (ignored u)).output ≡ output_of []
ignored_puts_out t u = refl

-- the answer is a refusal's number exactly where the call is refused with it
pub answers_refused : (t : Table) (h : Handled) (k : ℕ) → ((outcome_of t h).answer ≡ Refused k) ↔ (h ≡ refused k)
answers_refused t h k = grind arith

-- ---- when each number is given, in the order of the numbers

pub data MessageRefused (t : Table) (m : Message) : ℕ → Type 0 where
  -- configuration or table outside the bounds
  outside : table_fits t ≡ false → MessageRefused t m outside_bounds
  -- peer or row at n or more
  no_replica_lem : table_fits t ≡ true → (t.config.n ≤ m.peer) ⊎ (t.config.n ≤ m.at.row) → MessageRefused t m no_replica
  no_column_lem : table_fits t ≡ true → m.peer < t.config.n → m.at.row < t.config.n → 32 ≤ m.at.col → MessageRefused t m no_column

pub data ContentsRefused (t : Table) (p : Proposal) : ℕ → Type 0 where
  bad_dependency_lem : Heard t p.message → set_fits t.config.n p.deps ≡ false → ContentsRefused t p bad_dependency
  bad_batch_lem : Heard t p.message → set_fits t.config.n p.deps ≡ true → batch_fits p.batch ≡ false → ContentsRefused t p bad_batch
  -- the sequence given
  over_limit_lem : Heard t p.message → set_fits t.config.n p.deps ≡ true → batch_fits p.batch ≡ true → sequence_limit < p.seq → ContentsRefused t p over_limit

pub data ProposalRefused (phase : Phase) (t : Table) (p : Proposal) : ℕ → Type 0 where
  by_message : {k : ℕ} → MessageRefused t p.message k → ProposalRefused phase t p k
  by_contents : {k : ℕ} → ContentsRefused t p k → ProposalRefused phase t p k
  -- after the ballot, the sequence about to be stored
  stored_over : Taken t p → (slot_before t p.message).ballot ≤ p.message.ballot → sequence_limit < (to_store phase t p).seq → ProposalRefused phase t p over_limit

pub data LeadRefused (t : Table) (at : Place) : ℕ → Type 0 where
  outside : table_fits t ≡ false → LeadRefused t at outside_bounds
  no_row : table_fits t ≡ true → t.config.n ≤ at.row → LeadRefused t at no_replica
  no_column_lem : table_fits t ≡ true → at.row < t.config.n → 32 ≤ at.col → LeadRefused t at no_column
  no_slot_lem : Placed t at → holds t at ≡ false → LeadRefused t at no_slot

-- ---- a message

module _ (t : Table) (m : Message) where
  some_message : 0 < message_refusal t m → MessageRefused t m (message_refusal t m)
  unfolding message_refusal
  some_message =
      at_first (MessageRefused t m) (message_tests t m) (
        outside,
        λ w. (
          λ e. no_replica_lem w (inl (ltb-false _ _ e)),
          λ p. (
            λ e. no_replica_lem w (inr (ltb-false _ _ e)),
            λ r. (λ e. no_column_lem w (ltb-true _ _ p) (ltb-true _ _ r) (ltb-false _ _ e), λ c. tt),
          ),
        ),
      )

  message_number : {k : ℕ} → MessageRefused t m k → (message_refusal t m ≡ k) × (0 < k)
  unfolding message_refusal first_refusal
  message_number e = grind arith

  -- none where all is as it should be
  pub heard_passed : Heard t m → message_refusal t m ≡ 0
  unfolding message_refusal
  heard_passed h = grind (arith, passed_first)

-- AcceptReply and ExpPrepare are refused for nothing else
pub reply_exactly : (t : Table) (m : Message) (k : ℕ) → (accept_reply t m ≡ refused k) ↔ MessageRefused t m k
unfolding accept_reply on_mark
reply_exactly t m k = grind (arith, message_number, some_message)

pub prepare_exactly : (t : Table) (m : Message) (k : ℕ) → (exp_prepare t m ≡ refused k) ↔ MessageRefused t m k
unfolding exp_prepare
prepare_exactly t m k = grind (arith, message_number, some_message)

-- ---- a proposal

module _ (t : Table) (p : Proposal) where
  some_contents : Heard t p.message → 0 < first_refusal (contents_tests t p) → ContentsRefused t p (first_refusal (contents_tests t p))
  some_contents h =
      at_first (ContentsRefused t p) (contents_tests t p) (
        bad_dependency_lem h,
        λ d. (bad_batch_lem h d, λ b. (λ e. over_limit_lem h d b (leb-false _ _ e), λ s. tt)),
      )

  contents_number : {k : ℕ} → ContentsRefused t p k → (proposal_refusal t p ≡ k) × (0 < k)
  unfolding first_refusal
  contents_number e = grind (arith, head_passed, heard_passed)

  -- none where all is as it should be
  pub taken_passed : Taken t p → proposal_refusal t p ≡ 0
  taken_passed h = grind (arith, head_passed, heard_passed, passed_first)

  module _ (phase : Phase) where
    some_proposal : 0 < proposal_refusal t p → ProposalRefused phase t p (proposal_refusal t p)
    some_proposal l = go (message_refusal t p.message) refl
      where
        go : (n : ℕ) → message_refusal t p.message ≡ n → ProposalRefused phase t p (proposal_refusal t p)
        go zero e =
            let f = head_passed t p e in
            rw f (by_contents (some_contents (message_heard t p.message e) (rw f at l)))
        go (suc n) e =
            let f = head_refused t p (message_refusal t p.message) refl (omega arith) in
            rw (← f) (by_message (some_message t p.message (omega arith)))

    proposal_is : {k : ℕ} → ProposalRefused phase t p k → proposed phase t p ≡ refused k
    unfolding proposed
    proposal_is e = grind (arith, message_number, head_refused, contents_number, taken_passed)

pub proposed_exactly : (phase : Phase) (t : Table) (p : Proposal) (k : ℕ) → (proposed phase t p ≡ refused k) ↔ ProposalRefused phase t p k
unfolding proposed
proposed_exactly phase t p k = grind (arith, some_proposal, proposal_is, proposal_taken, stored_over)

-- only a PreAccept can be about to store what was not given
pub only_pre_accept_over : (phase : Phase) (t : Table) (p : Proposal) → Taken t p → sequence_limit < (to_store phase t p).seq → phase ≡ PreAccept
only_pre_accept_over phase t p e f = grind arith

-- ---- Lead

module _ (t : Table) (at : Place) where
  pub some_lead : 0 < lead_refusal t at → LeadRefused t at (lead_refusal t at)
  unfolding lead_refusal
  some_lead =
      at_first (LeadRefused t at) (lead_tests t at) (
        outside,
        λ w. (
          λ e. no_row w (ltb-false _ _ e),
          λ r. (
            λ e. no_column_lem w (ltb-true _ _ r) (ltb-false _ _ e),
            λ c. (no_slot_lem (record { within = w; row = ltb-true _ _ r; col = ltb-true _ _ c }), λ h. tt),
          ),
        ),
      )

  pub lead_number : {k : ℕ} → LeadRefused t at k → (lead_refusal t at ≡ k) × (0 < k)
  unfolding lead_refusal first_refusal
  lead_number e = grind arith

  pub lead_exactly : (k : ℕ) → (lead_slot t at ≡ refused k) ↔ LeadRefused t at k
  unfolding lead_slot
  lead_exactly k = grind (arith, lead_number, some_lead)
