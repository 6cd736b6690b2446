-- What an event changes of the table: a handler null slots and one slot, which it does not run; an attempt slots alone.
use mathlib.Core.Path.{◌≡◌, refl, sym}
use mathlib.Core.Bool.{true, true≢false}
use Prim.Native.Nat.{ℕ, zero, suc, ◌<◌}
use Rattle.base.specs.declared.answer.Answer.TheVariants.{Refused}
use Rattle.deps.specs.declared.batches.Batch.{Batch}
use Rattle.slots.specs.Slot.{is_executed}
use Rattle.slots.specs.declared.slot.Slot.{Slot}
use Rattle.table.specs.Table.{slot_of, put_at, nulls_to, stored_at}
use Rattle.table.specs.declared.place.Place.{Place}
use Rattle.table.specs.declared.table.Table.{Table}
use Rattle.outcomes.specs.Outcome.{Handled, outcome_of}
use Rattle.outcomes.specs.declared.message.Message.{Message}
use Rattle.outcomes.specs.declared.message.Proposal.{Proposal}
use Rattle.proposing.specs.Proposals.{stored_for, proposed}
use Rattle.proposing.specs.declared.proposals.Phase.{Phase}
use Rattle.proposing.specs.declared.proposals.Phase.TheVariants.{PreAccept, Accept, CommitNotice}
use Rattle.proposing.specs.declared.proposals.Values.{Values}
use Rattle.handlers.specs.Replies.{accept_reply}
use Rattle.handlers.specs.Prepare.{exp_prepare}
use Rattle.handlers.specs.Lead.{lead_slot}
use Rattle.handlers.proofs.CaseLaws.{proposed_cases, reply_cases, mark_cases, prepare_cases, lead_cases}
use Rattle.attempts.specs.Attempt.{tried, attempt_on, attempt_or, attempt_of}
use Rattle.attempts.specs.Refusal.{attempt_refusal}
use Rattle.attempts.specs.declared.attempt.Attempted.{Attempted}
use Rattle.attempts.proofs.RefusedLaws.{Tried, attempt_tried}
use Rattle.rising.proofs.BarLaws.{OnlySlots, attempt_only_slots}

-- ---- a handler

-- a slot that has run is not put where one stands that has not
abbrev RunBefore : Table → Place → Slot → Type 0
RunBefore u at s = is_executed s ≡ true → is_executed (slot_of u at) ≡ true

-- what is left of a table where null slots are added up to a place, slots put or stored at it, or nothing is done
pub data Touched (t : Table) (at : Place) : Table → Type 0 where
  as_was : Touched t at t
  filled_to : at.col < 32 → Touched t at (nulls_to t at)
  put_in : {u : Table} (s : Slot) → RunBefore u at s → Touched t at u → Touched t at (put_at u at s)
  stored_in : {u : Table} (s : Slot) → RunBefore u at s → Touched t at u → Touched t at (stored_at u at s)

-- of the table that a handler gives back
abbrev Touches : Table → Place → Handled → Type 0
Touches t at h = Touched t at (outcome_of t h).table

-- PreAccepting, Accepting or Committed
stored_unrun : (phase : Phase) (s : Slot) (m : Message) (v : Values) (b : Batch) → is_executed (stored_for phase s m v b) ≡ true → ⊥
stored_unrun PreAccept s m v b e = true≢false (sym e)
stored_unrun Accept s m v b e = true≢false (sym e)
stored_unrun CommitNotice s m v b e = true≢false (sym e)

pub proposed_touches : (phase : Phase) (t : Table) (p : Proposal) → Touches t p.message.at (proposed phase t p)
proposed_touches phase t p =
    proposed_cases (Touches t p.message.at) phase t p
    (λ _. as_was)
    (λ taken _. filled_to taken.heard.placed.col)
    (λ _ _ _. as_was)
    (λ taken _ _. stored_in _ (λ e. absurd (stored_unrun phase _ _ _ _ e)) (filled_to taken.heard.placed.col))

pub reply_touches : (t : Table) (m : Message) → Touches t m.at (accept_reply t m)
reply_touches t m =
    reply_cases (Touches t m.at) t m
    (λ _. as_was)
    (λ _ _. as_was)
    (λ _ _ _. mark_cases (Touches t m.at) t m.at _ (λ _. put_in _ (λ e. e) as_was) (λ _. put_in _ (λ e. absurd (true≢false (sym e))) as_was))

pub prepare_touches : (t : Table) (m : Message) → Touches t m.at (exp_prepare t m)
prepare_touches t m =
    prepare_cases (Touches t m.at) t m
    (λ _. as_was)
    (λ heard _. filled_to heard.placed.col)
    (λ heard _. put_in _ (λ e. e) (filled_to heard.placed.col))

pub lead_touches : (t : Table) (at : Place) → Touches t at (lead_slot t at)
lead_touches t at = lead_cases (Touches t at) t at (λ _. as_was) (λ _. put_in _ (λ e. e) as_was)

-- ---- an attempt

module _ (t : Table) (at : Place) (entries : ℕ) where
  -- refused, or tried
  pub attempt_cases : (P : Attempted → Type 0) → ((k : ℕ) → P (tried (Refused k) t at)) → (Tried t at entries → P (attempt_on t at)) → P (attempt_of t at entries)
  unfolding attempt_of
  attempt_cases P number event = go (attempt_refusal t at entries) refl
    where
      go : (n : ℕ) → attempt_refusal t at entries ≡ n → P (attempt_or (attempt_refusal t at entries) t at)
      go zero e = rw e (event (attempt_tried t at entries e))
      go (suc k) e = rw e (number (suc k))

  pub attempt_slots : OnlySlots t (attempt_of t at entries).table
  attempt_slots =
      attempt_cases (λ a. OnlySlots t a.table)
      (λ _. record { config = refl; lens = refl; bars = refl; keys = refl })
      (λ _. attempt_only_slots t at)
