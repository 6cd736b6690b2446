-- What a call comes to: refused, ignored or done, case by case and with what is known there.
use mathlib.Core.Path.{◌≡◌}
use mathlib.Core.List.{List, [], ◌∷◌}
use mathlib.Core.Bool.{true, false, ◌&&◌}
use Prim.Native.Nat.{ℕ, ◌<◌, ◌≤◌}
use native.Mathlib.Omega.{arith}
use Rattle.base.specs.Refusals.{over_limit, sequence_limit}
use Rattle.base.specs.Marks.{count_of}
use Rattle.slots.specs.Slot.{leading, with_mark, committed}
use Rattle.table.specs.Table.{holds, slot_of, put_at, nulls_to}
use Rattle.table.specs.declared.place.Place.{Place}
use Rattle.slots.specs.declared.slot.Slot.{Slot}
use Rattle.table.specs.declared.table.Table.{Table}
use Rattle.outcomes.specs.Output.{log_of, notice_of}
use Rattle.outcomes.specs.Outcome.{Handled, refused, ignored, done}
use Rattle.outcomes.specs.Refusal.{message_refusal, proposal_refusal, lead_refusal}
use Rattle.outcomes.specs.declared.message.Message.{Message}
use Rattle.outcomes.specs.declared.message.Proposal.{Proposal}
use Rattle.outcomes.specs.declared.output.Record.{Record}
use Rattle.proposing.specs.Proposals.{values_of, stored_for, logged, proposed}
use Rattle.proposing.specs.declared.proposals.Phase.{Phase}
use Rattle.proposing.specs.declared.proposals.Values.{Values}
use Rattle.handlers.specs.Replies.{heeds, on_mark, accept_reply}
use Rattle.handlers.specs.Prepare.{replied, exp_prepare}
use Rattle.handlers.specs.Lead.{lead_slot}
use Rattle.outcomes.proofs.RefusalLaws.{Heard, Taken, Led, message_heard, proposal_taken, lead_led}

-- ---- a statement for each of the three

abbrev pub Each : (ℕ → Type 0) → (Table → Type 0) → (Table → List Record → Type 0) → Handled → Type 0
Each R I D (refused k) = R k
Each R I D (ignored u) = I u
Each R I D (done u records) = D u records

abbrev pub WhenRefused : (ℕ → Type 0) → Handled → Type 0
WhenRefused R = Each R (λ u. Unit) (λ u records. Unit)

abbrev pub WhenDone : (Table → List Record → Type 0) → Handled → Type 0
WhenDone D = Each (λ k. Unit) (λ u. Unit) D

-- ---- what a handler begins with, and what it stores

-- the table with its null slots, and the slot that a message finds there
abbrev pub filled : Table → Message → Table
filled t m = nulls_to t m.at

abbrev pub slot_before : Table → Message → Slot
slot_before t m = slot_of (filled t m) m.at

-- sequence and dependencies about to be stored, and the slot with them
abbrev pub to_store : Phase → Table → Proposal → Values
to_store phase t p = values_of phase (filled t p.message) p

abbrev pub slot_after : Phase → Table → Proposal → Slot
slot_after phase t p = stored_for phase (slot_before t p.message) p.message (to_store phase t p) p.batch

-- the slot with the peer's mark
abbrev pub slot_marked : Table → Message → Slot
slot_marked t m = with_mark (slot_of t m.at) m.peer

-- ---- the cases of each handler

module _ (P : Handled → Type 0) where
  -- ballot below the slot's; the sequence about to be stored over the limit; stored
  pub proposed_cases : (phase : Phase) (t : Table) (p : Proposal)
      → (0 < proposal_refusal t p → P (refused (proposal_refusal t p)))
      → (Taken t p → p.message.ballot < (slot_before t p.message).ballot → P (ignored (filled t p.message)))
      → (Taken t p → (slot_before t p.message).ballot ≤ p.message.ballot → sequence_limit < (to_store phase t p).seq → P (refused over_limit))
      → (Taken t p → (slot_before t p.message).ballot ≤ p.message.ballot → (to_store phase t p).seq ≤ sequence_limit → P (logged (filled t p.message) p.message.at (slot_after phase t p)))
      → P (proposed phase t p)
  unfolding proposed
  proposed_cases phase t p number below over stored = grind (arith, proposal_taken)

  -- the slot absent or one that does not heed it; a mark
  pub reply_cases : (t : Table) (m : Message)
      → (0 < message_refusal t m → P (refused (message_refusal t m)))
      → (Heard t m → (holds t m.at && heeds (slot_of t m.at) m) ≡ false → P (ignored t))
      → (Heard t m → holds t m.at ≡ true → heeds (slot_of t m.at) m ≡ true → P (on_mark t m.at (slot_marked t m)))
      → P (accept_reply t m)
  unfolding accept_reply
  reply_cases t m number not-heeded heeded = grind (arith, message_heard)

  -- with it too few, or enough
  pub mark_cases : (t : Table) (at : Place) (s : Slot)
      → (count_of s.marks < t.config.simple → P (done (put_at t at s) []))
      → (t.config.simple ≤ count_of s.marks → P (done (put_at t at (committed s)) (log_of at (committed s) ∷ notice_of at (committed s) ∷ [])))
      → P (on_mark t at s)
  unfolding on_mark
  mark_cases t at s few enough = grind arith

  -- ballot not strictly greater; replied
  pub prepare_cases : (t : Table) (m : Message)
      → (0 < message_refusal t m → P (refused (message_refusal t m)))
      → (Heard t m → m.ballot ≤ (slot_before t m).ballot → P (ignored (filled t m)))
      → (Heard t m → (slot_before t m).ballot < m.ballot → P (replied (filled t m) m))
      → P (exp_prepare t m)
  unfolding exp_prepare
  prepare_cases t m number not-greater greater = grind (arith, message_heard)

  pub lead_cases : (t : Table) (at : Place)
      → (0 < lead_refusal t at → P (refused (lead_refusal t at)))
      → (Led t at → P (done (put_at t at (leading (slot_of t at))) []))
      → P (lead_slot t at)
  unfolding lead_slot
  lead_cases t at number led = grind (arith, lead_led)
