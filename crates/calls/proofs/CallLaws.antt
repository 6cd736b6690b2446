-- What a host may rely on of a handler's call: what it writes reads as the table that the entry gives, what it refuses it leaves, every length stays.
use mathlib.Core.Path.{◌≡◌, refl}
use mathlib.Core.List.{List}
use mathlib.Core.Logic.{◌↔◌}
use mathlib.Core.Bool.{Bool, true, false, cond, ◌&&◌}
use Prim.Native.Nat.{ℕ, ◌<◌, ◌≤◌}
use native.Mathlib.Omega.{arith}
use lib.ListN.{length}
use Rattle.base.specs.Refusals.{outside_bounds}
use Rattle.base.specs.declared.answer.Answer.TheVariants.{Ignored, Done}
use Rattle.table.specs.declared.place.Place.{Place}
use Rattle.table.specs.declared.table.Table.{Table}
use Rattle.outcomes.specs.Outcome.{Handled, refused, ignored, done, outcome_of}
use Rattle.outcomes.specs.declared.message.Message.{Message}
use Rattle.outcomes.specs.declared.message.Proposal.{Proposal}
use Rattle.outcomes.specs.declared.outcome.Outcome.{Outcome}
use Rattle.proposing.specs.Proposals.{proposed}
use Rattle.proposing.specs.declared.proposals.Phase.{Phase}
use Rattle.proposing.specs.declared.proposals.Phase.TheVariants as Phases
use Rattle.handlers.specs.Replies.{accept_reply}
use Rattle.handlers.specs.Prepare.{exp_prepare}
use Rattle.handlers.specs.Lead.{lead_slot}
use Rattle.handlers.proofs.CaseLaws.{WhenRefused}
use Rattle.handlers.proofs.RefusedLaws.{MessageRefused, outside, no_replica_lem, no_column_lem, ContentsRefused, bad_dependency_lem, bad_batch_lem, over_limit_lem, ProposalRefused, by_message, by_contents, stored_over, LeadRefused, no_row, no_slot_lem, reply_exactly, prepare_exactly, proposed_exactly, lead_exactly}
use Rattle.image.specs.Tables.{table_at, image_known, TableWhole}
use Rattle.layout.specs.Numbers.{Bytes}
use Rattle.image.proofs.ReadLaws.{table_read}
use Rattle.calls.proofs.WrittenLaws.{bytes_stay, laid_length, long_image, image_length, image_reads}
use Rattle.calls.proofs.WholeLaws.{ProposalWhole, Whole, proposed_whole, reply_whole, prepare_whole, lead_whole}
use Rattle.calls.specs.Calls.{short, Called, unchanged, settled, call_long, on_image, handled_by}
use Rattle.calls.specs.declared.calls.Handler.{Handler}
use Rattle.calls.specs.declared.calls.Handler.TheVariants.{PreAccept, Accept, CommitNotice, AcceptReply, ExpPrepare, Lead}

-- ---- the cases of a call

module _ (P : Called → Type 0) (known : Bool) (entry : Table → Handled) (image out : List ℕ) where
  pub call_cases : (call_long image out ≡ false → P (unchanged short image out))
      → (call_long image out ≡ true → P (unchanged outside_bounds image out))
      → (call_long image out ≡ true → P (settled (outcome_of (table_at image) (entry (table_at image))) image out))
      → P (on_image known entry image out)
  unfolding on_image
  call_cases is-short is-unknown is-handled = go (call_long image out) refl (known && image_known image)
    where
      go : (long : Bool) → call_long image out ≡ long → (k : Bool)
          → P (cond long (cond k (settled (outcome_of (table_at image) (entry (table_at image))) image out) (unchanged outside_bounds image out)) (unchanged short image out))
      go false e k = is-short e
      go true e false = is-unknown e
      go true e true = is-handled e

-- ---- refusals have the numbers 1 to 7

abbrev pub Between : ℕ → Type 0
Between k = (1 ≤ k) × (k ≤ 7)

abbrev pub Numbered : Handled → Type 0
Numbered = WhenRefused Between

module _ (entry : Table → Handled) (image out : List ℕ) where
  abbrev after : Outcome
  after = outcome_of (table_at image) (entry (table_at image))

  -- a number below 100 says that image and out are as they were
  pub call_stays : (known : Bool) → (on_image known entry image out).code < 100 → ((on_image known entry image out).image ≡ image) × ((on_image known entry image out).out ≡ out)
  call_stays known =
      call_cases (λ c. c.code < 100 → (c.image ≡ image) × (c.out ≡ out)) known entry image out
      (λ e l. (refl, refl))
      (λ e l. (refl, refl))
      (λ e l. (bytes_stay after.answer image _ l, bytes_stay after.answer out _ l))

  -- 0 says that a slice is short or the image has another length
  handled_some : (h : Handled) → Numbered h → (settled (outcome_of (table_at image) h) image out).code ≡ 0 → ⊥
  handled_some (refused k) n e = omega (arith, n.0)
  handled_some (ignored u) n e = omega arith
  handled_some (done u records) n e = omega arith

  pub call_zero : (known : Bool) → Numbered (entry (table_at image)) → ((on_image known entry image out).code ≡ 0) ↔ (call_long image out ≡ false)
  unfolding on_image
  call_zero known n = (
    call_cases (λ c. c.code ≡ 0 → call_long image out ≡ false) known entry image out
        (λ e z. e)
        (λ e z. absurd (omega arith))
        (λ e z. absurd (handled_some (entry (table_at image)) n z)),
    λ e. rw e,
  )

  -- ---- lengths

  pub call_lengths : (known : Bool) → (length (on_image known entry image out).image ≡ length image) × (length (on_image known entry image out).out ≡ length out)
  unfolding call_long
  call_lengths known =
      call_cases (λ c. (length c.image ≡ length image) × (length c.out ≡ length out)) known entry image out
      (λ e. (refl, refl))
      (λ e. (refl, refl))
      (λ e. (image_length after.answer after.table image (long_image image _ e), laid_length after.answer _ out))

  -- ---- what is written is the entry's table, and is known

  handled_reads : (h : Handled) → Numbered h → Whole h → 100 ≤ (settled (outcome_of (table_at image) h) image out).code
      → (table_at (settled (outcome_of (table_at image) h) image out).image ≡ (outcome_of (table_at image) h).table) × (image_known (settled (outcome_of (table_at image) h) image out).image ≡ true)
  handled_reads (refused k) n w l = absurd (omega (arith, n.1))
  handled_reads (ignored u) n w l = image_reads Ignored u image refl w
  handled_reads (done u records) n w l = image_reads Done u image refl w

  pub call_reads : (known : Bool) → Numbered (entry (table_at image)) → Whole (entry (table_at image)) → 100 ≤ (on_image known entry image out).code
      → (table_at (on_image known entry image out).image ≡ after.table) × (image_known (on_image known entry image out).image ≡ true)
  call_reads known n w =
      call_cases (λ c. 100 ≤ c.code → (table_at c.image ≡ after.table) × (image_known c.image ≡ true)) known entry image out
      (λ e l. absurd (omega arith))
      (λ e l. absurd (omega arith))
      (λ e. handled_reads (entry (table_at image)) n w)

-- ---- each handler's refusals are numbered so

numbered_by : (h : Handled) → ((k : ℕ) → h ≡ refused k → Between k) → Numbered h
numbered_by (refused k) f = f k refl
numbered_by (ignored u) f = tt
numbered_by (done u records) f = tt

module _ (t : Table) where
  message_between : (m : Message) {k : ℕ} → MessageRefused t m k → Between k
  message_between m (outside e) = (omega arith, omega arith)
  message_between m (no_replica_lem w e) = (omega arith, omega arith)
  message_between m (no_column_lem w l r c) = (omega arith, omega arith)

  contents_between : (p : Proposal) {k : ℕ} → ContentsRefused t p k → Between k
  contents_between p (bad_dependency_lem h d) = (omega arith, omega arith)
  contents_between p (bad_batch_lem h d b) = (omega arith, omega arith)
  contents_between p (over_limit_lem h d b s) = (omega arith, omega arith)

  proposal_between : (phase : Phase) (p : Proposal) {k : ℕ} → ProposalRefused phase t p k → Between k
  proposal_between phase p (by_message r) = message_between p.message r
  proposal_between phase p (by_contents r) = contents_between p r
  proposal_between phase p (stored_over h b s) = (omega arith, omega arith)

  pub lead_between : (at : Place) {k : ℕ} → LeadRefused t at k → Between k
  lead_between at (outside e) = (omega arith, omega arith)
  lead_between at (no_row w e) = (omega arith, omega arith)
  lead_between at (no_column_lem w l c) = (omega arith, omega arith)
  lead_between at (no_slot_lem h e) = (omega arith, omega arith)

  pub proposed_numbered : (phase : Phase) (p : Proposal) → Numbered (proposed phase t p)
  proposed_numbered phase p = numbered_by (proposed phase t p) (λ k e. proposal_between phase p ((proposed_exactly phase t p k).0 e))

  pub reply_numbered : (m : Message) → Numbered (accept_reply t m)
  reply_numbered m = numbered_by (accept_reply t m) (λ k e. message_between m ((reply_exactly t m k).0 e))

  pub prepare_numbered : (m : Message) → Numbered (exp_prepare t m)
  prepare_numbered m = numbered_by (exp_prepare t m) (λ k e. message_between m ((prepare_exactly t m k).0 e))

  pub lead_numbered : (at : Place) → Numbered (lead_slot t at)
  lead_numbered at = numbered_by (lead_slot t at) (λ k e. lead_between at ((lead_exactly t at k).0 e))

-- ---- all six: what a call does to the image is what its entry does to the table

module _ (p : Proposal) (t : Table) where
  handled_numbered : (handler : Handler) → Numbered (handled_by handler p t)
  handled_numbered PreAccept = proposed_numbered t Phases.PreAccept p
  handled_numbered Accept = proposed_numbered t Phases.Accept p
  handled_numbered CommitNotice = proposed_numbered t Phases.CommitNotice p
  handled_numbered AcceptReply = reply_numbered t p.message
  handled_numbered ExpPrepare = prepare_numbered t p.message
  handled_numbered Lead = lead_numbered t p.message.at

  handled_whole : (handler : Handler) → TableWhole t → ProposalWhole p → Whole (handled_by handler p t)
  handled_whole PreAccept w v = proposed_whole Phases.PreAccept t p w v
  handled_whole Accept w v = proposed_whole Phases.Accept t p w v
  handled_whole CommitNotice w v = proposed_whole Phases.CommitNotice t p w v
  handled_whole AcceptReply w v = reply_whole t p.message w
  handled_whole ExpPrepare w v = prepare_whole t p.message w
  handled_whole Lead w v = lead_whole t p.message.at w

pub image_follows : (handler : Handler) (known : Bool) (p : Proposal) (image out : List ℕ) → Bytes image → ProposalWhole p
    → 100 ≤ (on_image known (handled_by handler p) image out).code
    → (table_at (on_image known (handled_by handler p) image out).image ≡ (outcome_of (table_at image) (handled_by handler p (table_at image))).table)
    × (image_known (on_image known (handled_by handler p) image out).image ≡ true)
image_follows handler known p image out b v =
    call_reads (handled_by handler p) image out known
    (handled_numbered p (table_at image) handler)
    (handled_whole p (table_at image) handler (table_read image b) v)
