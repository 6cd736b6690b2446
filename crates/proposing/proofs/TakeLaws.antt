-- What each change that is decided makes of every table that looks as the view: refused, ignored, or the slot stored.
use mathlib.Core.Path.{◌≡◌, ap, sym, ◌∙◌}
use mathlib.Core.List.{[], ◌∷◌}
use lib.ListN.{length}
use Prim.Native.Nat.{◌<◌, ◌≤◌}
use Rattle.base.specs.Refusals.{over_limit, sequence_limit, refusal_number}
use Rattle.base.specs.declared.refusals.Refusal.{Refusal}
use Rattle.slots.specs.declared.slot.Slot.{Slot}
use Rattle.table.specs.Table.{slot_of, nulls_to}
use Rattle.table.specs.declared.table.Table.{Table}
use Rattle.outcomes.specs.Output.{log_of}
use Rattle.outcomes.specs.Outcome.{outcome_of}
use Rattle.outcomes.specs.Refusal.{proposal_refusal}
use Rattle.outcomes.specs.declared.message.Proposal.{Proposal}
use Rattle.outcomes.proofs.OutcomeLaws.{when_not}
use Rattle.outcomes.proofs.RefusalLaws.{number_some}
use Rattle.changes.specs.View.{view_of}
use Rattle.changes.specs.Change.{Makes, Seven, refusing, ignoring, doing}
use Rattle.changes.specs.declared.view.View.{View}
use Rattle.changes.specs.declared.change.Change.{Change}
use Rattle.changes.specs.declared.change.Extent.TheVariants as Extents
use Rattle.changes.proofs.ViewLaws.{proposal_in, slot_seen_lem, mine_seen, highest_seen, proposal_seen, proposal_inside, makes_refused}
use Rattle.proposing.specs.Proposals.{values_from, values_of, raised_by, stored_for, logged, on_ballot, proposed}
use Rattle.proposing.specs.declared.proposals.Phase.{Phase}
use Rattle.proposing.specs.declared.proposals.Values.{Values}
use Rattle.proposing.proofs.TestLaws.{ballot_below, sequence_over, stored_as}

-- the slot about to be stored
abbrev pub slot_to_store : Phase → View → Proposal → Slot
slot_to_store phase v p = stored_for phase v.slot p.message (values_from phase v.mine v.highest p) p.batch

abbrev pub Takes : Phase → View → Proposal → Change → Type 0
Takes phase v p c = Makes (λ t. proposed phase t p) v p.message.at p.batch c

module _ (phase : Phase) (v : View) (p : Proposal) where
  pub takes_refused : (refusal : Refusal) → refusal_number refusal ≡ proposal_in v p → Takes phase v p (refusing (refusal_number refusal))
  unfolding proposed
  takes_refused refusal e =
      makes_refused (λ t. proposal_refusal t p) (λ t. on_ballot phase (nulls_to t p.message.at) p) (number_some refusal)
      (λ t f. e ∙ proposal_seen t p.message.at p.batch v f p)

  -- where it is not refused, ballot and sequence decide, of the table with its null slots
  module _ (seven : Seven v) (none : proposal_in v p ≡ 0) where
    inside : (p.message.at.row < 7) × (p.message.at.col < 32)
    inside = (proposal_inside v seven p none).1

    module _ (t : Table) (lens : length t.lens ≡ 7) (e : view_of t p.message.at p.batch ≡ v) where
      past : proposed phase t p ≡ on_ballot phase (nulls_to t p.message.at) p
      unfolding proposed
      past = when_not _ _ (sym (proposal_seen t p.message.at p.batch v e p) ∙ none)

      its_slot : slot_of (nulls_to t p.message.at) p.message.at ≡ v.slot
      its_slot = slot_seen_lem t p.message.at p.batch v e inside.0 inside.1

      its_values : values_of phase (nulls_to t p.message.at) p ≡ values_from phase v.mine v.highest p
      unfolding raised_by
      its_values =
          rw (highest_seen t p.message.at p.batch v e lens inside.0 inside.1, mine_seen t p.message.at p.batch v e)

    pub takes_ignored : p.message.ballot < v.slot.ballot → Takes phase v p (ignoring Extents.Nulls)
    takes_ignored l =
        record {
          inside = inside;
          same = λ t lens e. sym (ap (outcome_of t) (past t lens e ∙ ballot_below phase _ p (rw (its_slot t lens e) l)));
        }

    module _ (ballot : v.slot.ballot ≤ p.message.ballot) where
      pub takes_over : sequence_limit < (values_from phase v.mine v.highest p).seq → Takes phase v p (refusing over_limit)
      takes_over l =
          record {
            inside = tt;
            same = λ t lens e. sym (ap (outcome_of t) (past t lens e ∙ sequence_over phase (nulls_to t p.message.at) p (rw (its_slot t lens e) ballot) (rw (its_values t lens e) l)));
          }

      pub takes_stored : (values_from phase v.mine v.highest p).seq ≤ sequence_limit
          → Takes phase v p (doing Extents.Keys (slot_to_store phase v p) (log_of p.message.at (slot_to_store phase v p) ∷ []))
      takes_stored l = record { inside = inside; same = same_stored }
        where
          same_slot_lem : (t : Table) → length t.lens ≡ 7 → view_of t p.message.at p.batch ≡ v
              → stored_for phase (slot_of (nulls_to t p.message.at) p.message.at) p.message (values_of phase (nulls_to t p.message.at) p) p.batch ≡ slot_to_store phase v p
          same_slot_lem t lens e =
              ap (λ (x : Slot). stored_for phase x p.message (values_of phase (nulls_to t p.message.at) p) p.batch) (its_slot t lens e)
              ∙ ap (λ (x : Values). stored_for phase v.slot p.message x p.batch) (its_values t lens e)

          same_stored : (t : Table) → length t.lens ≡ 7 → view_of t p.message.at p.batch ≡ v
              → outcome_of t (logged (nulls_to t p.message.at) p.message.at (slot_to_store phase v p)) ≡ outcome_of t (proposed phase t p)
          same_stored t lens e =
              sym
              (ap (outcome_of t) (past t lens e ∙ stored_as phase _ p (rw (its_slot t lens e) ballot) (rw (its_values t lens e) l))
              ∙ ap (λ (s : Slot). outcome_of t (logged (nulls_to t p.message.at) p.message.at s)) (same_slot_lem t lens e))
