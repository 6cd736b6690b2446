-- Crossing edits on copy two.
use mathlib.Core.Path.{◌≡◌, refl, ◌∙◌}
use mathlib.Core.Bool.{true, false}
use mathlib.Core.List.{[], ◌∷◌, flat_map}
use Prim.Native.Nat.{ℕ}
use Rattle.base.specs.Below.{all_below, greatest_below, list_below}
use Rattle.base.specs.Config.{config_fits}
use Rattle.base.specs.Marks.{marks_fit}
use Rattle.base.specs.Refusals.{first_refusal}
use Rattle.base.specs.declared.answer.Answer.TheVariants.{Done}
use Rattle.base.specs.declared.status.Status.{Status}
use Rattle.base.specs.declared.status.Status.TheVariants.{PreAccepting, Committed, Executed}
use Rattle.deps.specs.Sets.{set_fits, greater_each, union_of, raised_to, same_set}
use Rattle.deps.specs.Batches.{batch_fits, same_request, same_batch}
use Rattle.votes.specs.Contents.{same_contents}
use Rattle.keys.specs.Columns.{identify_of, refreshed_by, keys_fit}
use Rattle.slots.specs.Slot.{slot_fits, null_slot, heard_from, leading}
use Rattle.slots.specs.declared.slot.Slot.{Slot}
use Rattle.table.specs.Place.{place_of}
use Rattle.table.specs.Table.{empty_table, holds, nulls_in, nulls_to, stored_at}
use Rattle.table.specs.declared.table.Table.{Table}
use Rattle.bounds.specs.Bounds.{row_fits, rows_fit, slots_fit, table_fits}
use Rattle.bounds.specs.Highest.{is_held, highest_of}
use Rattle.outcomes.specs.Refusal.{proposal_refusal, lead_refusal}
use Rattle.proposing.specs.Proposals.{raised_by, proposed}
use Rattle.handlers.specs.Lead.{lead_slot}
use Rattle.order.specs.Order.{passing, sorted}
use Rattle.attempts.specs.Reads.{has_run, deps_of, seqs_of}
use Rattle.attempts.specs.Refusal.{attempt_refusal}
use Rattle.attempts.specs.Attempt.{all_below_bars, waiting_in, ran_with}
use Rattle.rising.specs.Bars.{first_from, risen_bar}
use Rattle.logged.specs.Refusal.{logged_refusal}
use Rattle.rising.specs.Committed.{tails_below}
use Rattle.copies.specs.Copies.{keeps_committed, begun}
use Rattle.controls.specs.Examples.{pre_accept, commit_notice, logged_committed, attempt, lead, edit, look, two}
use Rattle.controls.proofs.RestLaws.{frontier_rest, order_known, component_by, order_by, reach_by}
use Rattle.controls.proofs.CaseLaws.{Runs, tries_done, tries_notyet, tries_already, Goes, attempt_goes, Rises, rest, logged_goes, Plays, plays_none, plays_more}
use Rattle.controls.proofs.CaseTables.{held, table_with, sets_with, both, frontiers, both_known}

-- 0.0 as heard of by the PreAccept of peer 0
abbrev heard : Slot
heard = heard_from (held PreAccepting 1 [] edit) 0

unfoldable begins : Table
begins = table_with two.config heard null_slot (1 ∷ []) (0 ∷ [])

-- 1.0 is committed; the bar of row 1
unfoldable pending : ℕ → Table
pending bar = table_with two.config heard (held Committed 1 (1 ∷ []) look) (1 ∷ 1 ∷ []) (0 ∷ bar ∷ [])

-- and led
unfoldable led : Table
led = table_with two.config heard (leading (held Committed 1 (1 ∷ []) look)) (1 ∷ 1 ∷ []) (0 ∷ 1 ∷ [])

-- both are committed; the bar of row 0
unfoldable pub closed : Status → ℕ → Table
closed status bar =
    table_with two.config (heard_from (held status 2 (0 ∷ 1 ∷ []) edit) 0) (leading (held status 1 (1 ∷ []) look)) (1 ∷ 1 ∷ []) (bar ∷ 1 ∷ [])

record Sets : Type 0 where
  pending_sets : deps_of (pending 1) ≡ sets_with 0 1
  led_sets : deps_of led ≡ sets_with 0 1
  closed_sets : deps_of (closed Committed 1) ≡ sets_with 1 1

two_sets : Sets
unfolding pending led closed list_below deps_of sets_with
two_sets = record { pending_sets = refl; led_sets = refl; closed_sets = refl }

record Answers : Type 0 where
  pending_unrun : has_run (pending 1) 32 ≡ false
  pending_above : all_below_bars (pending 1) both ≡ false
  led_unrun : has_run led 32 ≡ false
  led_above : all_below_bars led both ≡ false
  closed_unrun : has_run (closed Committed 1) 0 ≡ false
  closed_run : has_run (closed Executed 1) 32 ≡ true
  rests : rest Done (closed Executed 1) ≡ []

two_answers : Answers
unfolding pending led closed all_below all_below_bars tails_below
two_answers =
    record {
      pending_unrun = refl;
      pending_above = refl;
      led_unrun = refl;
      led_above = refl;
      closed_unrun = refl;
      closed_run = refl;
      rests = refl;
    }

-- the messages, and Lead
record Handled : Type 0 where
  edit_heard : Goes (begun two) (pre_accept 0 0 0 1 1 (0 ∷ 0 ∷ 0 ∷ []) (edit ∷ [])) [] begins
  look_noticed : Goes begins (commit_notice 2 1 0 1 1 (1 ∷ 0 ∷ 0 ∷ []) (look ∷ [])) [] (pending 0)
  look_led : Goes (pending 1) (lead 1 0) [] led
  edit_noticed : Goes led (commit_notice 0 0 0 1 2 (0 ∷ 1 ∷ 0 ∷ []) (edit ∷ [])) [] (closed Committed 0)

two_handled : Handled
unfolding begins pending led closed all_below list_below flat_map raised_to refreshed_by config_fits marks_fit set_fits batch_fits slot_fits row_fits rows_fit slots_fit table_fits keys_fit holds first_refusal greatest_below empty_table nulls_in nulls_to stored_at proposal_refusal raised_by proposed identify_of union_of greater_each is_held highest_of lead_refusal lead_slot
two_handled =
    record {
      edit_heard = record { slots = refl; leaves = refl };
      look_noticed = record { slots = refl; leaves = refl };
      look_led = record { slots = refl; leaves = refl };
      edit_noticed = record { slots = refl; leaves = refl };
    }

record Bounds : Type 0 where
  pending_risen : Rises (pending 0) (place_of 1 0) (pending 1)
  closed_risen : Rises (closed Committed 0) (place_of 0 0) (closed Committed 1)
  led_bound : attempt_refusal led (place_of 1 0) 224 ≡ 0
  closed_bound : attempt_refusal (closed Executed 1) (place_of 1 0) 224 ≡ 0

two_bounds : Bounds
unfolding pending led closed all_below flat_map raised_to refreshed_by config_fits marks_fit set_fits batch_fits slot_fits row_fits rows_fit slots_fit table_fits keys_fit holds first_refusal attempt_refusal logged_refusal first_from risen_bar
two_bounds =
    record {
      pending_risen = record { refusal = refl; risen = refl; bars = refl; here = refl };
      closed_risen = record { refusal = refl; risen = refl; bars = refl; here = refl };
      led_bound = refl;
      closed_bound = refl;
    }

two_runs : Runs (closed Committed 1) (sets_with 1 1) both (32 ∷ 0 ∷ []) (closed Executed 1)
unfolding closed all_below list_below all_below_bars waiting_in ran_with seqs_of passing sorted order_by component_by reach_by
two_runs = record { below = refl; order = order_known both_known _ _ ∙ refl; run = refl }

record TwoKept : Type 0 where
  heard_kept : keeps_committed (begun two) begins ≡ true
  noticed : keeps_committed begins (pending 0) ≡ true
  bar : keeps_committed (pending 0) (pending 1) ≡ true
  look_led : keeps_committed (pending 1) led ≡ true
  tried : keeps_committed led led ≡ true
  edit_noticed : keeps_committed led (closed Committed 0) ≡ true
  run : keeps_committed (closed Committed 0) (closed Executed 1) ≡ true
  tried_again : keeps_committed (closed Executed 1) (closed Executed 1) ≡ true

two_kept : TwoKept
unfolding begins pending led closed all_below empty_table keeps_committed same_contents same_set same_batch same_request
two_kept = record { heard_kept = refl; noticed = refl; bar = refl; look_led = refl; tried = refl; edit_noticed = refl; run = refl; tried_again = refl }

pending_logged : Goes (pending 0) (logged_committed 1 0) [] (pending 1)
pending_logged =
    logged_goes two_bounds.pending_risen
    (tries_notyet
    (record { sets = two_sets.pending_sets; reach = frontier_rest frontiers.early; unrun = two_answers.pending_unrun })
    two_answers.pending_above)
    refl
    refl

led_attempted : Goes led (attempt 1 0) [] led
led_attempted =
    attempt_goes two_bounds.led_bound
    (tries_notyet (record { sets = two_sets.led_sets; reach = frontier_rest frontiers.early; unrun = two_answers.led_unrun }) two_answers.led_above)
    refl

closed_logged : Goes (closed Committed 0) (logged_committed 0 0) (32 ∷ 0 ∷ []) (closed Executed 1)
closed_logged =
    logged_goes two_bounds.closed_risen
    (tries_done (record { sets = two_sets.closed_sets; reach = frontier_rest frontiers.first; unrun = two_answers.closed_unrun }) two_runs)
    two_answers.rests
    refl

closed_attempted : Goes (closed Executed 1) (attempt 1 0) [] (closed Executed 1)
closed_attempted = attempt_goes two_bounds.closed_bound (tries_already two_answers.closed_run) refl

pub two_plays : Plays (begun two) two.calls (32 ∷ 0 ∷ []) (closed Executed 1) true
two_plays =
    plays_more two_handled.edit_heard two_kept.heard_kept
    (plays_more two_handled.look_noticed two_kept.noticed
    (plays_more pending_logged two_kept.bar
    (plays_more two_handled.look_led two_kept.look_led
    (plays_more led_attempted two_kept.tried
    (plays_more two_handled.edit_noticed two_kept.edit_noticed
    (plays_more closed_logged two_kept.run (plays_more closed_attempted two_kept.tried_again plays_none)))))))
