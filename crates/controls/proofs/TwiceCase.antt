-- A slot that has run is committed again, and runs again.
use mathlib.Core.Path.{◌≡◌, refl, ◌∙◌}
use mathlib.Core.Bool.{true, false}
use mathlib.Core.List.{[], ◌∷◌, flat_map}
use Prim.Native.Nat.{ℕ}
use Rattle.base.specs.Below.{all_below, list_below}
use Rattle.base.specs.Config.{config_fits}
use Rattle.base.specs.Marks.{marks_fit}
use Rattle.base.specs.Refusals.{first_refusal}
use Rattle.base.specs.declared.answer.Answer.TheVariants.{Done}
use Rattle.base.specs.declared.status.Status.{Status}
use Rattle.base.specs.declared.status.Status.TheVariants.{Committed, Executed}
use Rattle.deps.specs.Sets.{set_fits, raised_to, same_set}
use Rattle.deps.specs.Batches.{batch_fits, same_request, same_batch}
use Rattle.votes.specs.Contents.{same_contents}
use Rattle.keys.specs.Columns.{refreshed_by, keys_fit}
use Rattle.slots.specs.Slot.{slot_fits, null_slot}
use Rattle.table.specs.Place.{place_of}
use Rattle.table.specs.Table.{empty_table, holds, nulls_in, nulls_to, stored_at}
use Rattle.table.specs.declared.table.Table.{Table}
use Rattle.bounds.specs.Bounds.{row_fits, rows_fit, slots_fit, table_fits}
use Rattle.bounds.specs.Open.{config_of}
use Rattle.outcomes.specs.Refusal.{proposal_refusal}
use Rattle.proposing.specs.Proposals.{proposed}
use Rattle.order.specs.Order.{passing, sorted}
use Rattle.attempts.specs.Reads.{has_run, deps_of, seqs_of}
use Rattle.attempts.specs.Refusal.{attempt_refusal}
use Rattle.attempts.specs.Attempt.{all_below_bars, waiting_in, ran_with}
use Rattle.rising.specs.Bars.{first_from, risen_bar}
use Rattle.logged.specs.Refusal.{logged_refusal}
use Rattle.rising.specs.Committed.{tails_below}
use Rattle.copies.specs.Copies.{keeps_committed}
use Rattle.controls.specs.Examples.{logged_committed, attempt, edit, notice, again}
use Rattle.controls.proofs.RestLaws.{frontier_rest, order_known, component_by, order_by, reach_by}
use Rattle.controls.proofs.CaseLaws.{Tries, Runs, tries_done, Goes, attempt_goes, Rises, rest, logged_goes, Plays, plays_none, plays_more}
use Rattle.controls.proofs.CaseTables.{held, table_with, sets_with, single, frontiers, alone_known}

unfoldable pub alone : Status → ℕ → Table
alone status bar = table_with (config_of 1 0 1 1) (held status 1 [] edit) null_slot (1 ∷ []) (bar ∷ [])

record Noticed : Type 0 where
  first : Goes (empty_table again.config) notice [] (alone Committed 0)
  again : Goes (alone Executed 1) notice [] (alone Committed 1)

alone_noticed : Noticed
unfolding alone all_below list_below flat_map raised_to refreshed_by config_fits marks_fit set_fits batch_fits slot_fits row_fits rows_fit slots_fit table_fits keys_fit first_refusal empty_table nulls_in nulls_to stored_at proposal_refusal proposed
alone_noticed = record { first = record { slots = refl; leaves = refl }; again = record { slots = refl; leaves = refl } }

alone_sets : deps_of (alone Committed 1) ≡ sets_with 0 0
unfolding alone list_below deps_of sets_with
alone_sets = refl

alone_unrun : has_run (alone Committed 1) 0 ≡ false
unfolding alone
alone_unrun = refl

alone_runs : Runs (alone Committed 1) (sets_with 0 0) single (0 ∷ []) (alone Executed 1)
unfolding alone all_below list_below all_below_bars waiting_in ran_with seqs_of passing sorted order_by component_by reach_by
alone_runs = record { below = refl; order = order_known alone_known _ _ ∙ refl; run = refl }

alone_tried : Tries (alone Committed 1) (place_of 0 0) Done (0 ∷ []) (alone Executed 1)
alone_tried = tries_done (record { sets = alone_sets; reach = frontier_rest frontiers.alone; unrun = alone_unrun }) alone_runs

alone_risen : Rises (alone Committed 0) (place_of 0 0) (alone Committed 1)
unfolding alone all_below flat_map raised_to refreshed_by config_fits marks_fit set_fits batch_fits slot_fits row_fits rows_fit slots_fit table_fits keys_fit holds first_refusal logged_refusal first_from risen_bar
alone_risen = record { refusal = refl; risen = refl; bars = refl; here = refl }

alone_rest : rest Done (alone Executed 1) ≡ []
unfolding alone tails_below
alone_rest = refl

alone_logged : Goes (alone Committed 0) (logged_committed 0 0) (0 ∷ []) (alone Executed 1)
alone_logged = logged_goes alone_risen alone_tried alone_rest refl

alone_bound : attempt_refusal (alone Committed 1) (place_of 0 0) 224 ≡ 0
unfolding alone all_below flat_map raised_to refreshed_by config_fits marks_fit set_fits batch_fits slot_fits row_fits rows_fit slots_fit table_fits keys_fit first_refusal attempt_refusal
alone_bound = refl

alone_attempted : Goes (alone Committed 1) (attempt 0 0) (0 ∷ []) (alone Executed 1)
alone_attempted = attempt_goes alone_bound alone_tried refl

record AloneKept : Type 0 where
  first : keeps_committed (empty_table again.config) (alone Committed 0) ≡ true
  run : keeps_committed (alone Committed 0) (alone Executed 1) ≡ true
  lowered : keeps_committed (alone Executed 1) (alone Committed 1) ≡ false
  run_again : keeps_committed (alone Committed 1) (alone Executed 1) ≡ true

alone_kept : AloneKept
unfolding alone all_below empty_table keeps_committed same_contents same_set same_batch same_request
alone_kept = record { first = refl; run = refl; lowered = refl; run_again = refl }

pub alone_plays : Plays (empty_table again.config) again.calls (0 ∷ 0 ∷ []) (alone Executed 1) false
alone_plays =
    plays_more alone_noticed.first alone_kept.first
    (plays_more alone_logged alone_kept.run
    (plays_more alone_noticed.again alone_kept.lowered (plays_more alone_attempted alone_kept.run_again plays_none)))
