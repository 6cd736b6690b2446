-- Crossing edits on the copies one and other, of which only the sequence of 0.0 differs.
use mathlib.Core.Path.{◌≡◌, refl, ◌∙◌}
use mathlib.Core.Bool.{true, false}
use mathlib.Core.List.{List, [], ◌∷◌, ◌++◌, flat_map}
use Prim.Native.Nat.{ℕ}
use Rattle.base.specs.Below.{all_below, list_below}
use Rattle.base.specs.Config.{config_fits}
use Rattle.base.specs.Marks.{marks_fit}
use Rattle.base.specs.Refusals.{first_refusal}
use Rattle.base.specs.declared.answer.Answer.TheVariants.{Done, NotYet}
use Rattle.base.specs.declared.status.Status.{Status}
use Rattle.base.specs.declared.status.Status.TheVariants.{Committed, Executed}
use Rattle.deps.specs.Sets.{set_fits, raised_to, same_set}
use Rattle.deps.specs.Batches.{batch_fits, same_request, same_batch}
use Rattle.votes.specs.Contents.{same_contents}
use Rattle.keys.specs.Columns.{refreshed_by, keys_fit}
use Rattle.slots.specs.Slot.{slot_fits, null_slot}
use Rattle.table.specs.Place.{place_of}
use Rattle.table.specs.Table.{empty_table, holds, nulls_in, nulls_to, stored_at}
use Rattle.table.specs.declared.table.Table.{Table}
use Rattle.bounds.specs.Bounds.{row_fits, rows_fit, slots_fit, table_fits}
use Rattle.bounds.specs.Open.{config_of}
use Rattle.outcomes.specs.Refusal.{proposal_refusal}
use Rattle.proposing.specs.Proposals.{proposed}
use Rattle.order.specs.Order.{passing, sorted}
use Rattle.attempts.specs.Reads.{has_run, deps_of, seqs_of}
use Rattle.attempts.specs.Attempt.{all_below_bars, waiting_in, ran_with}
use Rattle.rising.specs.Bars.{first_from, risen_bar}
use Rattle.logged.specs.Refusal.{logged_refusal}
use Rattle.rising.specs.Committed.{tails_below}
use Rattle.copies.specs.Copies.{keeps_committed, begun}
use Rattle.controls.specs.Examples.{commit_notice, edit, look, crossing, one, other}
use Rattle.controls.proofs.RestLaws.{frontier_rest, order_known, component_by, order_by, reach_by}
use Rattle.controls.proofs.CaseLaws.{Tries, Runs, tries_done, tries_notyet, Goes, front, Rises, rest, logged_goes, Plays, plays_none, plays_more}
use Rattle.controls.proofs.CaseTables.{held, table_with, sets_with, both, frontiers, both_known}

-- 0.0 alone, and its bar
unfoldable noted : ℕ → ℕ → Table
noted seq bar = table_with (config_of 3 0 2 3) (held Committed seq (0 ∷ 1 ∷ []) edit) null_slot (1 ∷ []) (bar ∷ [])

-- both, and the bar of row 1
unfoldable pub crossed : ℕ → Status → ℕ → Table
crossed seq status bar =
    table_with (config_of 3 0 2 3) (held status seq (0 ∷ 1 ∷ []) edit) (held status 1 (1 ∷ []) look) (1 ∷ 1 ∷ []) (1 ∷ bar ∷ [])

noted_sets : (seq : ℕ) → deps_of (noted seq 1) ≡ sets_with 1 0
unfolding noted list_below deps_of sets_with
noted_sets seq = refl

pub crossed_sets : (seq : ℕ) (status : Status) → deps_of (crossed seq status 1) ≡ sets_with 1 1
unfolding crossed list_below deps_of sets_with
crossed_sets seq status = refl

record Unrun (seq : ℕ) : Type 0 where
  first : has_run (noted seq 1) 0 ≡ false
  above : all_below_bars (noted seq 1) both ≡ false
  second : has_run (crossed seq Committed 1) 32 ≡ false
  rests : rest Done (crossed seq Executed 1) ≡ []

unrun : (seq : ℕ) → Unrun seq
unfolding noted crossed all_below all_below_bars tails_below
unrun seq = record { first = refl; above = refl; second = refl; rests = refl }

-- 1.0 is not yet logged
noted_tried : (seq : ℕ) → Tries (noted seq 1) (place_of 0 0) NotYet [] (noted seq 1)
noted_tried seq =
    tries_notyet (record { sets = noted_sets seq; reach = frontier_rest frontiers.noted; unrun = (unrun seq).first }) (unrun seq).above

noted_risen : (seq : ℕ) → Rises (noted seq 0) (place_of 0 0) (noted seq 1)
unfolding noted all_below flat_map raised_to refreshed_by config_fits marks_fit set_fits batch_fits slot_fits row_fits rows_fit slots_fit table_fits keys_fit holds first_refusal logged_refusal first_from risen_bar
noted_risen seq = record { refusal = refl; risen = refl; bars = refl; here = refl }

crossed_risen : (seq : ℕ) → Rises (crossed seq Committed 0) (place_of 1 0) (crossed seq Committed 1)
unfolding crossed all_below flat_map raised_to refreshed_by config_fits marks_fit set_fits batch_fits slot_fits row_fits rows_fit slots_fit table_fits keys_fit holds first_refusal logged_refusal first_from risen_bar
crossed_risen seq = record { refusal = refl; risen = refl; bars = refl; here = refl }

-- what depends on the sequence
record Crossing (seq : ℕ) (L : List ℕ) : Type 0 where
  edit_noticed : Goes (empty_table (config_of 3 0 2 3)) (commit_notice 1 0 0 1 seq (0 ∷ 1 ∷ 0 ∷ []) (edit ∷ [])) [] (noted seq 0)
  look_noticed : Goes (noted seq 1) (commit_notice 1 1 0 1 1 (1 ∷ 0 ∷ 0 ∷ []) (look ∷ [])) [] (crossed seq Committed 0)
  runs : Runs (crossed seq Committed 1) (sets_with 1 1) both L (crossed seq Executed 1)
  kept_first : keeps_committed (empty_table (config_of 3 0 2 3)) (noted seq 0) ≡ true
  kept_bar : keeps_committed (noted seq 0) (noted seq 1) ≡ true
  kept_second : keeps_committed (noted seq 1) (crossed seq Committed 0) ≡ true
  kept_run : keeps_committed (crossed seq Committed 0) (crossed seq Executed 1) ≡ true
  written : front L ≡ L

crossing_plays : (seq : ℕ) (L : List ℕ) → Crossing seq L → Plays (begun (crossing seq)) (crossing seq).calls (L ++ []) (crossed seq Executed 1) true
crossing_plays seq L c =
    let tried : Tries (crossed seq Committed 1) (place_of 1 0) Done L (crossed seq Executed 1) =
    tries_done (record { sets = crossed_sets seq Committed; reach = frontier_rest frontiers.second; unrun = (unrun seq).second }) c.runs in
    plays_more c.edit_noticed c.kept_first
    (plays_more (logged_goes (noted_risen seq) (noted_tried seq) refl refl) c.kept_bar
    (plays_more c.look_noticed c.kept_second
    (plays_more (logged_goes (crossed_risen seq) tried (unrun seq).rests c.written) c.kept_run plays_none)))

one_crossing : Crossing 2 (32 ∷ 0 ∷ [])
unfolding noted crossed all_below list_below flat_map raised_to refreshed_by config_fits marks_fit set_fits batch_fits slot_fits row_fits rows_fit slots_fit table_fits keys_fit first_refusal empty_table nulls_in nulls_to stored_at proposal_refusal proposed keeps_committed same_contents same_set same_batch same_request all_below_bars waiting_in ran_with seqs_of passing sorted order_by component_by reach_by
one_crossing =
    record {
      edit_noticed = record { slots = refl; leaves = refl };
      look_noticed = record { slots = refl; leaves = refl };
      runs = record { below = refl; order = order_known both_known _ _ ∙ refl; run = refl };
      kept_first = refl;
      kept_bar = refl;
      kept_second = refl;
      kept_run = refl;
      written = refl;
    }

other_crossing : Crossing 1 (0 ∷ 32 ∷ [])
unfolding noted crossed all_below list_below flat_map raised_to refreshed_by config_fits marks_fit set_fits batch_fits slot_fits row_fits rows_fit slots_fit table_fits keys_fit first_refusal empty_table nulls_in nulls_to stored_at proposal_refusal proposed keeps_committed same_contents same_set same_batch same_request all_below_bars waiting_in ran_with seqs_of passing sorted order_by component_by reach_by
other_crossing =
    record {
      edit_noticed = record { slots = refl; leaves = refl };
      look_noticed = record { slots = refl; leaves = refl };
      runs = record { below = refl; order = order_known both_known _ _ ∙ refl; run = refl };
      kept_first = refl;
      kept_bar = refl;
      kept_second = refl;
      kept_run = refl;
      written = refl;
    }

pub one_plays : Plays (begun one) one.calls (32 ∷ 0 ∷ []) (crossed 2 Executed 1) true
one_plays = crossing_plays 2 (32 ∷ 0 ∷ []) one_crossing

pub other_plays : Plays (begun other) other.calls (0 ∷ 32 ∷ []) (crossed 1 Executed 1) true
other_plays = crossing_plays 1 (0 ∷ 32 ∷ []) other_crossing
