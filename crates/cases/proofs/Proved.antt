-- Every case holds, by computing.
use mathlib.Core.Path.{refl}
use mathlib.Core.List.{flat_map}
use Rattle.base.specs.Below.{all_below, count_below, greatest_below, list_below}
use Rattle.base.specs.Config.{config_fits}
use Rattle.base.specs.Marks.{count_of, marks_fit}
use Rattle.deps.specs.Sets.{set_fits, greater_each, union_of, raised_to, same_set}
use Rattle.deps.specs.Batches.{batch_fits, same_request, same_batch}
use Rattle.keys.specs.Columns.{identify_of, refreshed_by, keys_fit}
use Rattle.votes.specs.Contents.{same_contents, join_of, entries_of}
use Rattle.votes.specs.Holder.{lowest_below, highest_below}
use Rattle.votes.specs.Identical.{first_enough, most_equals}
use Rattle.refusing.specs.Refusal.{parts_fit, refusal_of}
use Rattle.decisions.specs.Fast.{joined_below, gone_count, fast_decision, fast_answer}
use Rattle.recovering.specs.Recovery.{highest_vote, such_votes, group_by, choice_by, answer_by}
use Rattle.base.specs.Refusals.{first_refusal}
use Rattle.table.specs.Table.{empty_table, holds, nulls_in, nulls_to, stored_at}
use Rattle.bounds.specs.Bounds.{row_fits, rows_fit, slots_fit, table_fits}
use Rattle.slots.specs.Slot.{slot_fits}
use Rattle.bounds.specs.Highest.{is_held, highest_of}
use Rattle.outcomes.specs.Refusal.{proposal_refusal}
use Rattle.proposing.specs.Proposals.{raised_by, proposed}
use Rattle.cases.specs.Cases.{Claim, Every, cases}

pub every_case : Every cases
unfolding Claim Every cases union_of greater_each raised_to identify_of refreshed_by flat_map all_below count_below greatest_below list_below config_fits count_of marks_fit set_fits same_set batch_fits same_request same_batch same_contents join_of entries_of lowest_below highest_below parts_fit refusal_of first_enough most_equals joined_below gone_count fast_decision fast_answer highest_vote such_votes group_by choice_by answer_by first_refusal empty_table holds nulls_in nulls_to stored_at slot_fits row_fits rows_fit slots_fit table_fits keys_fit is_held highest_of proposal_refusal raised_by proposed
every_case = (refl, (refl, (refl, (refl, (refl, (refl, (refl, (refl, (refl, (refl, (refl, (refl, (refl, (refl, (refl, (refl, (refl, (refl, (refl, (refl, (refl, (refl, (refl, (record { answers = refl; held = refl; logs = refl }, (record { answers = refl; held = refl; logs = refl }, tt)))))))))))))))))))))))))
