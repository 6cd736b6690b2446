-- The refusals of a message, in their order.
use Rattle.std.specs.Prelude.{List, [], ◌∷◌, ◌++◌, Bool, ltb, leb, ℕ}
use Rattle.base.specs.Refusals.{first_refusal, outside_bounds, no_replica, no_column, bad_dependency, bad_batch, over_limit, no_slot, sequence_limit}
use Rattle.deps.specs.Sets.{set_fits}
use Rattle.deps.specs.Batches.{batch_fits}
use Rattle.table.specs.Table.{holds}
use Rattle.bounds.specs.Bounds.{table_fits, place_tests_in}
use Rattle.table.specs.declared.place.Place.{Place}
use Rattle.table.specs.declared.table.Table.{Table}
use Rattle.outcomes.specs.declared.message.Message.{Message}
use Rattle.outcomes.specs.declared.message.Proposal.{Proposal}

-- whether the table is within the bounds and how many rows it has, then the peer and the place
abbrev pub message_tests_in : Bool → ℕ → Message → List (Bool × ℕ)
message_tests_in within n m =
    (within, outside_bounds)
    ∷ (ltb m.peer n, no_replica)
    ∷ (ltb m.at.row n, no_replica)
    ∷ (ltb m.at.col 32, no_column)
    ∷ []

abbrev pub contents_tests_in : ℕ → Proposal → List (Bool × ℕ)
contents_tests_in n p =
    (set_fits n p.deps, bad_dependency)
    ∷ (batch_fits p.batch, bad_batch)
    ∷ (leb p.seq sequence_limit, over_limit)
    ∷ []

abbrev pub lead_tests_in : Bool → ℕ → Bool → Place → List (Bool × ℕ)
lead_tests_in within n held at = place_tests_in within n at ++ ((held, no_slot) ∷ [])

-- of a table
abbrev pub message_tests : Table → Message → List (Bool × ℕ)
message_tests t m = message_tests_in (table_fits t) t.config.n m

abbrev pub contents_tests : Table → Proposal → List (Bool × ℕ)
contents_tests t p = contents_tests_in t.config.n p

abbrev pub lead_tests : Table → Place → List (Bool × ℕ)
lead_tests t at = lead_tests_in (table_fits t) t.config.n (holds t at) at

unfoldable pub message_refusal : Table → Message → ℕ
message_refusal t m = first_refusal (message_tests t m)

unfoldable pub proposal_refusal : Table → Proposal → ℕ
proposal_refusal t p = first_refusal (message_tests t p.message ++ contents_tests t p)

unfoldable pub lead_refusal : Table → Place → ℕ
lead_refusal t at = first_refusal (lead_tests t at)
