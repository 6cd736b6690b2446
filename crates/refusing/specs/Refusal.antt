-- The refusals of the decisions: 1, 2, 4, 5, 6, in this order.
use Rattle.std.specs.Prelude.{List, Bool, cond, not, ◌&&◌, ◌||◌, leb, ℕ}
use Rattle.base.specs.Below.{all_below}
use Rattle.base.specs.Refusals.{outside_bounds, no_replica, bad_dependency, bad_batch, over_limit, sequence_limit}
use Rattle.base.specs.Config.{config_fits}
use Rattle.base.specs.Marks.{marked, marks_fit}
use Rattle.deps.specs.Sets.{set_fits}
use Rattle.deps.specs.Batches.{batch_fits}
use Rattle.base.specs.declared.config.Config.{Config}
use Rattle.votes.specs.Contents.{said_by}
use Rattle.votes.specs.declared.contents.Contents.{Contents}

abbrev pub both_fit : ℕ → List Bool → List Bool → Bool
both_fit n a b = marks_fit n a && marks_fit n b

-- the parts of an entry that have bounds
abbrev pub deps_fit : ℕ → Contents → Bool
deps_fit n c = set_fits n c.deps

abbrev pub batch_fit : Contents → Bool
batch_fit c = batch_fits c.batch

abbrev pub sequence_fit : Contents → Bool
sequence_fit c = leb c.seq sequence_limit

abbrev pub listed_fits : (Contents → Bool) → List Bool → List Contents → ℕ → Bool
listed_fits part_fits listed entries r = not (marked listed r) || part_fits (said_by entries r)

-- the part is within its bounds in every entry listed
unfoldable pub parts_fit : (Contents → Bool) → List Bool → List Contents → Bool
parts_fit part_fits listed entries = all_below 7 (listed_fits part_fits listed entries)

-- the number of the refusal, 0 for none; named: every row and replica named is below N
unfoldable pub refusal_of : Config → Bool → List Bool → List Contents → ℕ
refusal_of c named listed entries =
    cond (config_fits c)
    (cond named
    (cond (parts_fit (deps_fit c.n) listed entries)
    (cond (parts_fit batch_fit listed entries)
    (cond (parts_fit sequence_fit listed entries) 0 over_limit)
    bad_batch)
    bad_dependency)
    no_replica)
    outside_bounds
