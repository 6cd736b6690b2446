-- The refusals of a log event, in their order: 8, then those of a slot that has to be in the table.
use Rattle.std.specs.Prelude.{List, ◌∷◌, Bool, leb, ℕ}
use Rattle.base.specs.Refusals.{first_refusal, short_order}
use Rattle.table.specs.declared.place.Place.{Place}
use Rattle.table.specs.declared.table.Table.{Table}
use Rattle.outcomes.specs.Refusal.{lead_tests}

-- entries: how many the order list has
abbrev pub logged_tests : Table → Place → ℕ → List (Bool × ℕ)
logged_tests t at entries = (leb 224 entries, short_order) ∷ lead_tests t at

unfoldable pub logged_refusal : Table → Place → ℕ → ℕ
logged_refusal t at entries = first_refusal (logged_tests t at entries)
