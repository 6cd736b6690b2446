-- The refusals of an attempt, in their order.
use Rattle.std.specs.Prelude.{List, ◌∷◌, Bool, leb, ℕ}
use Rattle.base.specs.Refusals.{first_refusal, short_order}
use Rattle.bounds.specs.Bounds.{place_tests}
use Rattle.table.specs.declared.place.Place.{Place}
use Rattle.table.specs.declared.table.Table.{Table}

-- entries: how many the order list has
abbrev pub attempt_tests : Table → Place → ℕ → List (Bool × ℕ)
attempt_tests t at entries = (leb 224 entries, short_order) ∷ place_tests t at

unfoldable pub attempt_refusal : Table → Place → ℕ → ℕ
attempt_refusal t at entries = first_refusal (attempt_tests t at entries)
