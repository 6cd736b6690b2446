-- A slot's place.
use Rattle.std.specs.Prelude.{ℕ, ◌+◌, ◌*◌}
use Rattle.table.specs.declared.place.Place.{Place}

abbrev pub place_of : ℕ → ℕ → Place
place_of row col = record { row = row; col = col }

-- its index among the slots of all rows, 32 a row
abbrev pub index_of : Place → ℕ
index_of at = 32 * at.row + at.col
