-- Refusal 1: a table within the bounds; 2 and 3 of a place in it. A sequence's limit is that of its type.
use Rattle.std.specs.Prelude.{List, [], ◌∷◌, Bool, cond, not, ◌&&◌, ◌||◌, ltb, leb, get_or, ℕ, ◌/◌, ◌%◌}
use Rattle.base.specs.Below.{all_below}
use Rattle.base.specs.Config.{config_fits}
use Rattle.base.specs.Refusals.{first_refusal, outside_bounds, no_replica, no_column}
use Rattle.keys.specs.Columns.{keys_fit}
use Rattle.slots.specs.Slot.{slot_fits}
use Rattle.table.specs.Table.{len_of, slot_no}
use Rattle.table.specs.declared.place.Place.{Place}
use Rattle.table.specs.declared.table.Table.{Table}

-- columns 0..31 in the rows below n, none in the others
abbrev pub room : ℕ → ℕ → ℕ
room n row = cond (ltb row n) 32 0

-- no more slots than there is room for, and the bar not past them
unfoldable pub row_fits : ℕ → ℕ → ℕ → ℕ → Bool
row_fits n row len bar = leb len (room n row) && leb bar len

abbrev pub row_at : ℕ → List ℕ → List ℕ → ℕ → Bool
row_at n lens bars row = row_fits n row (get_or lens row 0) (get_or bars row 0)

unfoldable pub rows_fit : ℕ → List ℕ → List ℕ → Bool
rows_fit n lens bars = all_below 7 (row_at n lens bars)

-- a slot that is in the table fits
abbrev pub held_fits : Table → ℕ → Bool
held_fits t i = not (ltb (i % 32) (len_of t (i / 32))) || slot_fits t.config.n (slot_no t i)

unfoldable pub slots_fit : Table → Bool
slots_fit t = all_below 224 (held_fits t)

unfoldable pub table_fits : Table → Bool
table_fits t =
    config_fits t.config && (rows_fit t.config.n t.lens t.bars && (slots_fit t && keys_fit t.config.n t.keys))

-- whether the table is within the bounds, then the place's row and column
abbrev pub place_tests_in : Bool → ℕ → Place → List (Bool × ℕ)
place_tests_in within n at =
    (within, outside_bounds)
    ∷ (ltb at.row n, no_replica)
    ∷ (ltb at.col 32, no_column)
    ∷ []

abbrev pub place_tests : Table → Place → List (Bool × ℕ)
place_tests t at = place_tests_in (table_fits t) t.config.n at

unfoldable pub place_refusal : Table → Place → ℕ
place_refusal t at = first_refusal (place_tests t at)
