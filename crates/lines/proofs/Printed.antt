-- Whole lines, byte by byte.
use mathlib.Core.Path.{◌≡◌, refl}
use mathlib.Core.List.{[], ◌∷◌, flat_map}
use lib.ListN.{replicate, set}
use Rattle.base.specs.Below.{list_below}
use Rattle.base.specs.declared.answer.Answer.TheVariants.{Done, Ignored, NotYet, Already, Refused}
use Rattle.slots.specs.Slot.{null_slot, executed}
use Rattle.table.specs.Table.{table_of}
use Rattle.table.specs.declared.table.Table.{Table}
use Rattle.keys.specs.Columns.{empty_keys}
use Rattle.rising.specs.Bars.{first_from}
use Rattle.lines.specs.Decimal.{digits_in, digits_of, pair_text}
use Rattle.lines.specs.Line.{slots_text, line_text}
use Rattle.lines.specs.Bars.{run_bar, bar_text, rows_text, bars_text}

-- `1 done`
pub one_done : line_text 1 Done [] ≡ 49 ∷ 32 ∷ 100 ∷ 111 ∷ 110 ∷ 101 ∷ 10 ∷ []
unfolding line_text slots_text flat_map digits_of digits_in
one_done = refl

-- `4 done 1.0 0.0`
pub two_slots : line_text 4 Done (32 ∷ 0 ∷ []) ≡ 52 ∷ 32 ∷ 100 ∷ 111 ∷ 110 ∷ 101 ∷ 32 ∷ 49 ∷ 46 ∷ 48 ∷ 32 ∷ 48 ∷ 46 ∷ 48 ∷ 10 ∷ []
unfolding line_text slots_text flat_map pair_text digits_of digits_in
two_slots = refl

-- `9 done 6.31`: the highest order entry
pub highest_slot : line_text 9 Done (223 ∷ []) ≡ 57 ∷ 32 ∷ 100 ∷ 111 ∷ 110 ∷ 101 ∷ 32 ∷ 54 ∷ 46 ∷ 51 ∷ 49 ∷ 10 ∷ []
unfolding line_text slots_text flat_map pair_text digits_of digits_in
highest_slot = refl

-- `2 ignored`
pub ignored : line_text 2 Ignored [] ≡ 50 ∷ 32 ∷ 105 ∷ 103 ∷ 110 ∷ 111 ∷ 114 ∷ 101 ∷ 100 ∷ 10 ∷ []
unfolding line_text slots_text flat_map digits_of digits_in
ignored = refl

-- `3 notyet`
pub not_yet : line_text 3 NotYet [] ≡ 51 ∷ 32 ∷ 110 ∷ 111 ∷ 116 ∷ 121 ∷ 101 ∷ 116 ∷ 10 ∷ []
unfolding line_text slots_text flat_map digits_of digits_in
not_yet = refl

-- `5 already`
pub already : line_text 5 Already [] ≡ 53 ∷ 32 ∷ 97 ∷ 108 ∷ 114 ∷ 101 ∷ 97 ∷ 100 ∷ 121 ∷ 10 ∷ []
unfolding line_text slots_text flat_map digits_of digits_in
already = refl

-- `12 refused 7`
pub refused : line_text 12 (Refused 7) [] ≡ 49 ∷ 50 ∷ 32 ∷ 114 ∷ 101 ∷ 102 ∷ 117 ∷ 115 ∷ 101 ∷ 100 ∷ 32 ∷ 55 ∷ 10 ∷ []
unfolding line_text slots_text flat_map digits_of digits_in
refused = refl

-- `0 refused 11`
pub long_trace : line_text 0 (Refused 11) [] ≡ 48 ∷ 32 ∷ 114 ∷ 101 ∷ 102 ∷ 117 ∷ 115 ∷ 101 ∷ 100 ∷ 32 ∷ 49 ∷ 49 ∷ 10 ∷ []
unfolding line_text slots_text flat_map digits_of digits_in
long_trace = refl

-- the highest number of 64 bits, 18446744073709551615
pub highest_number : digits_of 18446744073709551615 ≡ 49 ∷ 56 ∷ 52 ∷ 52 ∷ 54 ∷ 55 ∷ 52 ∷ 52 ∷ 48 ∷ 55 ∷ 51 ∷ 55 ∷ 48 ∷ 57 ∷ 53 ∷ 53 ∷ 49 ∷ 54 ∷ 49 ∷ 53 ∷ []
unfolding digits_of digits_in
highest_number = refl

-- rows 0 and 1 with one slot each, committed and run, and row 2 with none
unfoldable pub two_ran : Table
two_ran =
    table_of (record { n = 3; own = 0; simple = 2; sup = 3 })
    (set (set (replicate 224 null_slot) 0 (executed null_slot)) 32 (executed null_slot))
    (1 ∷ 1 ∷ 0 ∷ 0 ∷ 0 ∷ 0 ∷ 0 ∷ [])
    (1 ∷ 1 ∷ 0 ∷ 0 ∷ 0 ∷ 0 ∷ 0 ∷ [])
    empty_keys

-- `bars 1/1 1/1 0/0`
pub bars_of_three : bars_text two_ran ≡ 98 ∷ 97 ∷ 114 ∷ 115 ∷ 32 ∷ 49 ∷ 47 ∷ 49 ∷ 32 ∷ 49 ∷ 47 ∷ 49 ∷ 32 ∷ 48 ∷ 47 ∷ 48 ∷ 10 ∷ []
unfolding two_ran bars_text rows_text flat_map list_below bar_text pair_text digits_of digits_in run_bar first_from
bars_of_three = refl
