-- Marks by replica: who has replied, acked, fallen silent.
use Rattle.std.specs.Prelude.{List, Bool, false, not, ◌||◌, ltb, get_or, ℕ}
use Rattle.base.specs.Below.{all_below, count_below}

abbrev pub marked : List Bool → ℕ → Bool
marked marks r = get_or marks r false

-- how many are marked
unfoldable pub count_of : List Bool → ℕ
count_of marks = count_below 7 (marked marks)

-- no mark at n or more; else refusal 2
abbrev pub mark_fits : ℕ → List Bool → ℕ → Bool
mark_fits n marks r = not (marked marks r) || ltb r n

unfoldable pub marks_fit : ℕ → List Bool → Bool
marks_fit n marks = all_below 7 (mark_fits n marks)
