-- A slot logged Committed: the bar, and the attempts below the bars.
use Rattle.std.specs.Prelude.{List, [], ◌∷◌, ◌++◌, Bool, cond, ◌&&◌, ltb, leb, eqb, ℕ, zero, suc, ◌+◌, ◌*◌, ◌-◌}
use Rattle.base.specs.Status.{rank_of}
use Rattle.base.specs.declared.status.Status.TheVariants.{Committed}
use Rattle.slots.specs.declared.slot.Slot.{Slot}
use Rattle.table.specs.Place.{place_of}
use Rattle.table.specs.Table.{bar_of, slot_no}
use Rattle.table.specs.declared.place.Place.{Place}
use Rattle.table.specs.declared.table.Table.{Table}
use Rattle.attempts.specs.Attempt.{answer_of, attempt_on}
use Rattle.rising.specs.Bars.{risen_bar, with_bar}
use Rattle.rising.specs.Attempts.{Attempts, is_not_yet, attempts_on}

-- ---- each row's slot below the bar that is Committed

-- Committed, and not run
abbrev pub is_just_committed : Slot → Bool
is_just_committed s = eqb (rank_of s.status) (rank_of Committed)

-- a row that has a slot right below its bar, which is so; a row has 32 columns
abbrev pub is_tail : Table → ℕ → Bool
is_tail t row = leb 1 (bar_of t row) && (leb (bar_of t row) 32 && is_just_committed (slot_no t (32 * row + (bar_of t row - 1))))

abbrev pub tail_in : Table → ℕ → List Place
tail_in t row = cond (is_tail t row) (place_of row (bar_of t row - 1) ∷ []) []

-- in row order, those of the rows 0, 1, .., n - 1
unfoldable pub tails_below : Table → ℕ → List Place
tails_below t zero = []
tails_below t (suc n) = tails_below t n ++ tail_in t n

-- ---- the event

-- on the table with its bar risen: the slot below the bar and, unless it is NotYet, each row's
unfoldable pub attempted_from : Table → Place → List Place
attempted_from t tail = tail ∷ cond (is_not_yet (answer_of t tail)) [] (tails_below (attempt_on t tail).table 7)

abbrev pub risen_table : Table → ℕ → Table
risen_table t row = with_bar t row (risen_bar t row)

-- the slots that are attempted once a row's bar has risen
abbrev pub attempted_below : Table → ℕ → List Place
attempted_below t row = attempted_from (risen_table t row) (place_of row (risen_bar t row - 1))

unfoldable pub on_risen : Table → ℕ → Attempts
on_risen t row = attempts_on (risen_table t row) (attempted_below t row)

-- where the column is the row's bar, and the bar rises
abbrev pub rises : Table → Place → Bool
rises t at = eqb at.col (bar_of t at.row) && ltb (bar_of t at.row) (risen_bar t at.row)

unfoldable pub on_committed : Table → Place → Attempts
on_committed t at = cond (rises t at) (on_risen t at.row) (attempts_on t [])
