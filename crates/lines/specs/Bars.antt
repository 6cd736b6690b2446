-- The line of the bars: of each row the commit bar and the run bar.
use mathlib.Core.List.{List, [], ◌∷◌, ◌++◌, flat_map}
use Rattle.std.specs.Prelude.{Bool, ℕ, ◌+◌, ◌*◌}
use Rattle.base.specs.Below.{list_below}
use Rattle.slots.specs.Slot.{is_executed}
use Rattle.table.specs.Table.{len_of, bar_of, slot_no}
use Rattle.table.specs.declared.table.Table.{Table}
use Rattle.rising.specs.Bars.{first_from}
use Rattle.lines.specs.Decimal.{pair_text}

-- the slot of the row in the column has run
abbrev pub ran_at : Table → ℕ → ℕ → Bool
ran_at t row col = is_executed (slot_no t (32 * row + col))

-- how long the row's run prefix is: the first column whose slot is absent or has not run
unfoldable pub run_bar : Table → ℕ → ℕ
run_bar t row = first_from 0 (len_of t row) (ran_at t row)

-- after a space COMMIT/RUN
unfoldable pub bar_text : Table → ℕ → List ℕ
bar_text t row = pair_text (bar_of t row) 47 (run_bar t row)

-- those of rows 0, 1, .., n - 1
unfoldable pub rows_text : Table → List ℕ
rows_text t = flat_map (bar_text t) (list_below t.config.n (λ row. row))

-- `bars`, the rows' bars, and a newline
unfoldable pub bars_text : Table → List ℕ
bars_text t = 98 ∷ 97 ∷ 114 ∷ 115 ∷ (rows_text t ++ (10 ∷ []))
