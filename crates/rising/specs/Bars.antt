-- The commit bars.
use Rattle.std.specs.Prelude.{List, Bool, cond, leb, set, ℕ, zero, suc, ◌+◌, ◌*◌, ◌-◌}
use Rattle.base.specs.Status.{rank_of}
use Rattle.base.specs.declared.status.Status.TheVariants.{Committed}
use Rattle.slots.specs.declared.slot.Slot.{Slot}
use Rattle.table.specs.Table.{table_of, len_of, bar_of, slot_no}
use Rattle.table.specs.declared.table.Table.{Table}

-- Committed or run
abbrev pub is_committed : Slot → Bool
is_committed s = leb (rank_of Committed) (rank_of s.status)

-- the first of from, from + 1, .. that does not pass; after so many that pass, the next
unfoldable pub first_from : ℕ → ℕ → (ℕ → Bool) → ℕ
first_from from zero passes = from
first_from from (suc many) passes = cond (passes from) (first_from (suc from) many passes) from

-- from a row's bar on the first slot that is absent or below Committed
unfoldable pub risen_bar : Table → ℕ → ℕ
risen_bar t row = first_from (bar_of t row) (len_of t row - bar_of t row) (λ col. is_committed (slot_no t (32 * row + col)))

abbrev pub with_bars : Table → List ℕ → Table
with_bars t bars = table_of t.config t.slots t.lens bars t.keys

abbrev pub with_bar : Table → ℕ → ℕ → Table
with_bar t row bar = with_bars t (set t.bars row bar)
