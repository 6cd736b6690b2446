-- Highest sequence of a set: the greatest over its slots in the table, 0 if none.
use Rattle.std.specs.Prelude.{Bool, cond, ◌&&◌, leb, ℕ, ◌+◌, ◌*◌, ◌-◌}
use Rattle.base.specs.Below.{greatest_below}
use Rattle.deps.specs.Sets.{number}
use Rattle.deps.specs.declared.sets.DepSet.{DepSet}
use Rattle.table.specs.Table.{len_of, slot_no}
use Rattle.table.specs.declared.table.Table.{Table}

-- a set's number names a slot of a row of this length
unfoldable pub is_held : ℕ → ℕ → Bool
is_held number len = leb 1 number && (leb number 32 && leb number len)

-- the sequence of the slot that the set has in a row; what is not in the table is left out
abbrev pub sequence_in : Table → DepSet → ℕ → ℕ
sequence_in t d row = cond (is_held (number d row) (len_of t row)) (slot_no t (32 * row + (number d row - 1))).seq 0

unfoldable pub highest_of : Table → DepSet → ℕ
highest_of t d = greatest_below 7 (sequence_in t d)
