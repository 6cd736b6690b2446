-- What an attempt reads of the table.
use Rattle.std.specs.Prelude.{List, Bool, cond, ◌&&◌, ℕ, ◌/◌, ◌%◌, ltb}
use Rattle.base.specs.Below.{list_below}
use Rattle.deps.specs.Sets.{number}
use Rattle.slots.specs.Slot.{is_executed}
use Rattle.table.specs.Table.{len_of, slot_no}
use Rattle.table.specs.declared.table.Table.{Table}

-- slot i, of row i / 32 and column i % 32, is in the table
abbrev pub is_held_no : Table → ℕ → Bool
is_held_no t i = ltb (i % 32) (len_of t (i / 32))

-- it has run
abbrev pub has_run : Table → ℕ → Bool
has_run t i = is_held_no t i && is_executed (slot_no t i)

-- what the dependency set of slot i has in a row; a slot that is not in the table has none
abbrev pub dep_of_no : Table → ℕ → ℕ → ℕ
dep_of_no t i row = cond (is_held_no t i) (number (slot_no t i).deps row) 0

-- the sets of all slots, seven numbers each
unfoldable pub deps_of : Table → List ℕ
deps_of t = list_below 1568 (λ k. dep_of_no t (k / 7) (k % 7))

-- the sequences of all slots
unfoldable pub seqs_of : Table → List ℕ
seqs_of t = list_below 224 (λ i. (slot_no t i).seq)
