-- Null slots up to a column, in a table's bytes.
use Rattle.std.specs.Prelude.{◌≡◌, List, ℕ, length}
use Rattle.table.specs.Table.{len_of, nulls_to}
use Rattle.table.specs.declared.place.Place.{Place}
use Rattle.table.specs.declared.table.Table.{Table}
use Rattle.image.specs.Tables.{table_bytes}

-- of every table of seven rows and 224 slots that has these bytes, and len slots in the row
abbrev pub Filled : Place → ℕ → List ℕ → List ℕ → Type 0
Filled at len before after =
    (t : Table) → length t.lens ≡ 7 → length t.slots ≡ 224 → len_of t at.row ≡ len → before ≡ table_bytes t → after ≡ table_bytes (nulls_to t at)
