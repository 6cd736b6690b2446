-- A dependency set: a byte for each of seven rows, 0 for nothing, c + 1 for the column c.
use Rattle.std.specs.Prelude.{List, [], ◌∷◌, ℕ}
use Rattle.deps.specs.Sets.{set_of, number}
use Rattle.deps.specs.declared.sets.DepSet.{DepSet}
use Rattle.layout.specs.Numbers.{byte_of}
use Rattle.layout.specs.Each.{each_at, each_bytes}

unfoldable pub rows_at : List ℕ → List ℕ
rows_at l = each_at byte_of 1 7 l

abbrev pub set_at : List ℕ → DepSet
set_at l = set_of (rows_at l)

abbrev pub row_byte : DepSet → ℕ → List ℕ
row_byte d row = number d row ∷ []

unfoldable pub set_bytes : DepSet → List ℕ
set_bytes d = each_bytes (row_byte d) 7
