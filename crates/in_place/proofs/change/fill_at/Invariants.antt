-- `in_place::change::fill_at` meets its contract: the bytes are those of the table with the null slots so far, and then with the row's length.
-- null slots from one index up to another, in the bytes of every table that has these
use mathlib.Core.Path.{◌≡◌}
use mathlib.Core.List.{List}
use Prim.Native.Nat.{ℕ, suc, ◌≤◌, ◌+◌, ◌*◌}
use lib.ListN.{length}
use Rattle.table.specs.Table.{with_slots, nulls_in}
use Rattle.table.specs.declared.table.Table.{Table}
use Rattle.image.specs.Tables.{table_bytes}
use Rattle.in_place.proofs.change.fill_at.Given as goal

abbrev Nulled : ℕ → ℕ → List ℕ → List ℕ → Type 0
Nulled from to before after = (t : Table) → length t.slots ≡ 224 → before ≡ table_bytes t → after ≡ table_bytes (with_slots t (nulls_in t from to))

abbrev pub invariant-loop-col : goal.invariant-loop-col
invariant-loop-col l = (l.len ≤ l.col) × (l.col ≤ suc l.at.col) × (length l.image ≡ length l.initial.image) × Nulled (32 * l.at.row + l.len) (32 * l.at.row + l.col) l.initial.image l.image
