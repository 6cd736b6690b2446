-- What is written into a table's bytes is what changes in the table: null slots one after the other, the row's length, and each extent after the one before it.
use mathlib.Core.Path.{◌≡◌, refl, ap, ◌∙◌}
use mathlib.Core.List.{List}
use Prim.Native.Nat.{ℕ, suc, ◌+◌, ◌*◌, ◌<◌, ◌≤◌}
use native.Mathlib.Omega.{arith}
use borrow.Author.Tests.{le-ltb}
use lib.Dec.{leb}
use mathlib.Core.Bool.{true, false}
use lib.ListN.{length}
use Rattle.slots.specs.Slot.{null_slot}
use Rattle.slots.specs.declared.slot.Slot.{Slot}
use Rattle.table.specs.Table.{len_of, with_slots, put_at, nulls_in, nulls_to, stored_at}
use Rattle.table.specs.declared.place.Place.{Place}
use Rattle.table.specs.declared.table.Table.{Table}
use Rattle.table.proofs.NullLaws.{length_nulls, nulls_more}
use Rattle.changes.specs.Change.{changed_table, reach_of, Inside}
use Rattle.changes.specs.declared.change.Extent.{Extent}
use Rattle.changes.specs.declared.change.Extent.TheVariants as Extents
use Rattle.layout.specs.Numbers.{byte_for, lay}
use Rattle.slot_bytes.specs.Slot.{slot_bytes}
use Rattle.image.specs.Tables.{table_bytes}
use Rattle.image.proofs.PutLaws.{slot_put, length_put}

-- one null slot more
pub null_put : (t : Table) (a b : ℕ) → a ≤ b → b < 224 → lay (table_bytes (with_slots t (nulls_in t a b))) (1810 + 142 * b) (slot_bytes null_slot) ≡ table_bytes (with_slots t (nulls_in t a (suc b)))
null_put t a b l m =
    slot_put (with_slots t (nulls_in t a b)) b null_slot m (length_nulls t a b) ∙ ap (λ (s : List Slot). table_bytes (with_slots t s)) (nulls_more t a b l m)

-- the row's length, when the last is written
pub grown_put : (t : Table) (at : Place) (len : ℕ) → length t.lens ≡ 7 → at.row < 7 → len_of t at.row ≡ len → len ≤ at.col
    → lay (table_bytes (with_slots t (nulls_in t (32 * at.row + len) (32 * at.row + suc at.col)))) (4 + at.row) (byte_for (suc at.col)) ≡ table_bytes (nulls_to t at)
unfolding nulls_to
grown_put t at len r l e m =
    let short : len_of t at.row ≤ at.col = omega (arith, e) in
    rw (← e) (length_put (with_slots t (nulls_in t (32 * at.row + len_of t at.row) (32 * at.row + suc at.col))) at.row (suc at.col) l r ∙ rw (le-ltb at.col (len_of t at.row) short))

-- ---- how far a change reaches

module _ (t : Table) (at : Place) (s : Slot) where
  pub nulls_changed : (x : Extent) → leb 1 (reach_of x) ≡ true → leb 2 (reach_of x) ≡ false → changed_table x t at s ≡ nulls_to t at
  nulls_changed Extents.Nothing l m = cc
  nulls_changed Extents.Nulls l m = refl
  nulls_changed Extents.Slot l m = cc
  nulls_changed Extents.Keys l m = cc

  pub slot_changed : (x : Extent) → leb 2 (reach_of x) ≡ true → leb 3 (reach_of x) ≡ false → changed_table x t at s ≡ put_at (nulls_to t at) at s
  slot_changed Extents.Nothing l m = cc
  slot_changed Extents.Nulls l m = cc
  slot_changed Extents.Slot l m = refl
  slot_changed Extents.Keys l m = cc

  pub keys_changed : (x : Extent) → leb 3 (reach_of x) ≡ true → changed_table x t at s ≡ stored_at (nulls_to t at) at s
  keys_changed Extents.Nothing l = cc
  keys_changed Extents.Nulls l = cc
  keys_changed Extents.Slot l = cc
  keys_changed Extents.Keys l = refl

pub reaches_inside : (x : Extent) (at : Place) → leb 1 (reach_of x) ≡ true → Inside x at → (at.row < 7) × (at.col < 32)
reaches_inside Extents.Nothing at l h = cc
reaches_inside Extents.Nulls at l h = h
reaches_inside Extents.Slot at l h = h
reaches_inside Extents.Keys at l h = h
