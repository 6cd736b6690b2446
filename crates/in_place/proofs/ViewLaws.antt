-- What a table that stands in bytes has, each part where it stands.
use mathlib.Core.Path.{◌≡◌, refl, ◌∙◌}
use mathlib.Core.List.{List}
use mathlib.Core.Bool.{true, false, ◌&&◌}
use Prim.Native.Nat.{ℕ, ◌+◌, ◌*◌, ◌-◌, ◌/◌, ◌%◌, ◌<◌}
use native.Mathlib.Omega.{arith}
use lib.Dec.{ltb}
use lib.ListN.{length, get_or, drop}
use lib.Seq.{drop-drop}
use Rattle.base.specs.Config.{config_fits}
use Rattle.base.specs.declared.config.Config.{Config}
use Rattle.deps.specs.Sets.{number}
use Rattle.deps.specs.declared.sets.DepSet.{DepSet}
use Rattle.keys.specs.Columns.{keys_fit}
use Rattle.keys.specs.declared.columns.Keys.{Keys}
use Rattle.slots.specs.Slot.{blank_slot, slot_fits}
use Rattle.slots.specs.declared.slot.Slot.{Slot}
use Rattle.table.specs.Table.{slot_no}
use Rattle.bounds.specs.Bounds.{held_fits, rows_fit, slots_fit, table_fits}
use Rattle.bounds.specs.Highest.{is_held, sequence_in}
use Rattle.bounds.proofs.HighestLaws.{held_each}
use Rattle.layout.proofs.EachLaws.{each_is, each_length}
use Rattle.octets.specs.Sets.{rows_at}
use Rattle.octets.proofs.SetLaws.{rows_length}
use Rattle.slot_bytes.specs.Slot.{slot_at}
use Rattle.image.specs.Tables.{config_at, keys_at, slots_at, table_at}

module _ (l : List ℕ) where
  pub config_is : (table_at l).config ≡ config_at l
  unfolding table_at
  config_is = refl

  pub lens_are : (table_at l).lens ≡ rows_at (drop 4 l)
  unfolding table_at
  lens_are = refl

  pub keys_are : (table_at l).keys ≡ keys_at (drop 18 l)
  unfolding table_at
  keys_are = refl

  pub seven_rows : length (table_at l).lens ≡ 7
  unfolding table_at
  seven_rows = rows_length (drop 4 l)

  pub all_slots : length (table_at l).slots ≡ 224
  unfolding table_at slots_at
  all_slots = each_length slot_at 142 224 (drop 1810 l)

  pub slot_no_at : (i : ℕ) → i < 224 → slot_no (table_at l) i ≡ slot_at (drop (1810 + 142 * i) l)
  unfolding table_at slots_at
  slot_no_at i p = each_is slot_at 142 224 i (drop 1810 l) blank_slot p ∙ rw drop-drop

  module _ {lens : List ℕ} (e : lens ≡ rows_at (drop 4 l)) where
    -- a slot that the table holds, and a place where it holds none
    pub held_fits_lem : {config : Config} (i : ℕ) → config ≡ config_at l → i < 224 → ltb (i % 32) (get_or lens (i / 32) 0) ≡ true → held_fits (table_at l) i ≡ slot_fits config.n (slot_at (drop (1810 + 142 * i) l))
    held_fits_lem i f p h = rw (config_is, lens_are, slot_no_at i p, ← e, h, f)

    pub none_fits : (i : ℕ) → ltb (i % 32) (get_or lens (i / 32) 0) ≡ false → held_fits (table_at l) i ≡ true
    none_fits i h = rw (lens_are, ← e, h)

    -- the slot that a set has in a row
    pub held_sequence : {s : Slot} (d : DepSet) (row : ℕ) → s ≡ slot_at (drop (1810 + 142 * (32 * row + (number d row - 1))) l) → row < 7 → is_held (number d row) (get_or lens row 0) ≡ true → sequence_in (table_at l) d row ≡ s.seq
    held_sequence d row g p h =
        let k = held_each (number d row) (get_or lens row 0) h in
        rw (lens_are, slot_no_at (32 * row + (number d row - 1)) (omega (arith, k.0, k.1)), ← e, h, g)

    pub none_sequence : (d : DepSet) (row : ℕ) → is_held (number d row) (get_or lens row 0) ≡ false → sequence_in (table_at l) d row ≡ 0
    none_sequence d row h = rw (lens_are, ← e, h)

  -- the one test, on the parts as they are read
  pub fits_are : {config : Config} {lens bars : List ℕ} {keys : Keys} → config ≡ config_at l → lens ≡ rows_at (drop 4 l) → bars ≡ rows_at (drop 11 l) → keys ≡ keys_at (drop 18 l)
      → table_fits (table_at l) ≡ (config_fits config && (rows_fit config.n lens bars && (slots_fit (table_at l) && keys_fit config.n keys)))
  unfolding table_fits table_at
  fits_are e f g k = rw (e, f, g, k)
