-- Refusal 1 of a table exactly when, and what keeps a table within the bounds.
use mathlib.Core.Path.{◌≡◌, refl, ap, ◌∙◌}
use mathlib.Core.List.{List}
use mathlib.Core.Logic.{◌⊎◌, inl, inr, ⊎_elim}
use mathlib.Core.Bool.{Bool, true, false, or-true}
use Prim.Native.Nat.{ℕ, suc, ◌+◌, ◌*◌, ◌/◌, ◌%◌, ◌<◌, ◌≤◌}
use native.Mathlib.Omega.{arith}
use borrow.Author.Tests.{lt-ltb, le-leb, le-ltb, ltb-true, ltb-false, leb-true, leb-false, eqb-true, eqb-false}
use lib.Dec.{ltb, leb, eqb}
use lib.ListN.{length, get_or}
use lib.Seq.{set_out, get_or-set_same}
use Rattle.base.specs.Config.{Within}
use Rattle.base.proofs.Loops.{both_true, all_at, all_each}
use Rattle.base.proofs.ConfigLaws.{config_fits_each, each_config_fits}
use Rattle.keys.specs.Columns.{keys_fit}
use Rattle.keys.proofs.KeyLaws.{refresh_fits}
use Rattle.table.specs.Place.{index_of}
use Rattle.slots.specs.Slot.{blank_slot, slot_fits}
use Rattle.table.specs.Table.{len_of, bar_of, holds, slot_no, slot_of, put_at, nulls_to, stored_at}
use Rattle.bounds.specs.Bounds.{room, row_fits, row_at, rows_fit, held_fits, slots_fit, table_fits}
use Rattle.table.specs.declared.place.Place.{Place}
use Rattle.slots.specs.declared.slot.Slot.{Slot}
use Rattle.table.specs.declared.table.Table.{Table}
use Rattle.slots.proofs.SlotLaws.{null_fits}
use Rattle.table.proofs.SlotReads.{index_row, index_col, holds_each, put_elsewhere, grown, grown_len, grown_len_other, nulls_cases, null_or_kept}

-- ---- a table within the bounds

-- no row longer than its room, no bar past its row's slots, every slot in the table and every key's columns within
pub record TableWithin (t : Table) : Type 0 where
  pub config_fits : Within t.config
  pub lens_fit : (row : ℕ) → row < 7 → len_of t row ≤ room t.config.n row
  pub bars_fit : (row : ℕ) → row < 7 → bar_of t row ≤ len_of t row
  pub slots_fit : (i : ℕ) → i < 224 → i % 32 < len_of t (i / 32) → slot_fits t.config.n (slot_no t i) ≡ true
  pub keys_fit : keys_fit t.config.n t.keys ≡ true

module _ (n : ℕ) (lens bars : List ℕ) where
  pub rows_fit_each : rows_fit n lens bars ≡ true → (row : ℕ) → row < 7 → (get_or lens row 0 ≤ room n row) × (get_or bars row 0 ≤ get_or lens row 0)
  unfolding rows_fit row_fits
  rows_fit_each h row l =
      let a = both_true _ _ (all_at (row_at n lens bars) 7 h row l) in
      (leb-true _ _ a.0, leb-true _ _ a.1)

  pub each_rows_fit : ((row : ℕ) → row < 7 → (get_or lens row 0 ≤ room n row) × (get_or bars row 0 ≤ get_or lens row 0)) → rows_fit n lens bars ≡ true
  unfolding rows_fit row_fits
  each_rows_fit h = all_each (row_at n lens bars) 7 (λ row l. rw (le-leb _ _ (h row l).0, le-leb _ _ (h row l).1))

module _ (t : Table) where
  pub slots_fit_each : slots_fit t ≡ true → (i : ℕ) → i < 224 → i % 32 < len_of t (i / 32) → slot_fits t.config.n (slot_no t i) ≡ true
  unfolding slots_fit
  slots_fit_each h i l held =
      let e : held_fits t i ≡ true = all_at (held_fits t) 224 h i l in
      rw (lt-ltb (i % 32) (len_of t (i / 32)) held) at e

  pub each_slots_fit : ((i : ℕ) → i < 224 → i % 32 < len_of t (i / 32) → slot_fits t.config.n (slot_no t i) ≡ true) → slots_fit t ≡ true
  unfolding slots_fit
  each_slots_fit h = all_each (held_fits t) 224 (λ i l. go i l (ltb (i % 32) (len_of t (i / 32))) refl)
    where
      go : (i : ℕ) → i < 224 → (b : Bool) → ltb (i % 32) (len_of t (i / 32)) ≡ b → held_fits t i ≡ true
      go i l true e = rw (h i l (ltb-true _ _ e), or-true)
      go i l false e = rw e

  pub table_fits_each : table_fits t ≡ true → TableWithin t
  unfolding table_fits
  table_fits_each h =
      let a = both_true _ _ h in
      let b = both_true _ _ a.1 in
      let d = both_true _ _ b.1 in
      let rows = rows_fit_each t.config.n t.lens t.bars b.0 in
      record {
        config_fits = config_fits_each t.config a.0;
        lens_fit = λ row l. (rows row l).0;
        bars_fit = λ row l. (rows row l).1;
        slots_fit = slots_fit_each d.0;
        keys_fit = d.1;
      }

  pub each_table_fits : TableWithin t → table_fits t ≡ true
  unfolding table_fits
  each_table_fits w =
      rw (each_config_fits t.config w.config_fits, each_rows_fit t.config.n t.lens t.bars (λ row l. (w.lens_fit row l, w.bars_fit row l)), each_slots_fit w.slots_fit, w.keys_fit)

  pub table_outside : (TableWithin t → ⊥) → table_fits t ≡ false
  table_outside h = go (table_fits t) refl
    where
      go : (b : Bool) → table_fits t ≡ b → table_fits t ≡ false
      go true e = absurd (h (table_fits_each e))
      go false e = e

-- at most 32 slots in a row, and none in a row n or more
pub room_at_most : (n row : ℕ) → room n row ≤ 32
room_at_most n row = go (ltb row n) refl
  where
    go : (b : Bool) → ltb row n ≡ b → room n row ≤ 32
    go true e = rw e (omega arith)
    go false e = rw e (omega arith)

pub no_room : (n row : ℕ) → n ≤ row → room n row ≡ 0
no_room n row l = rw (le-ltb row n l)

module _ (t : Table) (h : table_fits t ≡ true) where
  pub len_at_most : (row : ℕ) → row < 7 → len_of t row ≤ 32
  len_at_most row l = omega (arith, (table_fits_each t h).lens_fit row l, room_at_most t.config.n row)

  -- a row that holds a slot is one of the population's
  pub held_row : (row col : ℕ) → row < 7 → col < len_of t row → row < t.config.n
  held_row row col l held = go (ltb row t.config.n) refl
    where
      go : (b : Bool) → ltb row t.config.n ≡ b → row < t.config.n
      go true e = ltb-true row t.config.n e
      go false e =
          absurd (omega (arith, (table_fits_each t h).lens_fit row l, no_room t.config.n row (ltb-false row t.config.n e)))

  pub row_below : (row : ℕ) → row < t.config.n → row < 7
  row_below row l = omega (arith, (table_fits_each t h).config_fits.seven)

  -- the slot at a place in the table
  pub held_slot_fits : (at : Place) → at.row < 7 → holds t at ≡ true → slot_fits t.config.n (slot_of t at) ≡ true
  held_slot_fits at l held =
      let p = holds_each t at held in
      (table_fits_each t h).slots_fit (index_of at) (omega arith) (rw (index_row at p.0, index_col at p.0) p.1)

-- ---- a slot put, null slots added, a slot stored

pub put_either : (t : Table) (at : Place) (s : Slot) (i : ℕ) → (slot_no (put_at t at s) i ≡ slot_no t i) ⊎ (slot_no (put_at t at s) i ≡ s)
put_either t at s i = go (eqb i (index_of at)) refl (ltb (index_of at) (length t.slots)) refl
  where
    go : (b : Bool) → eqb i (index_of at) ≡ b → (d : Bool) → ltb (index_of at) (length t.slots) ≡ d → (slot_no (put_at t at s) i ≡ slot_no t i) ⊎ (slot_no (put_at t at s) i ≡ s)
    go false e d f = inl (put_elsewhere t at s i (eqb-false i (index_of at) e))
    go true e false f = inl (ap (λ (l : List Slot). get_or l i blank_slot) (set_out t.slots (index_of at) s (ltb-false _ _ f)))
    go true e true f = inr (rw (eqb-true i (index_of at) e) (get_or-set_same t.slots (index_of at) s blank_slot (ltb-true _ _ f)))

module _ (t : Table) (at : Place) (h : table_fits t ≡ true) where
  put_slots_fit : (s : Slot) → slot_fits t.config.n s ≡ true → (i : ℕ) → i < 224 → i % 32 < len_of t (i / 32) → slot_fits t.config.n (slot_no (put_at t at s) i) ≡ true
  put_slots_fit s f i l held =
      ⊎_elim
      (λ e. ap (slot_fits t.config.n) e ∙ (table_fits_each t h).slots_fit i l held)
      (λ e. ap (slot_fits t.config.n) e ∙ f)
      (put_either t at s i)

  pub put_keeps : (s : Slot) → slot_fits t.config.n s ≡ true → table_fits (put_at t at s) ≡ true
  put_keeps s f =
      let w = table_fits_each t h in
      each_table_fits (put_at t at s)
      (record { config_fits = w.config_fits; lens_fit = w.lens_fit; bars_fit = w.bars_fit; slots_fit = put_slots_fit s f; keys_fit = w.keys_fit })

  pub stored_keeps : (s : Slot) → slot_fits t.config.n s ≡ true → at.row < t.config.n → at.col < 32 → table_fits (stored_at t at s) ≡ true
  unfolding stored_at
  stored_keeps s f l m =
      let w = table_fits_each t h in
      each_table_fits (stored_at t at s)
      (record {
        config_fits = w.config_fits;
        lens_fit = w.lens_fit;
        bars_fit = w.bars_fit;
        slots_fit = put_slots_fit s f;
        keys_fit = refresh_fits at.row at.col t.config.n t.keys s.batch l m w.keys_fit;
      })

  -- the row grown to a column
  module _ (e : length t.lens ≡ 7) (l : at.row < t.config.n) (m : at.col < 32) (short : len_of t at.row ≤ at.col) where
    its_len : len_of (grown t at) at.row ≡ suc at.col
    its_len = grown_len t at (omega (arith, row_below t h at.row l))

    grown_lens_fit : (row : ℕ) → row < 7 → (b : Bool) → eqb row at.row ≡ b → len_of (grown t at) row ≤ room t.config.n row
    grown_lens_fit row i true q = rw (eqb-true row at.row q, its_len, lt-ltb at.row t.config.n l) m
    grown_lens_fit row i false q = rw (grown_len_other t at row (eqb-false row at.row q)) ((table_fits_each t h).lens_fit row i)

    grown_bars_fit : (row : ℕ) → row < 7 → (b : Bool) → eqb row at.row ≡ b → bar_of t row ≤ len_of (grown t at) row
    grown_bars_fit row i true q =
        let r = eqb-true row at.row q in
        rw (r, its_len) (omega (arith, (table_fits_each t h).bars_fit at.row (rw r at i)))
    grown_bars_fit row i false q = rw (grown_len_other t at row (eqb-false row at.row q)) ((table_fits_each t h).bars_fit row i)

    -- a slot in the grown table that is not new was in the table
    held_before : (i : ℕ) → i % 32 < len_of (grown t at) (i / 32) → (32 * at.row + len_of t at.row ≤ i → i < 32 * at.row + suc at.col → ⊥) → (b : Bool) → eqb (i / 32) at.row ≡ b → i % 32 < len_of t (i / 32)
    held_before i held old true q =
        let r = eqb-true (i / 32) at.row q in
        rw r (go r (leb (len_of t at.row) (i % 32)) refl (rw (r, its_len) at held))
      where
        go : i / 32 ≡ at.row → (b : Bool) → leb (len_of t at.row) (i % 32) ≡ b → i % 32 < suc at.col → i % 32 < len_of t at.row
        go r true f k = let g = leb-true (len_of t at.row) (i % 32) f in absurd (old (omega arith) (omega arith))
        go r false f k = leb-false _ _ f
    held_before i held old false q = rw (grown_len_other t at (i / 32) (eqb-false (i / 32) at.row q)) at held

    grown_slots_fit : (i : ℕ) → i < 224 → i % 32 < len_of (grown t at) (i / 32) → slot_fits t.config.n (slot_no (grown t at) i) ≡ true
    grown_slots_fit i k held =
        ⊎_elim
        (λ q. ap (slot_fits t.config.n) q.2 ∙ null_fits t.config.n)
        (λ q. ap (slot_fits t.config.n) q.1 ∙ (table_fits_each t h).slots_fit i k (held_before i held q.0 (eqb (i / 32) at.row) refl))
        (null_or_kept t (32 * at.row + len_of t at.row) (32 * at.row + suc at.col) i k)

    grown_keeps : table_fits (grown t at) ≡ true
    grown_keeps =
        let w = table_fits_each t h in
        each_table_fits (grown t at)
        (record {
          config_fits = w.config_fits;
          lens_fit = λ row i. grown_lens_fit row i (eqb row at.row) refl;
          bars_fit = λ row i. grown_bars_fit row i (eqb row at.row) refl;
          slots_fit = grown_slots_fit;
          keys_fit = w.keys_fit;
        })

  pub nulls_keep : length t.lens ≡ 7 → at.row < t.config.n → at.col < 32 → table_fits (nulls_to t at) ≡ true
  nulls_keep e l m = nulls_cases t at (λ u. table_fits u ≡ true) (λ reached. h) (λ short. grown_keeps e l m short)
