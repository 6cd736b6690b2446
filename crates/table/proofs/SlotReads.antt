-- Reading a table back: after a slot is put, null slots are added, or a slot is stored.
use mathlib.Core.Path.{◌≡◌, refl, ◌∙◌}
use mathlib.Core.Logic.{◌⊎◌, inl, inr}
use mathlib.Core.Bool.{Bool, true, false, and-false}
use Prim.Native.Nat.{ℕ, suc, ◌+◌, ◌*◌, ◌/◌, ◌%◌, ◌<◌, ◌≤◌, max}
use native.Mathlib.Omega.{arith}
use borrow.Author.Tests.{lt-ltb, le-ltb, le-leb, ltb-true, ltb-false, leb-true, leb-false, eqb-true, eqb-false}
use lib.Dec.{ltb, leb, eqb}
use lib.ListN.{length, get_or, set, length-set}
use lib.Seq.{get_or-set_same, get_or-set_other}
use Rattle.base.proofs.Loops.{both_true, length_below, below_at_lem}
use Rattle.keys.specs.Columns.{refreshed_by, put_keys}
use Rattle.keys.proofs.KeyLaws.{length_raise}
use Rattle.table.specs.Place.{place_of, index_of}
use Rattle.slots.specs.Slot.{null_slot, blank_slot}
use Rattle.table.specs.Table.{len_of, holds, slot_no, slot_of, with_slots, with_lens, put_at, null_in, nulls_in, nulls_to, stored_at}
use Rattle.table.specs.declared.place.Place.{Place}
use Rattle.slots.specs.declared.slot.Slot.{Slot}
use Rattle.table.specs.declared.table.Table.{Table}

-- ---- a place and its index

pub index_row : (at : Place) → at.col < 32 → index_of at / 32 ≡ at.row
index_row at l = omega arith

pub index_col : (at : Place) → at.col < 32 → index_of at % 32 ≡ at.col
index_col at l = omega arith

pub index_apart : (a b : Place) → a.col < 32 → b.col < 32 → index_of a ≡ index_of b → (a.row ≡ b.row) × (a.col ≡ b.col)
index_apart a b l m e = omega arith

pub index_below : (at : Place) → at.row < 7 → at.col < 32 → index_of at < 224
index_below at l m = omega arith

-- every index is that of a place
pub index_place : (i : ℕ) → index_of (place_of (i / 32) (i % 32)) ≡ i
index_place i = omega arith

-- ---- in the table exactly when

pub holds_each : (t : Table) (at : Place) → holds t at ≡ true → (at.col < 32) × (at.col < len_of t at.row)
unfolding holds
holds_each t at h =
    let p = both_true (ltb at.col 32) (ltb at.col (len_of t at.row)) h in
    (ltb-true _ _ p.0, ltb-true _ _ p.1)

pub each_holds : (t : Table) (at : Place) → at.col < 32 → at.col < len_of t at.row → holds t at ≡ true
unfolding holds
each_holds t at l m = rw (lt-ltb _ _ l, lt-ltb _ _ m)

pub holds_not : (t : Table) (at : Place) → len_of t at.row ≤ at.col → holds t at ≡ false
unfolding holds
holds_not t at l = rw (le-ltb _ _ l, and-false)

-- ---- a slot put

module _ (t : Table) (at : Place) (s : Slot) where
  pub put_length : length (put_at t at s).slots ≡ length t.slots
  put_length = simp length-set

  pub put_there : length t.slots ≡ 224 → at.row < 7 → at.col < 32 → slot_of (put_at t at s) at ≡ s
  put_there e l m = get_or-set_same t.slots (index_of at) s blank_slot (omega arith)

  pub put_elsewhere : (i : ℕ) → (i ≡ index_of at → ⊥) → slot_no (put_at t at s) i ≡ slot_no t i
  put_elsewhere i h = get_or-set_other t.slots (index_of at) i s blank_slot h

-- ---- a slot stored, and the keys refreshed

module _ (t : Table) (at : Place) (s : Slot) where
  pub stored_there : length t.slots ≡ 224 → at.row < 7 → at.col < 32 → slot_of (stored_at t at s) at ≡ s
  unfolding stored_at
  stored_there = put_there t at s

  pub stored_elsewhere : (i : ℕ) → (i ≡ index_of at → ⊥) → slot_no (stored_at t at s) i ≡ slot_no t i
  unfolding stored_at
  stored_elsewhere = put_elsewhere t at s

  pub stored_length : length (stored_at t at s).slots ≡ length t.slots
  unfolding stored_at
  stored_length = put_length t at s

  pub stored_config : (stored_at t at s).config ≡ t.config
  unfolding stored_at
  stored_config = refl

  pub stored_lens : (stored_at t at s).lens ≡ t.lens
  unfolding stored_at
  stored_lens = refl

  pub stored_bars : (stored_at t at s).bars ≡ t.bars
  unfolding stored_at
  stored_bars = refl

  pub stored_keys : (stored_at t at s).keys ≡ refreshed_by t.keys at.row at.col s.batch
  unfolding stored_at
  stored_keys = refl

  pub stored_keys_length : length (stored_at t at s).keys.cols ≡ length t.keys.cols
  unfolding stored_at refreshed_by
  stored_keys_length = length_raise at.row at.col (put_keys s.batch) t.keys

-- ---- null slots up to a column

-- null slots from one index up to another, and the slots as they were elsewhere
abbrev pub NullOrKept : Table → ℕ → ℕ → ℕ → Type 0
NullOrKept t from to i =
    ((from ≤ i) × (i < to) × (get_or (nulls_in t from to) i blank_slot ≡ null_slot)) ⊎ ((from ≤ i → i < to → ⊥) × (get_or (nulls_in t from to) i blank_slot ≡ slot_no t i))

module _ (t : Table) (from to i : ℕ) where
  pub null_between : from ≤ i → i < to → i < 224 → get_or (nulls_in t from to) i blank_slot ≡ null_slot
  unfolding nulls_in
  null_between f g l = below_at_lem 224 (null_in t from to) i blank_slot l ∙ rw (le-leb from i f, lt-ltb i to g)

  pub kept_outside : (from ≤ i → i < to → ⊥) → i < 224 → get_or (nulls_in t from to) i blank_slot ≡ slot_no t i
  unfolding nulls_in
  kept_outside h l = below_at_lem 224 (null_in t from to) i blank_slot l ∙ go (leb from i) refl (ltb i to) refl
    where
      go : (a : Bool) → leb from i ≡ a → (b : Bool) → ltb i to ≡ b → null_in t from to i ≡ slot_no t i
      go false e b f = rw e
      go true e false f = rw (f, and-false)
      go true e true f = absurd (h (leb-true from i e) (ltb-true i to f))

  pub null_or_kept : i < 224 → NullOrKept t from to i
  null_or_kept l = go (leb from i) refl (ltb i to) refl
    where
      out : (from ≤ i → i < to → ⊥) → NullOrKept t from to i
      out h = inr (h, kept_outside h l)

      go : (a : Bool) → leb from i ≡ a → (b : Bool) → ltb i to ≡ b → NullOrKept t from to i
      go false e b f = out (λ x y. omega (arith, leb-false from i e))
      go true e false f = out (λ x y. omega (arith, ltb-false i to f))
      go true e true f = let a = leb-true from i e in let b = ltb-true i to f in inl (a, b, null_between a b l)

-- the table with its row grown to the column
abbrev pub grown : Table → Place → Table
grown t at =
    with_lens (with_slots t (nulls_in t (32 * at.row + len_of t at.row) (32 * at.row + suc at.col))) (set t.lens at.row (suc at.col))

module _ (t : Table) (at : Place) where
  -- the row reaches the column and nothing is done, or it grows to it
  pub nulls_cases : (P : Table → Type 0) → (at.col < len_of t at.row → P t) → (len_of t at.row ≤ at.col → P (grown t at)) → P (nulls_to t at)
  unfolding nulls_to
  nulls_cases P f g = go (ltb at.col (len_of t at.row)) refl
    where
      go : (b : Bool) → ltb at.col (len_of t at.row) ≡ b → P (nulls_to t at)
      go true e = rw e (f (ltb-true _ _ e))
      go false e = rw e (g (ltb-false _ _ e))

  pub nulls_reached : at.col < len_of t at.row → nulls_to t at ≡ t
  unfolding nulls_to
  nulls_reached l = rw (lt-ltb at.col (len_of t at.row) l)

  pub nulls_config : (nulls_to t at).config ≡ t.config
  nulls_config = nulls_cases (λ u. u.config ≡ t.config) (λ h. refl) (λ h. refl)

  pub nulls_bars : (nulls_to t at).bars ≡ t.bars
  nulls_bars = nulls_cases (λ u. u.bars ≡ t.bars) (λ h. refl) (λ h. refl)

  pub nulls_keys : (nulls_to t at).keys ≡ t.keys
  nulls_keys = nulls_cases (λ u. u.keys ≡ t.keys) (λ h. refl) (λ h. refl)

  pub nulls_length : length t.slots ≡ 224 → length (nulls_to t at).slots ≡ 224
  unfolding nulls_in
  nulls_length e = nulls_cases (λ u. length u.slots ≡ 224) (λ h. e) (λ h. length_below 224 _)

  pub nulls_lens_length : length (nulls_to t at).lens ≡ length t.lens
  nulls_lens_length = nulls_cases (λ u. length u.lens ≡ length t.lens) (λ h. refl) (λ h. simp length-set)

  -- the row's slots
  pub grown_len : at.row < length t.lens → len_of (grown t at) at.row ≡ suc at.col
  grown_len l = get_or-set_same t.lens at.row (suc at.col) 0 l

  pub grown_len_other : (row : ℕ) → (row ≡ at.row → ⊥) → len_of (grown t at) row ≡ len_of t row
  grown_len_other row out = get_or-set_other t.lens at.row row (suc at.col) 0 out

  pub nulls_len : length t.lens ≡ 7 → at.row < 7 → len_of (nulls_to t at) at.row ≡ max (len_of t at.row) (suc at.col)
  nulls_len e l =
      nulls_cases (λ u. len_of u at.row ≡ max (len_of t at.row) (suc at.col)) (λ h. omega arith) (λ h. omega (arith, grown_len (omega arith)))

  pub nulls_len_other : (row : ℕ) → (row ≡ at.row → ⊥) → len_of (nulls_to t at) row ≡ len_of t row
  nulls_len_other row out = nulls_cases (λ u. len_of u row ≡ len_of t row) (λ h. refl) (λ h. grown_len_other row out)

  pub nulls_holds : length t.lens ≡ 7 → at.row < 7 → at.col < 32 → holds (nulls_to t at) at ≡ true
  nulls_holds e l m = each_holds (nulls_to t at) at m (omega (arith, nulls_len e l))

  -- what is added is null
  pub nulls_added : (col : ℕ) → at.row < 7 → at.col < 32 → len_of t at.row ≤ col → col ≤ at.col → slot_of (nulls_to t at) (place_of at.row col) ≡ null_slot
  nulls_added col l m f g =
      nulls_cases (λ u. slot_of u (place_of at.row col) ≡ null_slot)
      (λ h. absurd (omega arith))
      (λ h. null_between t _ _ (32 * at.row + col) (omega arith) (omega arith) (omega arith))

  -- what is not added is as it was
  pub nulls_elsewhere : (i : ℕ) → (32 * at.row + len_of t at.row ≤ i → i ≤ index_of at → ⊥) → i < 224 → slot_no (nulls_to t at) i ≡ slot_no t i
  nulls_elsewhere i out l =
      nulls_cases (λ u. slot_no u i ≡ slot_no t i) (λ h. refl) (λ h. kept_outside t _ _ i (λ f g. out f (omega arith)) l)

  pub nulls_other_row : (i : ℕ) → (i / 32 ≡ at.row → ⊥) → at.col < 32 → i < 224 → slot_no (nulls_to t at) i ≡ slot_no t i
  nulls_other_row i out m = nulls_elsewhere i (λ f g. out (omega arith))

  -- so is what was in the table, by its index and by its place
  pub nulls_held : (i : ℕ) → i % 32 < len_of t (i / 32) → at.col < 32 → i < 224 → slot_no (nulls_to t at) i ≡ slot_no t i
  nulls_held i h m =
      nulls_elsewhere i
      (λ f g. let e : i / 32 ≡ at.row = omega arith in
      let k : i % 32 < len_of t at.row = rw e at h in
      omega arith)

  pub nulls_kept : (b : Place) → holds t b ≡ true → b.row < 7 → at.col < 32 → slot_of (nulls_to t at) b ≡ slot_of t b
  nulls_kept b h l m =
      let p = holds_each t b h in
      nulls_held (index_of b) (rw (index_row b p.0, index_col b p.0) p.1) m (omega arith)

-- what was in the table is still
pub nulls_hold : (t : Table) (at b : Place) → length t.lens ≡ 7 → at.row < 7 → holds t b ≡ true → holds (nulls_to t at) b ≡ true
nulls_hold t at b e l h =
    let p = holds_each t b h in
    each_holds (nulls_to t at) b p.0
    (nulls_cases t at (λ u. b.col < len_of u b.row) (λ reached. p.1) (λ short. go p.1 short (eqb b.row at.row) refl))
  where
    go : b.col < len_of t b.row → len_of t at.row ≤ at.col → (x : Bool) → eqb b.row at.row ≡ x → b.col < len_of (grown t at) b.row
    go k short true q =
        let r = eqb-true b.row at.row q in
        let j : b.col < len_of t at.row = rw r at k in
        rw r (omega (arith, grown_len t at (omega arith)))
    go k short false q = omega (arith, grown_len_other t at b.row (eqb-false b.row at.row q))
