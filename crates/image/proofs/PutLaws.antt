-- A part of a table written over in its bytes: they are those of the table with that part, and the other parts stay.
use mathlib.Core.Path.{◌≡◌, refl, ap, sym, ◌∙◌}
use mathlib.Core.List.{List, ◌++◌, append_assoc}
use Prim.Native.Nat.{ℕ, ◌+◌, ◌*◌, ◌<◌}
use native.Mathlib.Omega.{arith}
use lib.ListN.{length, get_or, set, length-append}
use lib.Seq.{get_or-set_same, get_or-set_other}
use Rattle.keys.specs.declared.columns.Keys.{Keys}
use Rattle.slots.specs.Slot.{blank_slot}
use Rattle.slots.specs.declared.slot.Slot.{Slot}
use Rattle.table.specs.Table.{with_slots, with_lens, with_keys}
use Rattle.table.specs.declared.table.Table.{Table}
use Rattle.layout.specs.Numbers.{byte_for, lay}
use Rattle.layout.proofs.Laying.{lay_whole}
use Rattle.layout.proofs.PlaceLaws.{lay_right, lay_left, each_put}
use Rattle.slot_bytes.specs.Slot.{slot_bytes}
use Rattle.slot_bytes.proofs.SlotLaws.{slot_length}
use Rattle.image.specs.Tables.{config_bytes, row_in, rows_bytes, keys_bytes, slot_in, slots_bytes, table_bytes}
use Rattle.image.proofs.TableLaws.{config_length, rows_bytes_length, keys_length}

module _ (t : Table) where
  -- what stands before the slots
  abbrev front : List ℕ
  front = config_bytes t.config ++ rows_bytes t.lens ++ rows_bytes t.bars ++ keys_bytes t.keys

  front_length : length front ≡ 1810
  front_length = simp (length-append, config_length, rows_bytes_length, keys_length)

  before_slots : (slots : List Slot) → table_bytes (with_slots t slots) ≡ front ++ slots_bytes slots
  unfolding table_bytes
  before_slots slots = simp (append_assoc)

  pub slot_put : (i : ℕ) (s : Slot) → i < 224 → length t.slots ≡ 224 → lay (table_bytes t) (1810 + 142 * i) (slot_bytes s) ≡ table_bytes (with_slots t (set t.slots i s))
  unfolding slots_bytes
  slot_put i s l e =
      let other : ℕ → List ℕ = slot_in (set t.slots i s) in
      let same : slot_bytes s ≡ other i = ap slot_bytes (sym (get_or-set_same t.slots i s blank_slot (omega arith))) in
      let one = each_put (slot_in t.slots) other 142 (λ k. slot_length (get_or t.slots k blank_slot)) i 224 l (slot_length (get_or (set t.slots i s) i blank_slot))
      (λ k p d. ap slot_bytes (get_or-set_other t.slots i k s blank_slot d)) in
      ap (λ (x : List ℕ). lay x (1810 + 142 * i) (slot_bytes s)) (before_slots t.slots)
      ∙ lay_right front (slots_bytes t.slots) (slot_bytes s) (142 * i) (1810 + 142 * i) (omega (arith, front_length))
      ∙ ap (λ (x : List ℕ). front ++ lay (slots_bytes t.slots) (142 * i) x) same
      ∙ ap (λ (x : List ℕ). front ++ x) one
      ∙ sym (before_slots (set t.slots i s))

  -- what stands behind the row lengths, and before and behind the key columns
  abbrev behind : List ℕ
  behind = rows_bytes t.bars ++ keys_bytes t.keys ++ slots_bytes t.slots

  around_lens : (lens : List ℕ) → table_bytes (with_lens t lens) ≡ config_bytes t.config ++ (rows_bytes lens ++ behind)
  unfolding table_bytes
  around_lens lens = simp (append_assoc)

  pub length_put : (row v : ℕ) → row < 7 → length t.lens ≡ 7 → lay (table_bytes t) (4 + row) (byte_for v) ≡ table_bytes (with_lens t (set t.lens row v))
  unfolding rows_bytes
  length_put row v l e =
      let c = config_bytes t.config in
      let other : ℕ → List ℕ = row_in (set t.lens row v) in
      let same : byte_for v ≡ other row = ap byte_for (sym (get_or-set_same t.lens row v 0 (omega arith))) in
      let at : row ≡ 1 * row = omega arith in
      let one = each_put (row_in t.lens) other 1 (λ k. refl) row 7 l refl (λ k p d. ap byte_for (get_or-set_other t.lens row k v 0 d)) in
      ap (λ (x : List ℕ). lay x (4 + row) (byte_for v)) (around_lens t.lens)
      ∙ lay_right c (rows_bytes t.lens ++ behind) (byte_for v) row (4 + row) (omega (arith, config_length t.config))
      ∙ ap (λ (x : List ℕ). c ++ x) (lay_left (rows_bytes t.lens) behind (byte_for v) row (omega (arith, rows_bytes_length t.lens)))
      ∙ ap (λ (x : List ℕ). c ++ (lay (rows_bytes t.lens) row x ++ behind)) same
      ∙ ap (λ (k : ℕ). c ++ (lay (rows_bytes t.lens) k (other row) ++ behind)) at
      ∙ ap (λ (x : List ℕ). c ++ (x ++ behind)) one
      ∙ sym (around_lens (set t.lens row v))

  abbrev ahead : List ℕ
  ahead = config_bytes t.config ++ rows_bytes t.lens ++ rows_bytes t.bars

  ahead_length : length ahead ≡ 18
  ahead_length = simp (length-append, config_length, rows_bytes_length)

  around_keys : (k : Keys) → table_bytes (with_keys t k) ≡ ahead ++ (keys_bytes k ++ slots_bytes t.slots)
  unfolding table_bytes
  around_keys k = simp (append_assoc)

  pub keys_put : (k : Keys) → lay (table_bytes t) 18 (keys_bytes k) ≡ table_bytes (with_keys t k)
  keys_put k =
      ap (λ (x : List ℕ). lay x 18 (keys_bytes k)) (around_keys t.keys)
      ∙ lay_right ahead (keys_bytes t.keys ++ slots_bytes t.slots) (keys_bytes k) 0 18 (omega (arith, ahead_length))
      ∙ ap (λ (x : List ℕ). ahead ++ x) (lay_left (keys_bytes t.keys) (slots_bytes t.slots) (keys_bytes k) 0 (omega (arith, keys_length t.keys, keys_length k)))
      ∙ ap (λ (x : List ℕ). ahead ++ (x ++ slots_bytes t.slots)) (lay_whole (keys_bytes t.keys) (keys_bytes k) (keys_length t.keys ∙ sym (keys_length k)))
      ∙ sym (around_keys k)
