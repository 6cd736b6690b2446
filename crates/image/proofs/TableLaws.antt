-- The table in bytes: how long it and its parts are, that they read back, and that what is written stands for something.
use mathlib.Core.Path.{◌≡◌, refl, ap, sym, ◌∙◌}
use mathlib.Core.List.{List, [], ◌++◌, append_assoc, append-nil}
use mathlib.Core.Bool.{true}
use Prim.Native.Nat.{ℕ, ◌*◌, ◌<◌, ◌≤◌, min}
use native.Mathlib.Omega.{arith}
use lib.ListN.{length, get_or, drop, replicate, length-append}
use lib.Seq.{drop-drop, drop_at}
use Rattle.base.specs.declared.config.Config.{Config}
use Rattle.base.proofs.Loops.{all_each}
use Rattle.deps.specs.declared.sets.DepSet.{DepSet}
use Rattle.keys.specs.Columns.{keys_of, columns_of}
use Rattle.keys.specs.declared.columns.Keys.{Keys}
use Rattle.slots.specs.Slot.{blank_slot}
use Rattle.slots.specs.declared.slot.Slot.{Slot}
use Rattle.table.specs.Table.{table_of, slot_no}
use Rattle.table.specs.declared.table.Table.{Table}
use Rattle.layout.specs.Numbers.{byte_of}
use Rattle.octets.specs.Sets.{rows_at}
use Rattle.layout.proofs.EachLaws.{bytes_length, each_back, each_is, one_back}
use Rattle.octets.proofs.SetLaws.{set_length, set_back}
use Rattle.slot_bytes.specs.Slot.{slot_at, slot_bytes, slot_known, SlotWhole}
use Rattle.image.specs.Tables.{image_width, config_at, keys_at, slots_at, table_at, known_at, image_known, config_bytes, row_in, rows_bytes, columns_in, keys_bytes, slot_in, slots_bytes, table_bytes, ConfigWhole, RowsWhole, KeysWhole, TableWhole}
use Rattle.slot_bytes.proofs.SlotLaws.{slot_length, slot_back, slot_bytes_known}

-- ---- lengths

pub config_length : (c : Config) → length (config_bytes c) ≡ 4
unfolding config_bytes
config_length c = refl

pub rows_bytes_length : (rows : List ℕ) → length (rows_bytes rows) ≡ 7
unfolding rows_bytes
rows_bytes_length rows = bytes_length (row_in rows) 1 (λ i. refl) 7

pub keys_length : (k : Keys) → length (keys_bytes k) ≡ 1792
unfolding keys_bytes
keys_length k = bytes_length (columns_in k) 7 (λ key. set_length (columns_of k key)) 256

pub slots_length : (slots : List Slot) → length (slots_bytes slots) ≡ 31808
unfolding slots_bytes
slots_length slots = bytes_length (slot_in slots) 142 (λ i. slot_length (get_or slots i blank_slot)) 224

pub table_length : (t : Table) → length (table_bytes t) ≡ image_width
unfolding table_bytes
table_length t = simp (length-append, config_length, rows_bytes_length, keys_length, slots_length)

-- a table of the same parts is the same table
pub table_same : {c d : Config} {s u : List Slot} {l m : List ℕ} {b a : List ℕ} {k j : Keys} → c ≡ d → s ≡ u → l ≡ m → b ≡ a → k ≡ j → table_of c s l b k ≡ table_of d u m a j
table_same e₁ e₂ e₃ e₄ e₅ = rw (e₁, e₂, e₃, e₄, e₅)

-- ---- the parts of a table's bytes, each from its place on

module _ (t : Table) where
  abbrev slots_part : List ℕ
  slots_part = slots_bytes t.slots ++ []

  abbrev keys_part : List ℕ
  keys_part = keys_bytes t.keys ++ slots_part

  abbrev bars_part : List ℕ
  bars_part = rows_bytes t.bars ++ keys_part

  abbrev lens_part : List ℕ
  lens_part = rows_bytes t.lens ++ bars_part

  from_config_lem : table_bytes t ≡ config_bytes t.config ++ lens_part
  unfolding table_bytes
  from_config_lem = simp (append-nil, append_assoc)

  from_lens : drop 4 (table_bytes t) ≡ lens_part
  from_lens = ap (drop 4) from_config_lem ∙ drop_at (config_bytes t.config) lens_part 4 (config_length t.config)

  from_bars : drop 11 (table_bytes t) ≡ bars_part
  from_bars =
      sym (drop-drop 7 4 (table_bytes t)) ∙ ap (drop 7) from_lens ∙ drop_at (rows_bytes t.lens) bars_part 7 (rows_bytes_length t.lens)

  from_keys : drop 18 (table_bytes t) ≡ keys_part
  from_keys =
      sym (drop-drop 7 11 (table_bytes t)) ∙ ap (drop 7) from_bars ∙ drop_at (rows_bytes t.bars) keys_part 7 (rows_bytes_length t.bars)

  from_slots : drop 1810 (table_bytes t) ≡ slots_part
  from_slots =
      sym (drop-drop 1792 18 (table_bytes t)) ∙ ap (drop 1792) from_keys ∙ drop_at (keys_bytes t.keys) slots_part 1792 (keys_length t.keys)

-- ---- reading back

whole_byte : (v : ℕ) → v ≤ 255 → min v 255 ≡ v
whole_byte v h = omega arith

pub config_back : (c : Config) (r : List ℕ) → ConfigWhole c → config_at (config_bytes c ++ r) ≡ c
unfolding config_bytes
config_back c r g = rw (whole_byte c.n g.n, whole_byte c.own g.own, whole_byte c.simple g.simple, whole_byte c.sup g.sup)

pub rows_back : (rows : List ℕ) (r : List ℕ) → RowsWhole rows → rows_at (rows_bytes rows ++ r) ≡ rows
unfolding rows_at rows_bytes
rows_back rows r g = each_back (row_in rows) 1 (λ i. refl) byte_of 7 rows 0 r g.seven (λ i t p. whole_byte (get_or rows i 0) (g.each i p))

pub keys_back : (k : Keys) (r : List ℕ) → KeysWhole k → keys_at (keys_bytes k ++ r) ≡ k
unfolding keys_at keys_bytes
keys_back k r g =
    ap keys_of
    (each_back (columns_in k) 7 (λ key. set_length (columns_of k key)) rows_at 256 k.cols (replicate 7 0) r g.keys
    (λ key t p. ap (λ (d : DepSet). d.cols) (set_back (columns_of k key) t (g.each key p))))

pub slots_back : (slots : List Slot) (r : List ℕ) → length slots ≡ 224 → ((i : ℕ) → i < 224 → SlotWhole (get_or slots i blank_slot)) → slots_at (slots_bytes slots ++ r) ≡ slots
unfolding slots_at slots_bytes
slots_back slots r e g =
    each_back (slot_in slots) 142 (λ i. slot_length (get_or slots i blank_slot)) slot_at 224 slots blank_slot r e
    (λ i t p. slot_back (get_or slots i blank_slot) t (g i p))

-- one slot, whatever the others are
pub one_slot_back : (slots : List Slot) (r : List ℕ) (i : ℕ) → i < 224 → SlotWhole (get_or slots i blank_slot) → get_or (slots_at (slots_bytes slots ++ r)) i blank_slot ≡ get_or slots i blank_slot
unfolding slots_at slots_bytes
one_slot_back slots r i p g =
    each_is slot_at 142 224 i (slots_bytes slots ++ r) blank_slot p
    ∙ one_back (slot_in slots) 142 (λ k. slot_length (get_or slots k blank_slot)) slot_at (get_or slots i blank_slot) i 224 r p (λ t. slot_back (get_or slots i blank_slot) t g)

-- part by part, and the table

module _ (t : Table) where
  pub same_config : ConfigWhole t.config → (table_at (table_bytes t)).config ≡ t.config
  unfolding table_at
  same_config g = ap config_at (from_config_lem t) ∙ config_back t.config (lens_part t) g

  pub same_lens : RowsWhole t.lens → (table_at (table_bytes t)).lens ≡ t.lens
  unfolding table_at
  same_lens g = ap rows_at (from_lens t) ∙ rows_back t.lens (bars_part t) g

  pub same_bars : RowsWhole t.bars → (table_at (table_bytes t)).bars ≡ t.bars
  unfolding table_at
  same_bars g = ap rows_at (from_bars t) ∙ rows_back t.bars (keys_part t) g

  pub same_keys : KeysWhole t.keys → (table_at (table_bytes t)).keys ≡ t.keys
  unfolding table_at
  same_keys g = ap keys_at (from_keys t) ∙ keys_back t.keys (slots_part t) g

  pub same_slots : length t.slots ≡ 224 → ((i : ℕ) → i < 224 → SlotWhole (slot_no t i)) → (table_at (table_bytes t)).slots ≡ t.slots
  unfolding table_at
  same_slots e g = ap slots_at (from_slots t) ∙ slots_back t.slots [] e g

  pub same_slot_lem : (i : ℕ) → i < 224 → SlotWhole (slot_no t i) → slot_no (table_at (table_bytes t)) i ≡ slot_no t i
  unfolding table_at
  same_slot_lem i p g = ap (λ (l : List ℕ). get_or (slots_at l) i blank_slot) (from_slots t) ∙ one_slot_back t.slots [] i p g

pub table_back : (t : Table) → TableWhole t → table_at (table_bytes t) ≡ t
table_back t g =
    table_same (same_config t g.config) (same_slots t g.slots g.each) (same_lens t g.lens) (same_bars t g.bars) (same_keys t g.keys)

-- ---- what is written stands for something

module _ (t : Table) where
  slot_no_known : (i : ℕ) → i < 224 → ((r : List ℕ) → slot_known (slot_bytes (slot_no t i) ++ r) ≡ true) → known_at (table_bytes t) i ≡ true
  unfolding slots_bytes
  slot_no_known i p g =
      ap slot_known (sym (drop-drop (142 * i) 1810 (table_bytes t)) ∙ ap (drop (142 * i)) (from_slots t))
      ∙ one_back (slot_in t.slots) 142 (λ k. slot_length (slot_no t k)) slot_known true i 224 [] p g

  pub slots_known : ((i : ℕ) → i < 224 → (r : List ℕ) → slot_known (slot_bytes (slot_no t i) ++ r) ≡ true) → image_known (table_bytes t) ≡ true
  unfolding image_known
  slots_known g = all_each (known_at (table_bytes t)) 224 (λ i p. slot_no_known i p (g i p))

pub table_known : (t : Table) → TableWhole t → image_known (table_bytes t) ≡ true
table_known t g = slots_known t (λ i p r. slot_bytes_known (slot_no t i) r (g.each i p))
