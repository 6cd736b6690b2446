-- The table, 33,618 bytes: configuration 4, row lengths 7, commit bars 7, key columns 256 of 7, slots 224 of 142.
use Rattle.std.specs.Prelude.{◌≡◌, List, ◌++◌, Bool, ℕ, ◌+◌, ◌*◌, ◌<◌, ◌≤◌, length, get_or, drop}
use Rattle.base.specs.Below.{all_below}
use Rattle.base.specs.declared.config.Config.{Config}
use Rattle.keys.specs.Columns.{keys_of, columns_of}
use Rattle.keys.specs.declared.columns.Keys.{Keys}
use Rattle.slots.specs.Slot.{blank_slot}
use Rattle.slots.specs.declared.slot.Slot.{Slot}
use Rattle.table.specs.Table.{table_of, slot_no}
use Rattle.bounds.specs.Open.{config_of}
use Rattle.table.specs.declared.table.Table.{Table}
use Rattle.layout.specs.Numbers.{byte_for}
use Rattle.layout.specs.Each.{each_at, each_bytes}
use Rattle.octets.specs.Sets.{rows_at, set_bytes}
use Rattle.slot_bytes.specs.Slot.{slot_at, slot_bytes, slot_known, SlotWhole}

abbrev pub image_width : ℕ
image_width = 33618

-- ---- reading

abbrev pub config_at : List ℕ → Config
config_at l = config_of (get_or l 0 0) (get_or l 1 0) (get_or l 2 0) (get_or l 3 0)

-- the columns of each key
unfoldable pub keys_at : List ℕ → Keys
keys_at l = keys_of (each_at rows_at 7 256 l)

unfoldable pub slots_at : List ℕ → List Slot
slots_at l = each_at slot_at 142 224 l

unfoldable pub table_at : List ℕ → Table
table_at l = table_of (config_at l) (slots_at (drop 1810 l)) (rows_at (drop 4 l)) (rows_at (drop 11 l)) (keys_at (drop 18 l))

-- every slot's bytes stand for something, those past a row's length too
abbrev pub known_at : List ℕ → ℕ → Bool
known_at l i = slot_known (drop (1810 + 142 * i) l)

unfoldable pub image_known : List ℕ → Bool
image_known l = all_below 224 (known_at l)

-- ---- writing

unfoldable pub config_bytes : Config → List ℕ
config_bytes c = byte_for c.n ++ byte_for c.own ++ byte_for c.simple ++ byte_for c.sup

abbrev pub row_in : List ℕ → ℕ → List ℕ
row_in rows i = byte_for (get_or rows i 0)

unfoldable pub rows_bytes : List ℕ → List ℕ
rows_bytes rows = each_bytes (row_in rows) 7

abbrev pub columns_in : Keys → ℕ → List ℕ
columns_in k key = set_bytes (columns_of k key)

unfoldable pub keys_bytes : Keys → List ℕ
keys_bytes k = each_bytes (columns_in k) 256

abbrev pub slot_in : List Slot → ℕ → List ℕ
slot_in slots i = slot_bytes (get_or slots i blank_slot)

unfoldable pub slots_bytes : List Slot → List ℕ
slots_bytes slots = each_bytes (slot_in slots) 224

unfoldable pub table_bytes : Table → List ℕ
table_bytes t = config_bytes t.config ++ rows_bytes t.lens ++ rows_bytes t.bars ++ keys_bytes t.keys ++ slots_bytes t.slots

-- ---- what its bytes hold whole

pub record ConfigWhole (c : Config) : Type 0 where
  pub n : c.n ≤ 255
  pub own : c.own ≤ 255
  pub simple : c.simple ≤ 255
  pub sup : c.sup ≤ 255

pub record RowsWhole (rows : List ℕ) : Type 0 where
  pub seven : length rows ≡ 7
  pub each : (i : ℕ) → i < 7 → get_or rows i 0 ≤ 255

pub record KeysWhole (k : Keys) : Type 0 where
  pub keys : length k.cols ≡ 256
  pub each : (key : ℕ) → key < 256 → length (columns_of k key).cols ≡ 7

pub record TableWhole (t : Table) : Type 0 where
  pub config : ConfigWhole t.config
  pub lens : RowsWhole t.lens
  pub bars : RowsWhole t.bars
  pub keys : KeysWhole t.keys
  pub slots : length t.slots ≡ 224
  pub each : (i : ℕ) → i < 224 → SlotWhole (slot_no t i)
