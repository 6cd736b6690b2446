-- The table: slots, row lengths, commit bars, key columns.
use Rattle.std.specs.Prelude.{List, Bool, cond, ◌&&◌, ltb, leb, replicate, get_or, set, ℕ, suc, ◌+◌, ◌*◌}
use Rattle.base.specs.Below.{list_below}
use Rattle.base.specs.declared.config.Config.{Config}
use Rattle.keys.specs.Columns.{empty_keys, refreshed_by}
use Rattle.keys.specs.declared.columns.Keys.{Keys}
use Rattle.table.specs.Place.{index_of}
use Rattle.slots.specs.Slot.{null_slot, blank_slot}
use Rattle.table.specs.declared.place.Place.{Place}
use Rattle.slots.specs.declared.slot.Slot.{Slot}
use Rattle.table.specs.declared.table.Table.{Table}

abbrev pub table_of : Config → List Slot → List ℕ → List ℕ → Keys → Table
table_of config slots lens bars keys = record { config = config; slots = slots; lens = lens; bars = bars; keys = keys }

-- no slot in any row, every bar at 0, no key entered
unfoldable pub empty_table : Config → Table
empty_table config = table_of config (replicate 224 null_slot) (replicate 7 0) (replicate 7 0) empty_keys

-- how many slots a row has, and its commit bar
abbrev pub len_of : Table → ℕ → ℕ
len_of t row = get_or t.lens row 0

abbrev pub bar_of : Table → ℕ → ℕ
bar_of t row = get_or t.bars row 0

-- the slot is in the table; a row has 32 columns
unfoldable pub holds : Table → Place → Bool
holds t at = ltb at.col 32 && ltb at.col (len_of t at.row)

abbrev pub slot_no : Table → ℕ → Slot
slot_no t i = get_or t.slots i blank_slot

abbrev pub slot_of : Table → Place → Slot
slot_of t at = slot_no t (index_of at)

abbrev pub with_slots : Table → List Slot → Table
with_slots t slots = table_of t.config slots t.lens t.bars t.keys

abbrev pub with_lens : Table → List ℕ → Table
with_lens t lens = table_of t.config t.slots lens t.bars t.keys

abbrev pub with_keys : Table → Keys → Table
with_keys t keys = table_of t.config t.slots t.lens t.bars keys

abbrev pub put_at : Table → Place → Slot → Table
put_at t at s = with_slots t (set t.slots (index_of at) s)

-- null slots from one index up to another
abbrev pub null_in : Table → ℕ → ℕ → ℕ → Slot
null_in t from to i = cond (leb from i && ltb i to) null_slot (slot_no t i)

unfoldable pub nulls_in : Table → ℕ → ℕ → List Slot
nulls_in t from to = list_below 224 (null_in t from to)

-- null slots up to the column, where the row does not reach it
unfoldable pub nulls_to : Table → Place → Table
nulls_to t at =
    cond (ltb at.col (len_of t at.row)) t
    (with_lens (with_slots t (nulls_in t (32 * at.row + len_of t at.row) (32 * at.row + suc at.col))) (set t.lens at.row (suc at.col)))

-- a slot stored, and the keys refreshed with its batch
unfoldable pub stored_at : Table → Place → Slot → Table
stored_at t at s = with_keys (put_at t at s) (refreshed_by t.keys at.row at.col s.batch)
