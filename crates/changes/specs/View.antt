-- What a handler looks at in a table.
use Rattle.std.specs.Prelude.{cond, ℕ}
use Rattle.deps.specs.declared.sets.DepSet.{DepSet}
use Rattle.deps.specs.declared.batches.Batch.{Batch}
use Rattle.keys.specs.Columns.{identify_of}
use Rattle.slots.specs.Slot.{null_slot}
use Rattle.slots.specs.declared.slot.Slot.{Slot}
use Rattle.table.specs.Table.{holds, slot_of}
use Rattle.table.specs.declared.place.Place.{Place}
use Rattle.table.specs.declared.table.Table.{Table}
use Rattle.bounds.specs.Bounds.{table_fits}
use Rattle.bounds.specs.Highest.{highest_of}
use Rattle.changes.specs.declared.view.View.{View}

-- a null slot where the table has none
unfoldable pub slot_seen : Table → Place → Slot
slot_seen t at = cond (holds t at) (slot_of t at) null_slot

-- what the batch waits for, and its highest sequence, beside the place's slot and the table's bounds
abbrev pub view_with : Table → Place → DepSet → ℕ → View
view_with t at mine highest =
    record {
      slot = slot_seen t at;
      config = t.config;
      mine = mine;
      highest = highest;
      within = table_fits t;
      held = holds t at;
    }

-- of a message to the place, with the batch
unfoldable pub view_of : Table → Place → Batch → View
view_of t at b = view_with t at (identify_of t.keys b) (highest_of t (identify_of t.keys b))
