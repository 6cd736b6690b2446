-- `in_place::change::apply_at` meets its contract: the table's bytes, then null slots, the slot and the keys in them, as far as the change reaches.
use mathlib.Core.Path.{◌≡◌, ap, sym, ◌∙◌}
use mathlib.Core.List.{List}
use Prim.Native.Nat.{ℕ, ◌+◌, ◌*◌}
use lib.Dec.{leb}
use lib.ListN.{get_or, drop}
use mathlib.Core.Bool.{true}
use Rattle.base.proofs.Tests.{passed, failed}
use Rattle.keys.specs.Columns.{refreshed_by}
use Rattle.keys.specs.declared.columns.Keys.{Keys}
use Rattle.slots.specs.declared.slot.Slot.{Slot}
use Rattle.table.specs.Place.{index_of}
use Rattle.table.specs.declared.place.Place.{Place}
use Rattle.table.specs.Table.{with_keys, put_at, nulls_to, stored_at}
use Rattle.table.proofs.SlotReads.{index_below, nulls_keys, nulls_length}
use Rattle.changes.specs.Change.{reach_of, Inside}
use Rattle.changes.specs.declared.change.Extent.{Extent}
use Rattle.layout.specs.Numbers.{lay}
use Rattle.octets.specs.Sets.{rows_at}
use Rattle.slot_bytes.specs.Slot.{slot_bytes}
use Rattle.image.specs.Tables.{table_at, keys_bytes, table_bytes}
use Rattle.image.proofs.PutLaws.{slot_put, keys_put}
use Rattle.in_place.specs.Filled.{Filled}
use Rattle.in_place.proofs.ViewLaws.{lens_are, keys_are, seven_rows, all_slots}
use Rattle.in_place.proofs.ChangeLaws.{nulls_changed, slot_changed, keys_changed, reaches_inside}
use Rattle.in_place.proofs.change.apply_at.Goals as goal

-- the bytes with the null slots
filled : (l : List ℕ) (at : Place) {rows before after : List ℕ} → rows ≡ rows_at (drop 4 l) → before ≡ table_bytes (table_at l) → Filled at (get_or rows at.row 0) before after
    → after ≡ table_bytes (nulls_to (table_at l) at)
filled l at r e f = f (table_at l) (seven_rows l) (all_slots l) (ap (λ (x : List ℕ). get_or x at.row 0) (lens_are l ∙ sym r)) e

-- and with the slot
put : (l : List ℕ) (at : Place) (s : Slot) (x : Extent) {n after : List ℕ} → n ≡ table_bytes (nulls_to (table_at l) at) → leb 1 (reach_of x) ≡ true → Inside x at
    → after ≡ lay n (1810 + 142 * index_of at) (slot_bytes s) → after ≡ table_bytes (put_at (nulls_to (table_at l) at) at s)
put l at s x f r i e =
    let p = reaches_inside x at r i in
    e
    ∙ ap (λ (b : List ℕ). lay b (1810 + 142 * index_of at) (slot_bytes s)) f
    ∙ slot_put (nulls_to (table_at l) at) (index_of at) s (index_below at p.0 p.1) (nulls_length (table_at l) at (all_slots l))

pub returns-then-not-has_slot : goal.returns-then-not-has_slot
returns-then-not-has_slot c =
    let a = c.args in
    let nulls = passed c.has_nulls.ensures c.if-not-has_nulls.false in
    filled a.image.now a.at c.rows_at-lens.ensures c.clear.ensures c.fill_at.ensures
    ∙ ap table_bytes (sym (nulls_changed (table_at a.image.now) a.at a.slot a.extent nulls (failed c.has_slot.ensures c.if-not-has_slot.true)))

pub returns-then-not-has_keys : goal.returns-then-not-has_keys
returns-then-not-has_keys c =
    let a = c.args in
    let nulls = passed c.has_nulls.ensures c.if-not-has_nulls.false in
    put a.image.now a.at a.slot a.extent (filled a.image.now a.at c.rows_at-lens.ensures c.clear.ensures c.fill_at.ensures) nulls c.requires.inside (rw (c.slot_start-start.ensures, c.index.ensures) at c.put_slot.ensures)
    ∙ ap table_bytes (sym (slot_changed (table_at a.image.now) a.at a.slot a.extent (passed c.has_slot.ensures c.if-not-has_slot.false) (failed c.has_keys.ensures c.if-not-has_keys.true)))

pub returns : goal.returns
unfolding stored_at
returns c =
    let a = c.args in
    let l = a.image.now in
    let t = nulls_to (table_at l) a.at in
    let nulls = passed c.has_nulls.ensures c.if-not-has_nulls.false in
    let keys : c.keys_at-keys.result ≡ t.keys = c.keys_at-keys.ensures ∙ sym (nulls_keys (table_at l) a.at ∙ keys_are l) in
    let new = c.refresh-refreshed.ensures ∙ ap (λ (k : Keys). refreshed_by k a.at.row a.at.col a.slot.batch) keys in
    c.put_keys.ensures
    ∙ ap (λ (x : List ℕ). lay x 18 (keys_bytes c.refresh-refreshed.result))
    (put l a.at a.slot a.extent (filled l a.at c.rows_at-lens.ensures c.clear.ensures c.fill_at.ensures) nulls c.requires.inside (rw (c.slot_start-start.ensures, c.index.ensures) at c.put_slot.ensures))
    ∙ keys_put (put_at t a.at a.slot) c.refresh-refreshed.result
    ∙ ap (λ (k : Keys). table_bytes (with_keys (put_at t a.at a.slot) k)) new
    ∙ ap table_bytes (sym (keys_changed (table_at l) a.at a.slot a.extent (passed c.has_keys.ensures c.if-not-has_keys.false)))
