-- A table that is read from bytes is whole: written again it loses nothing.
use mathlib.Core.List.{List}
use Prim.Native.Nat.{ℕ, ◌*◌}
use native.Mathlib.Omega.{arith}
use lib.ListN.{drop, replicate}
use Rattle.slots.specs.Slot.{blank_slot}
use Rattle.layout.specs.Numbers.{byte_of, Bytes}
use Rattle.octets.specs.Sets.{rows_at}
use Rattle.layout.proofs.EachLaws.{each_length, each_is}
use Rattle.octets.proofs.SetLaws.{rows_length}
use Rattle.slot_bytes.specs.Slot.{slot_at}
use Rattle.slot_bytes.proofs.ReadLaws.{bytes_past, slot_read}
use Rattle.image.specs.Tables.{keys_at, slots_at, table_at, RowsWhole, KeysWhole, TableWhole}

rows_read : (l : List ℕ) → Bytes l → RowsWhole (rows_at l)
unfolding rows_at
rows_read l h =
    record {
      seven = rows_length l;
      each = λ i p. rw (each_is byte_of 1 7 i l 0 p) (omega (arith, bytes_past (1 * i) l h 0));
    }

keys_read : (l : List ℕ) → KeysWhole (keys_at l)
unfolding keys_at
keys_read l =
    record {
      keys = each_length rows_at 7 256 l;
      each = λ key p. rw (each_is rows_at 7 256 key l (replicate 7 0) p) (rows_length (drop (7 * key) l));
    }

pub table_read : (l : List ℕ) → Bytes l → TableWhole (table_at l)
unfolding table_at slots_at
table_read l h =
    let slots = drop 1810 l in
    record {
      config = record { n = omega (arith, h 0); own = omega (arith, h 1); simple = omega (arith, h 2); sup = omega (arith, h 3) };
      lens = rows_read (drop 4 l) (bytes_past 4 l h);
      bars = rows_read (drop 11 l) (bytes_past 11 l h);
      keys = keys_read (drop 18 l);
      slots = each_length slot_at 142 224 slots;
      each = λ i p. rw (each_is slot_at 142 224 i slots blank_slot p) (slot_read (drop (142 * i) slots) (bytes_past (142 * i) slots (bytes_past 1810 l h)));
    }
