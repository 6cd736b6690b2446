-- Every table within the bounds reads back in all that it holds: configuration, lengths, bars, keys and every slot in it. And whatever a table holds, its bytes stand for something.
use mathlib.Core.Path.{◌≡◌, ap, ◌∙◌}
use mathlib.Core.List.{List, [], ◌∷◌, ◌++◌}
use mathlib.Core.Bool.{true}
use Prim.Native.Nat.{ℕ, ◌<◌, ◌≤◌, ◌^◌, ◌/◌, ◌%◌, min}
use native.Mathlib.Omega.{arith}
use lib.ListN.{length}
use Rattle.base.specs.Refusals.{sequence_limit}
use Rattle.deps.specs.Batches.{request}
use Rattle.deps.specs.declared.batches.Batch.{Batch}
use Rattle.deps.proofs.BatchLaws.{batch_fits_each}
use Rattle.slots.specs.declared.slot.Slot.{Slot}
use Rattle.slots.specs.Slot.{stored_with, slot_fits}
use Rattle.slots.proofs.SlotLaws.{slot_fits_each}
use Rattle.table.specs.Table.{len_of, slot_no}
use Rattle.bounds.specs.Bounds.{table_fits}
use Rattle.table.specs.declared.table.Table.{Table}
use Rattle.bounds.proofs.BoundLaws.{table_fits_each, len_at_most}
use Rattle.layout.specs.Numbers.{word_bytes}
use Rattle.layout.specs.Each.{each_bytes}
use Rattle.layout.specs.Batches.{request_in, batch_bytes, RequestFits}
use Rattle.octets.specs.Sets.{set_bytes}
use Rattle.slot_bytes.specs.Contents.{contents_bytes}
use Rattle.slot_bytes.specs.Slot.{slot_known, marks_bytes, head_bytes, slot_bytes, SlotWhole}
use Rattle.image.specs.Tables.{table_at, image_known, table_bytes, ConfigWhole, RowsWhole, KeysWhole}
use Rattle.slot_bytes.proofs.SlotLaws.{slot_bytes_known}
use Rattle.image.proofs.TableLaws.{same_config, same_lens, same_bars, same_keys, same_slot_lem, slots_known}

-- ---- what every value of the types has

pub record SlotTyped (s : Slot) : Type 0 where
  pub ballot : s.ballot < 256 ^ 8
  pub seq : s.seq ≤ sequence_limit
  pub deps : length s.deps.cols ≡ 7
  pub marks : length s.marks ≡ 7
  pub four : length s.batch.reqs ≡ 4
  pub each : (i : ℕ) → i < 4 → RequestFits (request s.batch i)

pub record Typed (t : Table) : Type 0 where
  pub lens : length t.lens ≡ 7
  pub bars : length t.bars ≡ 7
  pub keys : KeysWhole t.keys
  pub slots : length t.slots ≡ 224
  pub each : (i : ℕ) → i < 224 → SlotTyped (slot_no t i)

-- ---- a slot's bytes: no byte holds a batch's count over 255, and all else they hold

abbrev clipped_batch : Batch → Batch
clipped_batch b = record { count = min b.count 255; reqs = b.reqs }

abbrev clipped : Slot → Slot
clipped s = stored_with s s.ballot s.status s.seq s.deps (clipped_batch s.batch)

batch_clips : (b : Batch) → batch_bytes b ≡ batch_bytes (clipped_batch b)
unfolding batch_bytes
batch_clips b =
    let e : min b.count 255 ≡ min (min b.count 255) 255 = omega arith in
    ap (λ (n : ℕ). (n ∷ []) ++ each_bytes (request_in b) 4) e

slot_clips : (s : Slot) → slot_bytes s ≡ slot_bytes (clipped s)
unfolding slot_bytes contents_bytes
slot_clips s =
    ap (λ (l : List ℕ). head_bytes s.status s.source s.led ++ marks_bytes s.marks ++ word_bytes s.ballot ++ (word_bytes s.seq ++ set_bytes s.deps ++ l))
    (batch_clips s.batch)

clipped_whole : (s : Slot) → SlotTyped s → SlotWhole (clipped s)
clipped_whole s y =
    record {
      ballot = y.ballot;
      seq = y.seq;
      deps = y.deps;
      batch = record { count = omega arith; four = y.four; each = y.each };
      marks = y.marks;
    }

-- what is written stands for something, whatever the table holds
pub typed_known : (t : Table) → Typed t → image_known (table_bytes t) ≡ true
typed_known t y =
    slots_known t
    (λ i p r. ap (λ (l : List ℕ). slot_known (l ++ r)) (slot_clips (slot_no t i)) ∙ slot_bytes_known (clipped (slot_no t i)) r (clipped_whole (slot_no t i) (y.each i p)))

-- ---- within the bounds all that the table holds is whole

slot_whole : (n : ℕ) (s : Slot) → SlotTyped s → slot_fits n s ≡ true → SlotWhole s
slot_whole n s y h =
    let f = batch_fits_each s.batch y.four (slot_fits_each n s h).batch_fits in
    record {
      ballot = y.ballot;
      seq = y.seq;
      deps = y.deps;
      batch = record { count = omega (arith, f.0); four = y.four; each = y.each };
      marks = y.marks;
    }

-- one table holds what the other does
pub record Alike (u t : Table) : Type 0 where
  pub config : u.config ≡ t.config
  pub lens : u.lens ≡ t.lens
  pub bars : u.bars ≡ t.bars
  pub keys : u.keys ≡ t.keys
  pub each : (i : ℕ) → i < 224 → i % 32 < len_of t (i / 32) → slot_no u i ≡ slot_no t i

module _ (t : Table) (h : table_fits t ≡ true) where
  config_whole : ConfigWhole t.config
  config_whole =
      let w = (table_fits_each t h).config_fits in
      record {
        n = omega (arith, w.seven);
        own = omega (arith, w.mine, w.seven);
        simple = omega (arith, w.rising, w.all, w.seven);
        sup = omega (arith, w.all, w.seven);
      }

  lens_whole : length t.lens ≡ 7 → RowsWhole t.lens
  lens_whole e = record { seven = e; each = λ i p. omega (arith, len_at_most t h i p) }

  bars_whole : length t.bars ≡ 7 → RowsWhole t.bars
  bars_whole e = record { seven = e; each = λ i p. omega (arith, (table_fits_each t h).bars_fit i p, len_at_most t h i p) }

  pub held_back : Typed t → Alike (table_at (table_bytes t)) t
  held_back y =
      record {
        config = same_config t config_whole;
        lens = same_lens t (lens_whole y.lens);
        bars = same_bars t (bars_whole y.bars);
        keys = same_keys t y.keys;
        each = λ i p held. same_slot_lem t i p (slot_whole t.config.n (slot_no t i) (y.each i p) ((table_fits_each t h).slots_fit i p held));
      }
