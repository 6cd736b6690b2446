-- What is read from bytes is whole: written again it loses nothing.
use mathlib.Core.List.{List, [], ◌∷◌}
use mathlib.Core.Bool.{Bool, true, false, cond}
use Prim.Native.Nat.{ℕ, zero, suc, ◌+◌, ◌*◌, ◌<◌, ◌^◌}
use native.Mathlib.Nat.{pow-succ'}
use native.Mathlib.Omega.{arith}
use lib.Dec.{eqb}
use lib.ListN.{get_or, drop}
use lib.Seq.{get_or-drop}
use Rattle.deps.specs.Batches.{no_request}
use Rattle.deps.specs.declared.batches.Kind.TheVariants.{Other, Put, Get}
use Rattle.layout.specs.Numbers.{number_of, Bytes}
use Rattle.layout.specs.Batches.{kind_of, key_of, value_of, request_at, batch_at, RequestFits, BatchFits}
use Rattle.layout.proofs.EachLaws.{each_is}
use Rattle.layout.proofs.BatchLaws.{reqs_length}
use Rattle.octets.proofs.SetLaws.{rows_length}
use Rattle.octets.proofs.MarkLaws.{marks_length}
use Rattle.slot_bytes.specs.Slot.{slot_at, SlotWhole}

pub bytes_past : (k : ℕ) (l : List ℕ) → Bytes l → Bytes (drop k l)
bytes_past k l h i = rw get_or-drop (h (k + i))

-- ---- numbers

pub number_below : (k : ℕ) (l : List ℕ) → Bytes l → number_of k l < 256 ^ k
unfolding number_of
number_below zero l h = omega arith
number_below (suc k) [] h = let e = number_below k [] h in rw pow-succ' (omega arith)
number_below (suc k) (b ∷ l) h =
    let e = number_below k l (λ i. h (suc i)) in
    let f : b < 256 = h 0 in
    rw pow-succ' (omega arith)

-- ---- requests and batches

kind_key : (b key value : ℕ) → key < 256 ^ 2 → key_of (kind_of b key value) < 256 ^ 2
kind_key b key value h = go (eqb b 1) (eqb b 2)
  where
    go : (p g : Bool) → key_of (cond p (Put key value) (cond g (Get key) Other)) < 256 ^ 2
    go true g = h
    go false true = h
    go false false = omega arith

kind_value : (b key value : ℕ) → value < 256 ^ 8 → value_of (kind_of b key value) < 256 ^ 8
kind_value b key value h = go (eqb b 1) (eqb b 2)
  where
    go : (p g : Bool) → value_of (cond p (Put key value) (cond g (Get key) Other)) < 256 ^ 8
    go true g = h
    go false true = omega arith
    go false false = omega arith

request_read : (l : List ℕ) → Bytes l → RequestFits (request_at l)
unfolding request_at
request_read l h =
    record {
      client = number_below 8 l h;
      id = number_below 8 (drop 8 l) (bytes_past 8 l h);
      key = kind_key (get_or l 16 0) _ _ (number_below 2 (drop 17 l) (bytes_past 17 l h));
      value = kind_value (get_or l 16 0) _ _ (number_below 8 (drop 19 l) (bytes_past 19 l h));
    }

pub batch_read : (l : List ℕ) → Bytes l → BatchFits (batch_at l)
unfolding batch_at
batch_read l h =
    record {
      count = omega (arith, h 0);
      four = reqs_length l;
      each = λ i p. rw (each_is request_at 27 4 i (drop 1 l) no_request p) (request_read (drop (27 * i) (drop 1 l)) (bytes_past (27 * i) (drop 1 l) (bytes_past 1 l h)));
    }

-- ---- slots

pub slot_read : (l : List ℕ) → Bytes l → SlotWhole (slot_at l)
unfolding slot_at
slot_read l h =
    record {
      ballot = number_below 8 (drop 10 l) (bytes_past 10 l h);
      seq = omega arith;
      deps = rows_length (drop 26 l);
      batch = batch_read (drop 33 l) (bytes_past 33 l h);
      marks = marks_length (drop 3 l);
    }
