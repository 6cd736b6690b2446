-- A slot, 142 bytes: status 1, source 1, led 1, accept marks 7, ballot 8, contents 124.
use Rattle.std.specs.Prelude.{◌≡◌, List, [], ◌∷◌, ◌++◌, Bool, false, cond, ◌&&◌, ℕ, ◌<◌, ◌≤◌, ◌^◌, min, ltb, leb, length, get_or, drop}
use Rattle.base.specs.Refusals.{sequence_limit}
use Rattle.base.specs.Status.{rank_of}
use Rattle.base.specs.declared.status.Status.{Status}
use Rattle.slots.specs.declared.slot.Slot.{Slot}
use Rattle.layout.specs.Numbers.{word_of, word_bytes}
use Rattle.layout.specs.Each.{each_bytes}
use Rattle.layout.specs.Batches.{batch_at, BatchFits}
use Rattle.octets.specs.Sets.{set_at}
use Rattle.octets.specs.Marks.{mark_of, status_of, marks_at}
use Rattle.octets.specs.Known.{each_below}
use Rattle.slot_bytes.specs.Contents.{contents_bytes, kinds_known}

-- ---- reading

-- a sequence over the limit is read as the limit: who must refuse it tests it first
abbrev pub narrowed : ℕ → ℕ
narrowed seq = min seq sequence_limit

unfoldable pub slot_at : List ℕ → Slot
slot_at l =
    record {
      ballot = word_of (drop 10 l);
      batch = batch_at (drop 33 l);
      seq = narrowed (word_of (drop 18 l));
      status = status_of (get_or l 0 0);
      deps = set_at (drop 26 l);
      source = get_or l 1 0;
      led = mark_of (get_or l 2 0);
      marks = marks_at (drop 3 l);
    }

-- its status is 0 to 4, led and each mark 0 or 1, its sequence not over the limit, its kinds known
unfoldable pub slot_known : List ℕ → Bool
slot_known l =
    ltb (get_or l 0 0) 5 && (each_below 8 1 2 (drop 2 l) && (leb (word_of (drop 18 l)) sequence_limit && kinds_known (drop 18 l)))

-- ---- writing

abbrev pub mark_byte : Bool → ℕ
mark_byte mark = cond mark 1 0

abbrev pub mark_in : List Bool → ℕ → List ℕ
mark_in marks i = mark_byte (get_or marks i false) ∷ []

unfoldable pub marks_bytes : List Bool → List ℕ
marks_bytes marks = each_bytes (mark_in marks) 7

unfoldable pub head_bytes : Status → ℕ → Bool → List ℕ
head_bytes status source led = (rank_of status ∷ []) ++ (source ∷ []) ++ (mark_byte led ∷ [])

unfoldable pub slot_bytes : Slot → List ℕ
slot_bytes s =
    head_bytes s.status s.source s.led ++ marks_bytes s.marks ++ word_bytes s.ballot ++ contents_bytes s.seq s.deps s.batch

-- what its bytes hold whole
pub record SlotWhole (s : Slot) : Type 0 where
  pub ballot : s.ballot < 256 ^ 8
  pub seq : s.seq ≤ sequence_limit
  pub deps : length s.deps.cols ≡ 7
  pub batch : BatchFits s.batch
  pub marks : length s.marks ≡ 7
