-- Slots and contents in bytes: how long they are, what is read of them where, that they read back, and that each byte written stands for something.
use mathlib.Core.Path.{◌≡◌, refl}
use mathlib.Core.List.{List, ◌++◌}
use mathlib.Core.Bool.{Bool, true, false, ◌&&◌}
use Prim.Native.Nat.{ℕ, ◌+◌, ◌≤◌}
use native.Mathlib.Omega.{arith}
use lib.Dec.{ltb, leb}
use lib.ListN.{length, get_or, drop, length-append}
use lib.Seq.{drop-drop, get_or-drop}
use borrow.Author.Tests.{lt-ltb, le-leb}
use Rattle.base.specs.Refusals.{sequence_limit}
use Rattle.base.specs.Status.{rank_of}
use Rattle.base.specs.Below.{all_below}
use Rattle.base.specs.declared.status.Status.{Status}
use Rattle.deps.specs.declared.sets.DepSet.{DepSet}
use Rattle.deps.specs.declared.batches.Kind.{Kind}
use Rattle.deps.specs.declared.batches.Batch.{Batch}
use Rattle.slots.specs.declared.slot.Slot.{Slot}
use Rattle.layout.specs.Numbers.{word_of, word_bytes, number_bytes}
use Rattle.layout.specs.Each.{each_bytes}
use Rattle.layout.specs.Batches.{kind_byte, request_bytes, batch_at, batch_bytes}
use Rattle.octets.specs.Sets.{set_at, set_bytes}
use Rattle.octets.specs.Marks.{mark_of, status_of, mark_at, marks_at}
use Rattle.octets.specs.Known.{each_below}
use Rattle.layout.proofs.NumberLaws.{number_length, word_back}
use Rattle.layout.proofs.EachLaws.{bytes_length, each_back}
use Rattle.layout.proofs.BatchLaws.{kind_below, batch_length, batch_back}
use Rattle.octets.proofs.SetLaws.{set_length, set_back}
use Rattle.octets.proofs.MarkLaws.{status_back, rank_below}
use Rattle.slot_bytes.specs.Contents.{contents_bytes, kinds_known}
use Rattle.slot_bytes.specs.Slot.{narrowed, slot_at, slot_known, mark_byte, mark_in, marks_bytes, head_bytes, slot_bytes, SlotWhole}

-- ---- lengths

pub contents_length : (seq : ℕ) (d : DepSet) (b : Batch) → length (contents_bytes seq d b) ≡ 124
unfolding contents_bytes
contents_length seq d b = simp (length-append, number_length, set_length, batch_length)

pub marks_bytes_length : (m : List Bool) → length (marks_bytes m) ≡ 7
unfolding marks_bytes
marks_bytes_length m = bytes_length (mark_in m) 1 (λ i. refl) 7

pub head_length : (status : Status) (source : ℕ) (led : Bool) → length (head_bytes status source led) ≡ 3
unfolding head_bytes
head_length status source led = refl

pub slot_length : (s : Slot) → length (slot_bytes s) ≡ 142
unfolding slot_bytes
slot_length s = simp (length-append, head_length, marks_bytes_length, number_length, contents_length)

-- ---- a slot in a longer list, from a place on

pub slot_is : {status : Status} {led : Bool} {marks : List Bool} {ballot word seq : ℕ} {d : DepSet} {b : Batch} (l : List ℕ) (at : ℕ) → status ≡ status_of (get_or l at 0)
    → led ≡ mark_of (get_or l (at + 2) 0) → marks ≡ marks_at (drop (at + 3) l) → ballot ≡ word_of (drop (at + 10) l) → word ≡ word_of (drop (at + 18) l) → seq ≡ narrowed word
    → d ≡ set_at (drop (at + 26) l) → b ≡ batch_at (drop (at + 33) l)
    → ◌≡◌ {A = Slot} (record { ballot = ballot; batch = b; seq = seq; status = status; deps = d; source = get_or l (at + 1) 0; led = led; marks = marks }) (slot_at (drop at l))
unfolding slot_at
slot_is l at e₁ e₂ e₃ e₄ e₅ e₆ e₇ e₈ =
    let z : at + 0 ≡ at = omega arith in
    simp (e₁, e₂, e₃, e₄, e₆, e₅, e₇, e₈, drop-drop, get_or-drop, z)

pub known_is : (l : List ℕ) (at : ℕ)
    → slot_known (drop at l) ≡ (ltb (get_or l at 0) 5 && (each_below 8 1 2 (drop (at + 2) l) && (leb (word_of (drop (at + 18) l)) sequence_limit && kinds_known (drop (at + 18) l))))
unfolding slot_known
known_is l at =
    let z : at + 0 ≡ at = omega arith in
    simp (drop-drop, get_or-drop, z)

-- ---- what is written reads back

mark_back : (mark : Bool) → mark_of (mark_byte mark) ≡ mark
mark_back true = refl
mark_back false = refl

marks_back : (m : List Bool) (r : List ℕ) → length m ≡ 7 → marks_at (marks_bytes m ++ r) ≡ m
unfolding marks_at marks_bytes
marks_back m r g = each_back (mark_in m) 1 (λ i. refl) mark_at 7 m false r g (λ i t p. mark_back (get_or m i false))

-- a sequence within the limit
seq_back : (seq : ℕ) (r : List ℕ) → seq ≤ sequence_limit → word_of (word_bytes seq ++ r) ≡ seq
seq_back seq r h = word_back seq r (omega arith)

pub slot_back : (s : Slot) (r : List ℕ) → SlotWhole s → slot_at (slot_bytes s ++ r) ≡ s
unfolding slot_at slot_bytes head_bytes marks_bytes contents_bytes set_bytes each_bytes number_bytes
slot_back s r g =
    let l = slot_bytes s ++ r in
    let n : narrowed s.seq ≡ s.seq = omega (arith, g.seq) in
    let e₁ = marks_back s.marks (drop 10 l) g.marks in
    let e₂ = word_back s.ballot (drop 18 l) g.ballot in
    let e₃ = seq_back s.seq (drop 26 l) g.seq in
    let e₄ = set_back s.deps (drop 33 l) g.deps in
    let e₅ = batch_back s.batch r g.batch in
    rw (status_back s.status, mark_back s.led, e₁, e₂, e₃, n, e₄, e₅)

-- ---- what is written stands for something

mark_known : (mark : Bool) → ltb (mark_byte mark) 2 ≡ true
mark_known true = refl
mark_known false = refl

kind_known : (k : Kind) → ltb (kind_byte k) 3 ≡ true
kind_known k = lt-ltb (kind_byte k) 3 (kind_below k)

pub kinds_bytes_known : (seq : ℕ) (d : DepSet) (b : Batch) (r : List ℕ) → kinds_known (contents_bytes seq d b ++ r) ≡ true
unfolding kinds_known each_below all_below contents_bytes set_bytes batch_bytes request_bytes each_bytes number_bytes
kinds_bytes_known seq d b r = simp kind_known

pub slot_bytes_known : (s : Slot) (r : List ℕ) → SlotWhole s → slot_known (slot_bytes s ++ r) ≡ true
unfolding slot_known each_below all_below slot_bytes head_bytes marks_bytes contents_bytes each_bytes number_bytes
slot_bytes_known s r g =
    let e₁ = lt-ltb (rank_of s.status) 5 (rank_below s.status) in
    let e₂ = seq_back s.seq (drop 26 (slot_bytes s ++ r)) g.seq in
    let e₃ = le-leb s.seq sequence_limit g.seq in
    let e₄ = kinds_bytes_known s.seq s.deps s.batch r in
    simp (e₁, mark_known, e₂, e₃, e₄)
