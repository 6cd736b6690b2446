-- The arrays that an attempt gathers, as they are filled.
use mathlib.Core.Path.{◌≡◌, refl, ap, sym, ◌∙◌}
use mathlib.Core.Bool.{Bool, true, false}
use mathlib.Core.List.{List, [], ◌∷◌, ◌++◌, append_assoc}
use Prim.Native.Nat.{ℕ, zero, suc, ◌+◌, ◌*◌, ◌/◌, ◌%◌, ◌<◌, ◌≤◌}
use native.Mathlib.Omega.{arith}
use lib.ListN.{length, get_or, set, take, drop, replicate, length-replicate}
use borrow.Author.Tests.{lt-ltb, le-ltb}
use lib.Seq.{sets, sets-eq, ext_get_or}
use borrow.Rule.Slice.PartMut.{put_mid}
use Rattle.std.proofs.lemmas.List.{drop-drop}
use denote.Param.Members.{Mut, Called}
use Rattle.std.specs.Array.{IsFromFnResult}
use Rattle.std.specs.List.{list_all, range_with_len}
use Rattle.std.proofs.lemmas.List.FromFn.{length-range_with_len, get_or-range_with_len}
use Rattle.base.specs.Below.{all_below, list_below}
use Rattle.base.proofs.Chains.{all_same, all_listed, made_at}
use Rattle.base.proofs.Lists.{replicate_at, sets_append}
use Rattle.base.proofs.Loops.{mix, mix_next, length_below, below_at_lem, fill_more, fill_keep, fill_all}
use Rattle.slots.specs.Slot.{blank_slot, executed}
use Rattle.slots.specs.declared.slot.Slot.{Slot}
use Rattle.deps.specs.Sets.{number}
use Rattle.table.specs.Table.{len_of, slot_no, with_slots}
use Rattle.table.specs.declared.table.Table.{Table}
use Rattle.base.specs.Marks.{marked}
use Rattle.attempts.specs.Reads.{dep_of_no, deps_of}
use Rattle.attempts.specs.Attempt.{ran_no, ran_with}

-- what `array::from_fn` makes, where each call gives what v does and leaves the closure as it was
module _ {A F : Type 0} (g : Mut F (ℕ × Unit {0}) A) (v : ℕ → A) (f : F) (d : A) (call : (i : ℕ) (y : A) (q : F) → Called g f (i, tt) y q → (y ≡ v i) × (q ≡ f)) where
  pub made_below : (n : ℕ) (ys : List A) → IsFromFnResult g f ys n → ys ≡ list_below n v
  made_below n ys m = ext_get_or d ys (list_below n v) (m.long ∙ sym (length_below n v))
      (λ i h. let lt : i < n = omega (arith, m.long) in made_at g v f call n ys m i d lt ∙ sym (below_at_lem n v i d lt))

-- a test of each number of a range
pub all_ranged : (test : ℕ → Bool) (n : ℕ) → list_all test (range_with_len 0 n) ≡ all_below n test
all_ranged test n =
    all_listed test (range_with_len 0 n) 0
    ∙ rw (length-range_with_len 0 n) (all_same _ test n (λ i h. let z : 0 + i ≡ i = omega arith in ap test (get_or-range_with_len 0 n i 0 h ∙ z)))

-- one number more of those laid from a place on
pub sets_next : (l : List ℕ) (k n : ℕ) (f : ℕ → ℕ) → set (sets l k (list_below n f)) (k + n) (f n) ≡ sets l k (list_below (suc n) f)
unfolding list_below
sets_next l k n f =
    ap (λ (x : ℕ). set (sets l k (list_below n f)) (k + x) (f n)) (sym (length_below n f)) ∙ sets_append l k (list_below n f) (f n ∷ [])

-- what is copied into a part is laid there
pub part_sets : (l ys vs : List ℕ) (a k : ℕ) → ys ≡ vs → length vs ≡ k → a + k ≤ length l → put_mid a k l ys ≡ sets l a vs
part_sets l ys vs a k e len room = ap (put_mid a k l) e ∙ ap (λ (x : List ℕ). take a l ++ (vs ++ x)) (drop-drop k a l ∙ ap (λ (n : ℕ). drop (a + n) l) (sym len)) ∙ sym (append_assoc (take a l) vs (drop (a + length vs) l)) ∙ sym (sets-eq vs l a (omega arith))

module _ (t : Table) where
  -- the first k numbers
  abbrev pub deps_to : ℕ → List ℕ
  deps_to k = mix (deps_of t) (replicate 1568 0) k

  pub deps_held : (k v : ℕ) → k < 1568 → k / 7 % 32 < len_of t (k / 7 / 32) → v ≡ number (slot_no t (k / 7)).deps (k % 7) → set (deps_to k) k v ≡ deps_to (k + 1)
  unfolding deps_of
  deps_held k v l h e = fill_more 1568 (λ k. dep_of_no t (k / 7) (k % 7)) (replicate 1568 0) (length-replicate {A = ℕ} 1568 0) k v l (e ∙ sym (rw (lt-ltb _ _ h)))

  none : (i : ℕ) → deps_to (7 * i) ≡ deps_to (7 * i + 0)
  none i =
      let e : 7 * i ≡ 7 * i + 0 = omega arith in
      ap deps_to e

  one_more : (i n : ℕ) → deps_to (7 * i + n + 1) ≡ deps_to (7 * i + suc n)
  one_more i n =
      let e : 7 * i + n + 1 ≡ 7 * i + suc n = omega arith in
      ap deps_to e

  -- the numbers of slot i, n of them
  pub slot_held : (i n : ℕ) → i < 224 → n ≤ 7 → i % 32 < len_of t (i / 32) → sets (deps_to (7 * i)) (7 * i) (list_below n (number (slot_no t i).deps)) ≡ deps_to (7 * i + n)
  unfolding list_below
  slot_held i zero l m h = none i
  slot_held i (suc n) l m h =
      let f : ℕ → ℕ = number (slot_no t i).deps in
      let q : (7 * i + n) / 7 ≡ i = omega arith in
      let r : (7 * i + n) % 7 ≡ n = omega arith in
      sym (sets_next (deps_to (7 * i)) (7 * i) n f)
      ∙ ap (λ (y : List ℕ). set y (7 * i + n) (f n)) (slot_held i n l (omega arith) h)
      ∙ deps_held (7 * i + n) (f n) (omega arith) (rw q h) (rw (q, r) refl)
      ∙ one_more i n

  pub deps_absent : (k : ℕ) → k < 1568 → len_of t (k / 7 / 32) ≤ k / 7 % 32 → deps_to k ≡ deps_to (k + 1)
  unfolding deps_of
  deps_absent k l h = fill_keep 1568 (λ k. dep_of_no t (k / 7) (k % 7)) (replicate 1568 0) (length-replicate {A = ℕ} 1568 0) k 0 l (replicate_at 1568 k 0 ∙ sym (rw (le-ltb _ _ h)))

  pub slot_absent : (i n : ℕ) → i < 224 → n ≤ 7 → len_of t (i / 32) ≤ i % 32 → deps_to (7 * i) ≡ deps_to (7 * i + n)
  slot_absent i zero l m h = none i
  slot_absent i (suc n) l m h =
      let q : (7 * i + n) / 7 ≡ i = omega arith in
      slot_absent i n l (omega arith) h ∙ deps_absent (7 * i + n) (omega arith) (rw q h) ∙ one_more i n

  pub deps_all : (k : ℕ) → 1568 ≤ k → deps_to k ≡ deps_of t
  unfolding deps_of
  deps_all k l = fill_all 1568 (λ k. dep_of_no t (k / 7) (k % 7)) (replicate 1568 0) (length-replicate {A = ℕ} 1568 0) k l

  module _ (marks : List Bool) (e : length t.slots ≡ 224) where
    abbrev pub ran_to : ℕ → List Slot
    ran_to i = mix (ran_with t marks).slots t.slots i

    -- the next slot is as it was
    pub ran_next : (i : ℕ) → i < 224 → get_or (ran_to i) i blank_slot ≡ slot_no t i
    unfolding ran_with
    ran_next i l = mix_next (ran_with t marks).slots t.slots (length_below 224 (ran_no t marks) ∙ sym e) i blank_slot (omega arith)

    pub ran_marked : (i : ℕ) (s : Slot) → i < 224 → marked marks i ≡ true → s ≡ executed (slot_no t i) → set (ran_to i) i s ≡ ran_to (i + 1)
    unfolding ran_with
    ran_marked i s l h q = fill_more 224 (ran_no t marks) t.slots e i s l (q ∙ sym (rw h))

    pub ran_kept : (i : ℕ) → i < 224 → marked marks i ≡ false → ran_to i ≡ ran_to (i + 1)
    unfolding ran_with
    ran_kept i l h = fill_keep 224 (ran_no t marks) t.slots e i blank_slot l (sym (rw h))

    pub ran_table : with_slots t (ran_with t marks).slots ≡ ran_with t marks
    unfolding ran_with
    ran_table = refl

    pub ran_all : (i : ℕ) → 224 ≤ i → ran_to i ≡ (ran_with t marks).slots
    unfolding ran_with
    ran_all i l = fill_all 224 (ran_no t marks) t.slots e i l
