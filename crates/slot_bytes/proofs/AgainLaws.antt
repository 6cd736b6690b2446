-- A slot that is known and plain, read and written again in its place, leaves the bytes as they were.
use mathlib.Core.Path.{◌≡◌, refl, ap, sym, ◌∙◌}
use mathlib.Core.List.{List, [], ◌∷◌}
use mathlib.Core.Bool.{true, false}
use Prim.Native.Nat.{ℕ, zero, suc, ◌+◌, ◌*◌, ◌-◌, ◌<◌, ◌≤◌, min}
use native.Mathlib.Omega.{arith}
use borrow.Author.Tests.{ltb-true, leb-true}
use lib.ListN.{get_or, drop}
use lib.Seq.{drop-drop, get_or-drop}
use lib.Dec.{ltb, leb}
use Rattle.base.specs.Below.{all_below}
use Rattle.base.specs.Refusals.{sequence_limit}
use Rattle.base.proofs.Loops.{both_true, all_at}
use Rattle.layout.specs.Numbers.{byte_of, word_of, word_bytes, lay, Bytes}
use Rattle.layout.specs.Batches.{batch_at, batch_bytes, batch_plain}
use Rattle.layout.proofs.Laying.{Laid, next}
use Rattle.layout.proofs.NumberLaws.{word_length}
use Rattle.layout.proofs.BatchLaws.{batch_length}
use Rattle.layout.proofs.AgainLaws.{byte_again, byte_past, first_past, each_again, number_past, batch_again}
use Rattle.octets.specs.Sets.{set_at, set_bytes}
use Rattle.octets.specs.Marks.{mark_of, status_of, marks_at}
use Rattle.octets.specs.Known.{below_at, each_below}
use Rattle.octets.proofs.SetLaws.{set_length}
use Rattle.octets.proofs.MarkLaws.{mark_in_lem, rank_back}
use Rattle.octets.proofs.AgainLaws.{set_again}
use Rattle.slot_bytes.specs.Contents.{contents_bytes, kinds_known}
use Rattle.slot_bytes.specs.Slot.{slot_at, slot_known, mark_byte, mark_in, marks_bytes, head_bytes, slot_bytes}
use Rattle.slot_bytes.proofs.SlotLaws.{marks_bytes_length, head_length, contents_length}

mark_back : (b : ℕ) → b < 2 → mark_byte (mark_of b) ≡ b
mark_back zero l = refl
mark_back (suc zero) l = refl
mark_back (suc (suc b)) l = absurd (omega arith)

module _ (l : List ℕ) (h : Bytes l) (p : ℕ) where
  abbrev r : List ℕ
  r = drop p l

  head_again : get_or r 0 0 < 5 → get_or r 2 0 < 2 → l ≡ lay l p (head_bytes (status_of (get_or r 0 0)) (get_or r 1 0) (mark_of (get_or r 2 0)))
  unfolding head_bytes
  head_again s m =
      let l₁ : Laid l l p (get_or r 0 0 ∷ []) 1 = record { is = byte_again l p (get_or r 0 0) (get_or-drop p l 0 0 ∙ ap (λ (k : ℕ). get_or l k 0) (omega arith)); long = refl } in
      let l₂ = next l (get_or r 1 0 ∷ []) 1 l₁ (byte_past l p 1 (get_or r 1 0) refl) refl in
      let l₃ = next l (get_or r 2 0 ∷ []) 1 l₂ (byte_past l p 2 (get_or r 2 0) refl) refl in
      rw (rank_back (get_or r 0 0) s, mark_back (get_or r 2 0) m) l₃.is

  marks_again : ((i : ℕ) → i < 7 → get_or r (3 + i) 0 < 2) → l ≡ lay l (p + 3) (marks_bytes (marks_at (drop 3 r)))
  unfolding marks_bytes
  marks_again m = each_again (mark_in (marks_at (drop 3 r))) 1 (λ i. refl) l (p + 3) 7 again
    where
      again : (i : ℕ) → i < 7 → l ≡ lay l (p + 3 + 1 * i) (mark_in (marks_at (drop 3 r)) i)
      again i q =
          let e : 3 + i ≡ 3 + 1 * i = omega arith in
          let b : byte_of (drop (1 * i) (drop 3 r)) ≡ get_or l (p + 3 + 1 * i) 0 = ap (λ (x : List ℕ). byte_of (drop (1 * i) x)) (drop-drop 3 p l) ∙ first_past l (p + 3) (1 * i) in
          let f : get_or r (3 + i) 0 ≡ get_or l (p + 3 + 1 * i) 0 = get_or-drop p l (3 + i) 0 ∙ ap (λ (k : ℕ). get_or l k 0) (omega arith) in
          byte_again l (p + 3 + 1 * i) _ (ap mark_byte (mark_in_lem (drop 3 r) i q false ∙ ap mark_of b) ∙ mark_back (get_or l (p + 3 + 1 * i) 0) (omega (arith, m i q, f)))

  contents_again : word_of (drop 18 r) < suc sequence_limit → batch_plain (drop 33 r) ≡ true → kinds_known (drop 18 r) ≡ true
      → l ≡ lay l (p + 18) (contents_bytes (min (word_of (drop 18 r)) sequence_limit) (set_at (drop 26 r)) (batch_at (drop 33 r)))
  unfolding contents_bytes kinds_known each_below
  contents_again s e k =
      let w : min (word_of (drop 18 r)) sequence_limit ≡ word_of (drop 18 r) = omega arith in
      let l₁ : Laid l l (p + 18) (word_bytes (word_of (drop 18 r))) 8 = record { is = number_past l h 8 p 18; long = word_length (word_of (drop 18 r)) } in
      let l₂ = next l (set_bytes (set_at (drop 26 r))) 7 l₁ (past (λ x. set_bytes (set_at x)) 26 (p + 18 + 8) (omega arith) (set_again l (p + 18 + 8))) (set_length (set_at (drop 26 r))) in
      let l₃ = next l (batch_bytes (batch_at (drop 33 r))) 109 l₂ (past (λ x. batch_bytes (batch_at x)) 33 (p + 18 + 15) (omega arith) (batch_again l h (p + 18 + 15) (rw (← from 33 (p + 18 + 15) (omega arith)) e) known)) (batch_length (batch_at (drop 33 r))) in
      rw w l₃.is
    where
      from : (k q : ℕ) → p + k ≡ q → drop k r ≡ drop q l
      from k q z = drop-drop k p l ∙ ap (λ (j : ℕ). drop j l) z

      past : (f : List ℕ → List ℕ) (k q : ℕ) → p + k ≡ q → l ≡ lay l q (f (drop q l)) → l ≡ lay l q (f (drop k r))
      past f k q z same = same ∙ ap (λ (x : List ℕ). lay l q (f x)) (sym (from k q z))

      known : (i : ℕ) → i < 4 → get_or (drop (p + 18 + 15) l) (17 + 27 * i) 0 < 3
      known i q =
          let a : get_or (drop (p + 18 + 15) l) (17 + 27 * i) 0 ≡ get_or l (p + 18 + 15 + (17 + 27 * i)) 0 = get_or-drop (p + 18 + 15) l (17 + 27 * i) 0 in
          let b : get_or (drop 32 (drop 18 r)) (27 * i) 0 ≡ get_or l (p + 18 + 15 + (17 + 27 * i)) 0 = get_or-drop 32 (drop 18 r) (27 * i) 0 ∙ get_or-drop 18 r (32 + 27 * i) 0 ∙ get_or-drop p l (18 + (32 + 27 * i)) 0 ∙ ap (λ (j : ℕ). get_or l j 0) (omega arith) in
          omega (arith, a, b, ltb-true (get_or (drop 32 (drop 18 r)) (27 * i) 0) 3 (all_at (below_at 27 3 (drop 32 (drop 18 r))) 4 k i q))

  pub slot_again : slot_known r ≡ true → batch_plain (drop 33 r) ≡ true → l ≡ lay l p (slot_bytes (slot_at r))
  unfolding slot_known slot_at slot_bytes each_below
  slot_again k e =
      let a = both_true (ltb (get_or r 0 0) 5) _ k in
      let b = both_true (all_below 8 (below_at 1 2 (drop 2 r))) _ a.1 in
      let c = both_true (leb (word_of (drop 18 r)) sequence_limit) (kinds_known (drop 18 r)) b.1 in
      let below : (k : ℕ) → 2 ≤ k → k < 10 → get_or r k 0 < 2 = λ k m q.
      let f : get_or (drop 2 r) (1 * (k - 2)) 0 ≡ get_or r k 0 = get_or-drop 2 r (1 * (k - 2)) 0 ∙ ap (λ (j : ℕ). get_or r j 0) (omega arith) in
      omega (arith, f, ltb-true (get_or (drop 2 r) (1 * (k - 2)) 0) 2 (all_at (below_at 1 2 (drop 2 r)) 8 b.0 (k - 2) (omega arith))) in
      let l₁ : Laid l l p (head_bytes (status_of (get_or r 0 0)) (get_or r 1 0) (mark_of (get_or r 2 0))) 3 = record { is = head_again (ltb-true (get_or r 0 0) 5 a.0) (below 2 (omega arith) (omega arith)); long = head_length _ _ _ } in
      let l₂ = next l (marks_bytes (marks_at (drop 3 r))) 7 l₁ (marks_again (λ i q. below (3 + i) (omega arith) (omega arith))) (marks_bytes_length _) in
      let l₃ = next l (word_bytes (word_of (drop 10 r))) 8 l₂ (number_past l h 8 p 10) (word_length _) in
      (next l _ 124 l₃ (contents_again (omega (arith, leb-true (word_of (drop 18 r)) sequence_limit c.0)) e c.1) (contents_length _ _ _)).is
