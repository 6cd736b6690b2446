-- What is read from bytes, written again in its place, leaves them as they were.
use mathlib.Core.Path.{◌≡◌, refl, ap, sym, ◌∙◌}
use mathlib.Core.List.{List, [], ◌∷◌}
use mathlib.Core.Bool.{true}
use Prim.Native.Nat.{ℕ, zero, suc, ◌+◌, ◌*◌, ◌/◌, ◌%◌, ◌<◌, min}
use native.Mathlib.Numerals.{add-one}
use native.Mathlib.Omega.{arith}
use borrow.Author.Tests.{eqb-true}
use lib.ListN.{length, get_or, drop, set}
use lib.Seq.{drop-drop, get_or-drop}
use Rattle.base.proofs.Loops.{both_true, all_at}
use Rattle.deps.specs.Batches.{no_request}
use Rattle.layout.specs.Numbers.{number_of, number_bytes, word_of, word_bytes, short_of, short_bytes, byte_of, lay, Bytes}
use Rattle.layout.specs.Each.{each_bytes}
use Rattle.layout.specs.Batches.{kind_of, kind_byte, key_of, value_of, request_at, request_bytes, request_in, batch_at, batch_bytes, kind_plain, request_plain, plain_at, batch_plain}
use Rattle.layout.proofs.Laying.{Laid, next}
use Rattle.layout.proofs.NumberLaws.{number_step, word_length, short_length}
use Rattle.layout.proofs.EachLaws.{each_is, bytes_length, lay_turn}
use Rattle.layout.proofs.BatchLaws.{request_length}

-- ---- bytes, one run after the other, and elements

set_again : (l : List ℕ) (k : ℕ) → set l k (get_or l k 0) ≡ l
set_again [] k = refl
set_again (x ∷ l) zero = refl
set_again (x ∷ l) (suc k) = ap (λ (r : List ℕ). x ∷ r) (set_again l k)

pub byte_again : (l : List ℕ) (p v : ℕ) → v ≡ get_or l p 0 → l ≡ lay l p (v ∷ [])
unfolding lay
byte_again l p v e = sym (rw e (set_again l p))

-- k bytes past p
pub byte_past : (l : List ℕ) (p k v : ℕ) → v ≡ get_or (drop p l) k 0 → l ≡ lay l (p + k) (v ∷ [])
byte_past l p k v e = byte_again l (p + k) v (e ∙ get_or-drop p l k 0)

pub first_past : (l : List ℕ) (p k : ℕ) → byte_of (drop k (drop p l)) ≡ get_or l (p + k) 0
first_past l p k = ap byte_of (drop-drop k p l) ∙ get_or-drop (p + k) l 0 0 ∙ ap (λ (i : ℕ). get_or l i 0) (omega arith)

module _ (bytes : ℕ → List ℕ) (w : ℕ) (h : (i : ℕ) → length (bytes i) ≡ w) (l : List ℕ) (p : ℕ) where
  pub each_again : (n : ℕ) → ((i : ℕ) → i < n → l ≡ lay l (p + w * i) (bytes i)) → l ≡ lay l p (each_bytes bytes n)
  unfolding each_bytes lay
  each_again zero f = refl
  each_again (suc n) f = rw add-one at (lay_turn bytes w h l l l p n (each_again n (λ i q. f i (omega arith))) (f n (omega arith)))

-- ---- numbers

pub number_again : (k p : ℕ) (l : List ℕ) → Bytes l → l ≡ lay l p (number_bytes k (number_of k (drop p l)))
unfolding lay number_bytes
number_again zero p l h = refl
number_again (suc k) p l h =
    let b = get_or l p 0 in
    let x = number_of k (drop (suc p) l) in
    let low : (b + 256 * x) % 256 ≡ b = omega (arith, h p) in
    let high : (b + 256 * x) / 256 ≡ x = omega (arith, h p) in
    sym (rw (number_step k p l, low, high, set_again l p) (sym (number_again k (suc p) l h)))

-- ---- requests and batches

plain_kind : (b key value : ℕ) → b < 3 → kind_plain b key value ≡ true → (kind_byte (kind_of b key value) ≡ b) × (key_of (kind_of b key value) ≡ key) × (value_of (kind_of b key value) ≡ value)
plain_kind zero key value l e =
    let a = both_true _ _ e in
    (refl, sym (eqb-true key 0 a.1), sym (eqb-true value 0 a.0))
plain_kind (suc zero) key value l e = (refl, refl, refl)
plain_kind (suc (suc zero)) key value l e = (refl, refl, sym (eqb-true value 0 (both_true _ _ e).0))
plain_kind (suc (suc (suc b))) key value l e = absurd (omega arith)

module _ (l : List ℕ) (h : Bytes l) where
  -- a number that is read, k bytes past p
  pub number_past : (n p k : ℕ) → l ≡ lay l (p + k) (number_bytes n (number_of n (drop k (drop p l))))
  number_past n p k = number_again n (p + k) l h ∙ ap (λ (x : List ℕ). lay l (p + k) (number_bytes n (number_of n x))) (sym (drop-drop k p l))

  pub request_again : (p : ℕ) → request_plain (drop p l) ≡ true → get_or (drop p l) 16 0 < 3 → l ≡ lay l p (request_bytes (request_at (drop p l)))
  unfolding request_at request_bytes request_plain
  request_again p e b =
      let r = drop p l in
      let q = plain_kind (get_or r 16 0) (short_of (drop 17 r)) (word_of (drop 19 r)) b e in
      let l₁ : Laid l l p (word_bytes (word_of r)) 8 = record { is = number_again 8 p l h; long = word_length (word_of r) } in
      let l₂ = next l (word_bytes (word_of (drop 8 r))) 8 l₁ (number_past 8 p 8) (word_length (word_of (drop 8 r))) in
      let l₃ = next l (get_or r 16 0 ∷ []) 1 l₂ (byte_past l p 16 (get_or r 16 0) refl) refl in
      let l₄ = next l (short_bytes (short_of (drop 17 r))) 2 l₃ (number_past 2 p 17) (short_length (short_of (drop 17 r))) in
      let l₅ = next l (word_bytes (word_of (drop 19 r))) 8 l₄ (number_past 8 p 19) (word_length (word_of (drop 19 r))) in
      rw (q.0, q.1, q.2) l₅.is

  pub batch_again : (p : ℕ) → batch_plain (drop p l) ≡ true → ((i : ℕ) → i < 4 → get_or (drop p l) (17 + 27 * i) 0 < 3) → l ≡ lay l p (batch_bytes (batch_at (drop p l)))
  unfolding batch_at batch_bytes batch_plain
  batch_again p e b =
      let r = drop p l in
      let first : get_or r 0 0 ≡ get_or l p 0 = get_or-drop p l 0 0 ∙ ap (λ (k : ℕ). get_or l k 0) (omega arith) in
      let count : min (get_or r 0 0) 255 ≡ get_or l p 0 = omega (arith, first, h p) in
      let l₁ : Laid l l p (min (get_or r 0 0) 255 ∷ []) 1 = record { is = byte_again l p _ count; long = refl } in
      (next l _ 108 l₁ (each_again (request_in (batch_at r)) 27 (λ i. request_length _) l (p + 1) 4 (λ i q. again i q)) (bytes_length (request_in (batch_at r)) 27 (λ i. request_length _) 4)).is
    where
      again : (i : ℕ) → i < 4 → l ≡ lay l (p + 1 + 27 * i) (request_in (batch_at (drop p l)) i)
      again i q =
          let at : p + (1 + 27 * i) ≡ p + 1 + 27 * i = omega arith in
          let r : drop (1 + 27 * i) (drop p l) ≡ drop (p + 1 + 27 * i) l = drop-drop (1 + 27 * i) p l ∙ ap (λ (k : ℕ). drop k l) at in
          let kind : get_or (drop (1 + 27 * i) (drop p l)) 16 0 ≡ get_or (drop p l) (17 + 27 * i) 0 = get_or-drop (1 + 27 * i) (drop p l) 16 0 ∙ ap (λ (k : ℕ). get_or (drop p l) k 0) (omega arith) in
          let plain : request_plain (drop (p + 1 + 27 * i) l) ≡ true = rw (← r) (all_at (plain_at (drop p l)) 4 e i q) in
          let known : get_or (drop (p + 1 + 27 * i) l) 16 0 < 3 = rw (← r, kind) (b i q) in
          let same : request_in (batch_at (drop p l)) i ≡ request_bytes (request_at (drop (p + 1 + 27 * i) l)) = ap request_bytes (each_is request_at 27 4 i (drop 1 (drop p l)) no_request q ∙ ap request_at (drop-drop (27 * i) 1 (drop p l) ∙ r)) in
          rw same (request_again (p + 1 + 27 * i) plain known)
