-- Bytes laid over one part of several: the other parts stay.
use mathlib.Core.Path.{◌≡◌, refl, ap, sym, ◌∙◌}
use mathlib.Core.List.{List, [], ◌∷◌, ◌++◌}
use mathlib.Core.Logic.{⊎_elim, ◌≢◌}
use Prim.Native.Nat.{ℕ, zero, suc, ◌+◌, ◌*◌, ◌<◌, ◌≤◌}
use native.Mathlib.Nat.{eq-or-lt_of_le, le_of_suc-le-suc, mul-le-mul_left}
use native.Mathlib.Omega.{arith}
use lib.ListN.{length, drop, set, length-set}
use lib.Seq.{set-append_left}
use Rattle.layout.specs.Numbers.{lay}
use Rattle.layout.specs.Each.{each_bytes}
use Rattle.layout.proofs.Laying.{lay_whole}
use Rattle.layout.proofs.EachLaws.{bytes_length}

set_right : (a b : List ℕ) (k n v : ℕ) → n ≡ length a + k → set (a ++ b) n v ≡ a ++ set b k v
set_right [] b k n v e =
    let z : n ≡ k = omega (arith, e) in
    rw z
set_right (x ∷ a) b k zero v e = absurd (omega (arith, e))
set_right (x ∷ a) b k (suc n) v e = ap (λ (r : List ℕ). x ∷ r) (set_right a b k n v (omega (arith, e)))

pub lay_right : (a b x : List ℕ) (k n : ℕ) → n ≡ length a + k → lay (a ++ b) n x ≡ a ++ lay b k x
unfolding lay
lay_right a b [] k n e = refl
lay_right a b (v ∷ x) k n e = rw (set_right a b k n v e) (lay_right a (set b k v) x (suc k) (suc n) (omega (arith, e)))

pub lay_left : (a b x : List ℕ) (k : ℕ) → k + length x ≤ length a → lay (a ++ b) k x ≡ lay a k x ++ b
unfolding lay
lay_left a b [] k h = refl
lay_left a b (v ∷ x) k h =
    rw (set-append_left a b k v (omega arith)) (lay_left (set a k v) b x (suc k) (omega (arith, length-set a k v)))

-- what comes after stays
drop_set : (l : List ℕ) (p q v : ℕ) → p < q → drop q (set l p v) ≡ drop q l
drop_set [] p q v h = refl
drop_set (x ∷ l) p zero v h = absurd (omega arith)
drop_set (x ∷ l) zero (suc q) v h = refl
drop_set (x ∷ l) (suc p) (suc q) v h = drop_set l p q v (omega arith)

pub drop_past : (l x : List ℕ) (p q : ℕ) → p + length x ≤ q → drop q (lay l p x) ≡ drop q l
unfolding lay
drop_past l [] p q h = refl
drop_past l (v ∷ x) p q h = drop_past (set l p v) x (suc p) q (omega arith) ∙ drop_set l p q v (omega arith)

-- one element written over is the element of the others beside it
module _ (bytes other : ℕ → List ℕ) (w : ℕ) (h : (i : ℕ) → length (bytes i) ≡ w) where
  each_same : (n : ℕ) → ((k : ℕ) → k < n → other k ≡ bytes k) → each_bytes bytes n ≡ each_bytes other n
  unfolding each_bytes
  each_same zero e = refl
  each_same (suc n) e = rw (e n (omega arith), each_same n (λ k l. e k (omega arith)))

  -- the last one
  put_last : (n : ℕ) → length (other n) ≡ w → ((k : ℕ) → k < n → other k ≡ bytes k) → lay (each_bytes bytes n ++ bytes n) (w * n) (other n) ≡ each_bytes other n ++ other n
  put_last n m e =
      let long : w * n ≡ length (each_bytes bytes n) + 0 = omega (arith, bytes_length bytes w h n) in
      rw (lay_right (each_bytes bytes n) (bytes n) (other n) 0 (w * n) long, lay_whole (bytes n) (other n) (h n ∙ sym m), each_same n e)

  -- an element before the n-th lies before its bytes
  before : (i n : ℕ) → i < n → length (other i) ≡ w → w * i + length (other i) ≤ length (each_bytes bytes n)
  before i n l m =
      let next : w * i + w ≡ w * suc i = omega arith in
      let up : w * suc i ≤ w * n = mul-le-mul_left w (omega arith) in
      omega (arith, bytes_length bytes w h n, m, next, up)

  pub each_put : (i n : ℕ) → i < n → length (other i) ≡ w → ((k : ℕ) → k < n → k ≢ i → other k ≡ bytes k) → lay (each_bytes bytes n) (w * i) (other i) ≡ each_bytes other n
  unfolding each_bytes
  each_put i zero l m e = absurd (omega arith)
  each_put i (suc n) l m e =
      ⊎_elim
      (λ (q : i ≡ n). rw q (put_last n (rw q at m) (λ k p. e k (omega arith) (λ d. absurd (omega (arith, d, q))))))
      (λ (q : i < n).
      let inside : w * i + length (other i) ≤ length (each_bytes bytes n) = before i n q m in
      lay_left (each_bytes bytes n) (bytes n) (other i) (w * i) inside
      ∙ rw (each_put i n q m (λ k p d. e k (omega arith) d), e n (omega arith) (λ d. absurd (omega (arith, d)))))
      (eq-or-lt_of_le (le_of_suc-le-suc l))
