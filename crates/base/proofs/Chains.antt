-- What chains of iterators and arrays made by a function answer, in the words of specs/Below.
use mathlib.Core.Path.{◌≡◌, refl, ap, sym, ◌∙◌}
use mathlib.Core.List.{List, [], ◌∷◌}
use mathlib.Core.Bool.{Bool, true, false, cond, ◌&&◌, and-true, and_assoc}
use Prim.Native.Nat.{ℕ, suc, zero, ◌+◌, ◌<◌}
use native.Mathlib.Omega.{arith}
use lib.ListN.{length, get_or}
use lib.Pointwise.{pointwise}
use denote.Param.Members.{Mut, Called}
use Rattle.std.specs.Array.{IsFromFnResultFrom, IsFromFnResult}
use Rattle.std.specs.List.{list_all, enumerate_from, filter}
use Rattle.std.proofs.lemmas.List.FromFn.{length-enumerate_from, get_or-enumerate_from}
use Rattle.base.specs.Below.{all_below, count_below}

-- ---- `all`

pub all_same : (p q : ℕ → Bool) (n : ℕ) → ((i : ℕ) → i < n → p i ≡ q i) → all_below n p ≡ all_below n q
unfolding all_below
all_same p q zero h = refl
all_same p q (suc n) h = rw (h n (omega arith), all_same p q n (λ i l. h i (omega arith)))

all_front : (p : ℕ → Bool) (n : ℕ) → all_below (suc n) p ≡ (p 0 && all_below n (λ i. p (suc i)))
unfolding all_below
all_front p zero = sym (and-true (p 0))
all_front p (suc n) = rw (all_front p n, and_assoc)

-- over a list
pub all_listed : {X : Type 0} (test : X → Bool) (l : List X) (d : X) → list_all test l ≡ all_below (length l) (λ i. test (get_or l i d))
unfolding all_below
all_listed test [] d = refl
all_listed test (x ∷ l) d = rw (all_listed test l d) (sym (all_front (λ i. test (get_or (x ∷ l) i d)) (length l)))

-- over a list, with the index of each
pub all_numbered : {X : Type 0} (test : ℕ → X → Bool) (l : List X) (d : X) → list_all (λ (p : ℕ × X). test p.0 p.1) (enumerate_from 0 l) ≡ all_below (length l) (λ i. test i (get_or l i d))
all_numbered {X} test l d =
    all_listed (λ (p : ℕ × X). test p.0 p.1) (enumerate_from 0 l) (0, d)
    ∙ rw (length-enumerate_from 0 l) (all_same _ _ (length l) (λ i h. each i (get_or-enumerate_from 0 l i (0, d) h)))
  where
    each : (i : ℕ) → get_or (enumerate_from 0 l) i (0, d) ≡ (0 + i, get_or l i d) → test (get_or (enumerate_from 0 l) i (0, d)).0 (get_or (enumerate_from 0 l) i (0, d)).1 ≡ test i (get_or l i d)
    each i e = let z : 0 + i ≡ i = omega arith in rw (e, z)

-- ---- `filter` and `count`

count_front : (p : ℕ → Bool) (n : ℕ) → count_below (suc n) p ≡ cond (p 0) (suc (count_below n (λ i. p (suc i)))) (count_below n (λ i. p (suc i)))
unfolding count_below
count_front p zero = refl
count_front p (suc n) = rw (count_front p n) (go (p 0) (p (suc n)))
  where
    m : ℕ
    m = count_below n (λ i. p (suc i))

    go : (a b : Bool) → cond b (suc (cond a (suc m) m)) (cond a (suc m) m) ≡ cond a (suc (cond b (suc m) m)) (cond b (suc m) m)
    go true true = refl
    go true false = refl
    go false true = refl
    go false false = refl

pub count_listed : {X : Type 0} (test : X → Bool) (l : List X) (d : X) → length (filter test l) ≡ count_below (length l) (λ i. test (get_or l i d))
unfolding count_below
count_listed test [] d = refl
count_listed test (x ∷ l) d = go (test x) (count_listed test l d) ∙ sym (count_front (λ i. test (get_or (x ∷ l) i d)) (length l))
  where
    go : (b : Bool) → length (filter test l) ≡ count_below (length l) (λ i. test (get_or l i d)) → length (cond b (x ∷ filter test l) (filter test l)) ≡ cond b (suc (count_below (length l) (λ i. test (get_or l i d)))) (count_below (length l) (λ i. test (get_or l i d)))
    go true e = ap suc e
    go false e = e

-- ---- `std::array::from_fn`

-- each element is what the function gives for its index
module _ {A F : Type 0} (g : Mut F (ℕ × Unit {0}) A) (v : ℕ → A) (f : F) (h : (i : ℕ) (y : A) (q : F) → Called g f (i, tt) y q → (y ≡ v i) × (q ≡ f)) where
  made_from : (k i j : ℕ) (ys : List A) (d : A) → IsFromFnResultFrom g f ys i k → j < k → get_or ys (i + j) d ≡ v (i + j)
  made_from zero i j ys d m p = absurd (omega arith)
  made_from (suc k) i zero ys d (q, y, e, c, m) p =
      let z : i + 0 ≡ i = omega arith in
      rw z (e.1 d ∙ (h i y q c).0)
  made_from (suc k) i (suc j) ys d (q, y, e, c, m) p =
      let z : i + 1 + j ≡ i + suc j = omega arith in
      let r = made_from k (i + 1) j ys d (rw (h i y q c).1 at m) (omega arith) in
      rw z at r

  pub made_at : (n : ℕ) (ys : List A) → IsFromFnResult g f ys n → (j : ℕ) (d : A) → j < n → get_or ys j d ≡ v j
  made_at n ys m j d l =
      let z : 0 + j ≡ j = omega arith in
      rw z at (made_from n 0 j ys d m.each l)

-- ---- `==` of slices

-- of two lists that are as long, by a test that says what their elements' `==` says
pub all_pointwise : {X : Type 0} (eq test : X → X → Bool) → ((x y : X) → eq x y ≡ test x y) → (k l : List X) (d : X) → length k ≡ length l → pointwise eq k l ≡ all_below (length k) (λ i. test (get_or k i d) (get_or l i d))
unfolding all_below
all_pointwise eq test h [] [] d e = refl
all_pointwise eq test h [] (y ∷ l) d e = absurd (omega arith)
all_pointwise eq test h (x ∷ k) [] d e = absurd (omega arith)
all_pointwise eq test h (x ∷ k) (y ∷ l) d e = rw (h x y, all_pointwise eq test h k l d (omega arith)) (sym (all_front (λ i. test (get_or (x ∷ k) i d) (get_or (y ∷ l) i d)) (length k)))
