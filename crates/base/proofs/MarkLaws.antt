-- Laws of marks: when they fit, and how many there are.
use mathlib.Core.Path.{◌≡◌, refl, ◌∙◌}
use mathlib.Core.List.{List}
use mathlib.Core.Bool.{Bool, true, false, cond, not, or-true, or-false}
use Prim.Native.Nat.{ℕ, zero, suc, ◌+◌, ◌-◌, ◌<◌, ◌≤◌, min}
use lib.Dec.{ltb}
use lib.ListN.{length, get_or, drop, length-drop}
use lib.Seq.{get_or-drop}
use Rattle.std.specs.Cmp.{both_ways}
use Rattle.std.specs.List.{list_all}
use Rattle.base.specs.Below.{all_below}
use Rattle.base.proofs.Chains.{all_listed}
use native.Mathlib.Omega.{arith}
use Rattle.base.specs.Below.{count_below}
use borrow.Author.Tests.{lt-ltb, le-ltb, ltb-true, ltb-false}
use Rattle.base.specs.Marks.{marked, mark_fits, marks_fit}
use Rattle.base.proofs.Loops.{all_at, all_each}

-- ---- refusal 2 exactly when a replica at n or more is marked

pub fits_below : (n : ℕ) (marks : List Bool) (r : ℕ) → r < n → mark_fits n marks r ≡ true
fits_below n marks r l = rw (lt-ltb r n l, or-true)

pub fits_unmarked : (n : ℕ) (marks : List Bool) (r : ℕ) → marked marks r ≡ false → mark_fits n marks r ≡ true
fits_unmarked n marks r h = rw h

pub fits_not : (n : ℕ) (marks : List Bool) (r : ℕ) → marked marks r ≡ true → n ≤ r → mark_fits n marks r ≡ false
fits_not n marks r h l = rw (h, le-ltb r n l)

pub marks_fit_each : (n : ℕ) (marks : List Bool) → marks_fit n marks ≡ true → (r : ℕ) → r < 7 → marked marks r ≡ true → r < n
unfolding marks_fit
marks_fit_each n marks h r l m =
    let t : mark_fits n marks r ≡ true = all_at (mark_fits n marks) 7 h r l in
    ltb-true r n (rw m at t)

pub each_marks_fit : (n : ℕ) (marks : List Bool) → ((r : ℕ) → r < 7 → marked marks r ≡ true → r < n) → marks_fit n marks ≡ true
unfolding marks_fit
each_marks_fit n marks h = all_each (mark_fits n marks) 7 (λ r l. go r l (marked marks r) refl)
  where
    go : (r : ℕ) → r < 7 → (b : Bool) → marked marks r ≡ b → mark_fits n marks r ≡ true
    go r l true e = fits_below n marks r (h r l e)
    go r l false e = fits_unmarked n marks r e

-- a chain that passes over the first n tests as much
pub rest_unmarked : (n : ℕ) (marks : List Bool) → length marks ≡ 7 → list_all not (drop n marks) ≡ marks_fit n marks
unfolding marks_fit
rest_unmarked n marks l =
    all_listed not (drop n marks) false
    ∙ both_ways _ _
    (λ h. all_each (mark_fits n marks) 7 (λ r k. go h r k (ltb r n) refl))
    (λ h. all_each (λ i. not (get_or (drop n marks) i false)) (length (drop n marks)) (λ i k. rest i (omega (arith, length-drop n marks)) (all_at (mark_fits n marks) 7 h (n + i) (omega (arith, length-drop n marks)))))
  where
    Rest : Type 0
    Rest = all_below (length (drop n marks)) (λ i. not (get_or (drop n marks) i false)) ≡ true

    go : Rest → (r : ℕ) → r < 7 → (b : Bool) → ltb r n ≡ b → mark_fits n marks r ≡ true
    go h r k true e = fits_below n marks r (ltb-true r n e)
    go h r k false e =
        let le = ltb-false r n e in
        let z : n + (r - n) ≡ r = omega arith in
        let t = all_at (λ i. not (get_or (drop n marks) i false)) (length (drop n marks)) h (r - n) (omega (arith, length-drop n marks)) in
        let u : not (marked marks r) ≡ true = rw (get_or-drop, z) at t in
        rw u

    rest : (i : ℕ) → i < 7 → mark_fits n marks (n + i) ≡ true → not (get_or (drop n marks) i false) ≡ true
    rest i k h = rw get_or-drop (rw (le-ltb (n + i) n (omega arith), or-false) at h)

-- ---- two tests that no number below n passes both of, and none from n on passes either: together they count at most n

pub two_counts : (p q : ℕ → Bool) (n k : ℕ)
    → ((i : ℕ) → i < k → p i ≡ true → i < n)
    → ((i : ℕ) → i < k → q i ≡ true → i < n)
    → ((i : ℕ) → p i ≡ true → q i ≡ true → ⊥)
    → count_below k p + count_below k q ≤ min k n
unfolding count_below
two_counts p q n zero f g h = omega arith
two_counts p q n (suc k) f g h =
    go (p k) refl (q k) refl (two_counts p q n k (λ i l. f i (omega arith)) (λ i l. g i (omega arith)) h)
  where
    go : (a : Bool) → p k ≡ a → (b : Bool) → q k ≡ b → count_below k p + count_below k q ≤ min k n
        → cond a (suc (count_below k p)) (count_below k p) + cond b (suc (count_below k q)) (count_below k q) ≤ min (suc k) n
    go true e true d i = absurd (h k e d)
    go true e false d i = omega (arith, f k (omega arith) e)
    go false e true d i = omega (arith, g k (omega arith) d)
    go false e false d i = omega arith
