-- How many of a range's numbers pass a test is how many below its end do.
use mathlib.Core.Path.{◌≡◌}
use mathlib.Core.Bool.{Bool, true, false, cond}
use mathlib.Core.List.{◌∷◌}
use Prim.Native.Nat.{ℕ, zero, suc, ◌+◌}
use native.Mathlib.Numerals.{add-one}
use native.Mathlib.Omega.{arith}
use lib.ListN.{length}
use Rattle.std.specs.List.{filter, range_with_len}
use Rattle.base.specs.Below.{count_below}

count_one : (p : ℕ → Bool) (a : ℕ) → count_below (a + 1) p ≡ cond (p a) (suc (count_below a p)) (count_below a p)
unfolding count_below
count_one p a = rw (add-one a)

count_from : (p : ℕ → Bool) (n a b : ℕ) → a + n ≡ b → count_below a p + length (filter p (range_with_len a n)) ≡ count_below b p
count_from p zero a b e = let f : a ≡ b = omega arith in rw f (omega arith)
count_from p (suc n) a b e = go (p a) (count_one p a) (count_from p n (a + 1) b (omega arith))
  where
    go : (t : Bool) → count_below (a + 1) p ≡ cond t (suc (count_below a p)) (count_below a p) → count_below (a + 1) p + length (filter p (range_with_len (a + 1) n)) ≡ count_below b p → count_below a p + length (cond t (a ∷ filter p (range_with_len (a + 1) n)) (filter p (range_with_len (a + 1) n))) ≡ count_below b p
    go true f h = omega (arith, f, h)
    go false f h = omega (arith, f, h)

pub count_filter : (p : ℕ → Bool) (n : ℕ) → length (filter p (range_with_len 0 n)) ≡ count_below n p
unfolding count_below
count_filter p n = omega (arith, count_from p n 0 n (omega arith))
