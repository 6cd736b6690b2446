-- What `all` answers over a range, as a test of all below its end.
use mathlib.Core.Path.{◌≡◌, refl, ap, sym, ◌∙◌}
use mathlib.Core.Bool.{Bool, ◌&&◌, and-true}
use Prim.Native.Nat.{ℕ, suc, zero, ◌+◌, ◌<◌}
use native.Mathlib.Omega.{arith}
use denote.Param.Members.{Mut, Called}
use Rattle.std.specs.declared.ops.Range.{Range}
use Rattle.std.specs.Iterator.{ChecksAll}
use Rattle.std.specs.List.{list_all, range_with_len}
use Rattle.std.proofs.Math.Bool.{and_assoc}
use Rattle.std.proofs.iter.Yields.{nat_range_steps}
use Rattle.std.proofs.lemmas.Iterator.{YieldsList-from_range}
use Rattle.std.proofs.lemmas.Iterator.Search.{all_from_yields_List}
use Rattle.base.specs.Below.{all_below}

one_more : (p : ℕ → Bool) (a n : ℕ) → list_all p (range_with_len a (suc n)) ≡ (list_all p (range_with_len a n) && p (a + n))
one_more p a zero =
    let z : a + 0 ≡ a = omega arith in
    rw (z, and-true)
one_more p a (suc n) =
    let z : a + 1 + n ≡ a + suc n = omega arith in
    ap (λ (b : Bool). p a && b) (one_more p (a + 1) n) ∙ rw z (sym (and_assoc (p a) _ _))

pub all_range : (p : ℕ → Bool) (n : ℕ) → list_all p (range_with_len 0 n) ≡ all_below n p
unfolding all_below
all_range p zero = refl
all_range p (suc n) = one_more p 0 n ∙ rw (all_range p n) (ap (λ (i : ℕ). all_below n p && p i) (omega arith))

-- two tests that agree below the end
pub all_same : (p q : ℕ → Bool) (n : ℕ) → ((i : ℕ) → i < n → p i ≡ q i) → all_below n p ≡ all_below n q
unfolding all_below
all_same p q zero h = refl
all_same p q (suc n) h = rw (h n (omega arith), all_same p q n (λ i l. h i (omega arith)))

-- over a range from 0 on, with a closure that answers the test
module _ {F : Type 0} {g : Mut F (ℕ × Unit {0}) Bool} (p : ℕ → Bool) (n : ℕ) (u : Range ℕ) (f : F) (r : Bool) where
  pub all_over : ChecksAll nat_range_steps g (record { start = 0; end = n }) f r u → ((i : ℕ) (b : Bool) (q : F) → Called g f (i, tt) b q → (q ≡ f) × (b ≡ p i)) → r ≡ all_below n p
  all_over ran h = all_from_yields_List p u f r ran (YieldsList-from_range 0 n n refl (omega arith)) h ∙ all_range p n
