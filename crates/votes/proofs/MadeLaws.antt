-- An array made by `std::array::from_fn` is the list over its indices.
use mathlib.Core.Path.{◌≡◌, sym, ◌∙◌}
use mathlib.Core.List.{List}
use Prim.Native.Nat.{ℕ}
use native.Mathlib.Omega.{arith}
use Rattle.std.specs.Fn.{Called, Mut}
use Rattle.std.specs.Array.{IsFromFnResult}
use Rattle.std.proofs.lemmas.List.{same_lists}
use Rattle.base.specs.Below.{list_below}
use Rattle.base.proofs.Chains.{made_at}
use Rattle.base.proofs.Loops.{length_below, below_at_lem}

pub made_below : {F B : Type 0} (g : Mut F (ℕ × Unit {0}) B) (h : ℕ → B) (f : F) (ys : List B)
    → ((i : ℕ) (y : B) (q : F) → Called g f (i, tt) y q → (y ≡ h i) × (q ≡ f)) → (n : ℕ) → IsFromFnResult g f ys n → ys ≡ list_below n h
made_below g h f ys turn n r =
    same_lists ys (list_below n h) (r.long ∙ sym (length_below n h)) (λ k d l. made_at g h f turn n ys r k d (omega (arith, r.long)) ∙ sym (below_at_lem n h k d (omega (arith, r.long))))
