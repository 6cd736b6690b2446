-- What `array::from_fn` makes, of a closure that no call changes.
use mathlib.Core.Path.{◌≡◌, subst}
use mathlib.Core.List.{List}
use Prim.Native.Nat.{ℕ, zero, suc, ◌+◌, ◌≤◌, ◌<◌}
use native.Mathlib.Decide.{ℕ_discrete}
use native.Mathlib.Omega.{arith}
use lib.ListN.{get_or}
use denote.Param.Members.{Mut}
use Rattle.std.specs.Fn.{Called}
use Rattle.std.specs.Array.{IsFromFnResult, IsFromFnResultFrom}

module _ {F B : Type 0} (g : Mut F (ℕ × Unit {0}) B) (f : F) (ys : List B) (d : B) (P : ℕ → B → Type 0)
    (call : (x : ℕ) (y : B) (q : F) → Called g f (x, tt) y q → (q ≡ f) × P x y) where
  made_from : (n i : ℕ) → IsFromFnResultFrom g f ys i n → (k : ℕ) → i ≤ k → k < i + n → P k (get_or ys k d)
  made_from zero i made k le lt = absurd (omega arith)
  made_from (suc n) i (q, y, at, called, rest) k le lt =
      let w = call i y q called in
      elim (ℕ_discrete k i) [
        | yes e ↦ rw (e, at.1 d) w.1
        | no ne ↦ made_from n (i + 1) (subst (λ (p : F). IsFromFnResultFrom g p ys (i + 1) n) w.0 rest) k (omega arith) (omega arith)
      ]

  -- what holds of each number's answer holds of the element there
  pub each_made : (n : ℕ) → IsFromFnResult g f ys n → (k : ℕ) → k < n → P k (get_or ys k d)
  each_made n made k lt = made_from n 0 made.each k (omega arith) (omega arith)
