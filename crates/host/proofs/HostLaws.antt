-- What a host may rely on of the union: out keeps its length, and 0 says that a slice is short, and then out is as it was.
use mathlib.Core.Path.{◌≡◌, refl}
use mathlib.Core.List.{List}
use mathlib.Core.Bool.{Bool, true, false, cond}
use Prim.Native.Nat.{ℕ}
use native.Mathlib.Omega.{arith}
use lib.ListN.{length}
use Rattle.layout.specs.Numbers.{lay}
use Rattle.layout.proofs.Laying.{lay_length}
use Rattle.calls.specs.Calls.{short}
use Rattle.deciding.specs.Codes.{done}
use Rattle.host.specs.Union.{union_long, union_code, union_bytes}

module _ (a b out : List ℕ) where
  pub union_length : length (union_bytes a b out) ≡ length out
  union_length = go (union_long a b out) _
    where
      go : (long : Bool) (new : List ℕ) → length (cond long (lay out 0 new) out) ≡ length out
      go true new = lay_length _ _ _
      go false new = refl

  pub union_zero : union_code a b out ≡ 0 → union_long a b out ≡ false
  union_zero = go (union_long a b out)
    where
      go : (long : Bool) → cond long done short ≡ short → long ≡ false
      go true e = absurd (omega (arith, e))
      go false e = refl

  pub union_short : union_long a b out ≡ false → (union_code a b out ≡ 0) × (union_bytes a b out ≡ out)
  union_short e = (rw e, rw e)
