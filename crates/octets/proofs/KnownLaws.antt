-- Bytes below a bound, at places one step apart: what the test says of each, and the other way.
use mathlib.Core.Path.{◌≡◌}
use mathlib.Core.List.{List}
use mathlib.Core.Bool.{true}
use Prim.Native.Nat.{ℕ, ◌*◌, ◌<◌}
use borrow.Author.Tests.{lt-ltb, ltb-true}
use lib.ListN.{get_or}
use Rattle.base.proofs.Loops.{all_at, all_each}
use Rattle.octets.specs.Known.{below_at, each_below}

module _ (count step bound : ℕ) (l : List ℕ) where
  pub below_each : each_below count step bound l ≡ true → (i : ℕ) → i < count → get_or l (step * i) 0 < bound
  unfolding each_below
  below_each h i p = ltb-true _ _ (all_at (below_at step bound l) count h i p)

  pub each_below_lem : ((i : ℕ) → i < count → get_or l (step * i) 0 < bound) → each_below count step bound l ≡ true
  unfolding each_below
  each_below_lem h = all_each (below_at step bound l) count (λ i p. lt-ltb _ _ (h i p))
