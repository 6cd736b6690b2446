-- `bounds::bounds::slots_fit` meets its contract: every slot so far that the table holds fits.
use Rattle.base.specs.Below.{all_below}
use Rattle.bounds.specs.Bounds.{held_fits}
use mathlib.Core.Path.{◌≡◌}
use mathlib.Core.Bool.{true}
use Prim.Native.Nat.{◌≤◌}
use Rattle.bounds.proofs.bounds.slots_fit.Given as goal

abbrev pub invariant-loop-i : goal.invariant-loop-i
invariant-loop-i g l = (l.i ≤ 224) × (all_below l.i (held_fits (g.S.Shown.table l.shown)) ≡ true)
