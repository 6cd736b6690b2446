-- `bounds::highest::highest` meets its contract: the greatest of the rows so far.
use Prim.Native.Nat.{◌≤◌}
use Rattle.base.specs.Below.{greatest_below}
use Rattle.bounds.specs.Highest.{sequence_in}
use mathlib.Core.Path.{◌≡◌}
use Rattle.bounds.proofs.highest.highest.Given as goal

abbrev pub invariant-loop-row : goal.invariant-loop-row
invariant-loop-row g l = (l.row ≤ 7) × (l.highest ≡ greatest_below l.row (sequence_in (g.S.Shown.table l.shown) l.set))
