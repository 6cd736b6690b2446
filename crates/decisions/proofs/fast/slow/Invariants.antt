-- `decisions::fast::slow` meets its contract: all replies so far are joined.
use mathlib.Core.Path.{◌≡◌}
use Prim.Native.Nat.{◌≤◌}
use Rattle.decisions.specs.Fast.{joined_below}
use Rattle.decisions.proofs.fast.slow.Given as goal

abbrev pub invariant-loop-r : goal.invariant-loop-r
invariant-loop-r l = (l.r ≤ 7) × (l.all ≡ joined_below l.r l.replied l.fn.entries)
