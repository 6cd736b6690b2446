-- `attempts::gather::deps` meets its contract: the numbers of the slots so far.
use mathlib.Core.Path.{◌≡◌}
use Prim.Native.Nat.{◌*◌}
use Rattle.attempts.proofs.FillLaws.{deps_to}
use Rattle.attempts.proofs.gather.deps.Given as goal

abbrev pub invariant-loop-i : goal.invariant-loop-i
invariant-loop-i l = l.out ≡ deps_to l.table (7 * l.i)
