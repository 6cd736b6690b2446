-- `votes::identical::group_of` meets its contract: those equal so far are counted and no longer left.
use mathlib.Core.Path.{◌≡◌}
use Prim.Native.Nat.{◌≤◌}
use lib.ListN.{length}
use Rattle.base.specs.Below.{count_below, list_below}
use Rattle.base.proofs.Loops.{mix}
use Rattle.votes.specs.Identical.{other_than, equal_to}
use Rattle.votes.proofs.identical.group_of.Given as goal

abbrev pub invariant-loop-q : goal.invariant-loop-q
invariant-loop-q l =
    (l.q ≤ 7) × (l.count ≤ l.q) × (length l.initial.left ≡ 7) × (l.left ≡ mix (list_below 7 (other_than l.fn.entries l.initial.left l.r)) l.initial.left l.q) × (l.count ≡ count_below l.q (equal_to l.fn.entries l.initial.left l.r))
