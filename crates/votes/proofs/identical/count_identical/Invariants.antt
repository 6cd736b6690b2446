-- `votes::identical::count_identical` meets its contract: each group is counted at its first entry, and its others are skipped.
use mathlib.Core.Path.{◌≡◌}
use Prim.Native.Nat.{ℕ, ◌≤◌, ◌<◌}
use Rattle.base.specs.Below.{greatest_below}
use Rattle.base.specs.Marks.{marked}
use Rattle.votes.specs.Holder.{lowest_below}
use Rattle.votes.specs.Identical.{same_said, has_enough, occurrences_in}
use Rattle.votes.proofs.IdenticalLaws.{left_at, sym_said, trans_said}
use Rattle.votes.proofs.identical.count_identical.Given as goal

abbrev pub invariant-loop-r : goal.invariant-loop-r
invariant-loop-r l =
    (l.r ≤ 7) × ((q : ℕ) → q < 7 → marked l.left q ≡ left_at (marked l.initial.left) (same_said l.entries) (sym_said l.entries) (trans_said l.entries) l.r q) × (l.first ≡ lowest_below l.r (has_enough l.entries l.initial.left l.enough)) × (l.most ≡ greatest_below l.r (occurrences_in l.entries l.initial.left))
