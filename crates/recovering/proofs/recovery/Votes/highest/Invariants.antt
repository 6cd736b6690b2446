-- `recovering::recovery::Votes::highest` meets its contract: the highest so far that has such a vote.
use mathlib.Core.Path.{◌≡◌}
use Prim.Native.Nat.{◌≤◌}
use Rattle.votes.specs.Holder.{highest_below}
use Rattle.recovering.specs.Recovery.{vote_at}
use Rattle.recovering.proofs.recovery.Votes.highest.Given as goal

abbrev pub invariant-loop-r : goal.invariant-loop-r
invariant-loop-r l = (l.r ≤ 7) × (l.highest ≡ highest_below l.r (vote_at l.wanted l.self.voted l.self.statuses))
