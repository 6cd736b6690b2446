-- `recovering::recovery::Votes::highest` meets its contract: the highest so far that has such a vote.
use mathlib.Core.Path.{◌≡◌, sym, ◌∙◌}
use Prim.Native.Nat.{◌+◌}
use native.Mathlib.Omega.{arith}
use borrow.Author.Rules.{rules}
use Rattle.votes.specs.Holder.{highest_below}
use Rattle.recovering.specs.Recovery.{vote_at, highest_vote}
use Rattle.votes.proofs.HolderLaws.{highest_none, highest_in, highest_out}
use Rattle.recovering.proofs.recovery.Votes.highest.Goals as goal
use Rattle.recovering.proofs.recovery.Votes.highest.Goals.{else-is_vote, then-is_vote}

pub loop-r-init : goal.loop-r-init
loop-r-init c = (search rules, highest_none _)

pub loop-r-preserved : goal.loop-r-preserved
loop-r-preserved c =
    let a = c.args in
    let p = vote_at a.wanted a.self.now.voted a.self.now.statuses in
    let i = c.loop-r.r in
    let inv = c.loop-r.invariant.1 in
    let e = c.is_vote.ensures in
    let f : c.if-is_vote.highest ≡ highest_below (i + 1) p =
    elim c.if-is_vote.branch [
      | then-is_vote t ↦ t.highest-is ∙ highest_in p i (sym e ∙ t.if-is_vote.true)
      | else-is_vote t ↦ t.highest-is ∙ highest_out p i _ (sym e ∙ t.if-is_vote.false) inv
    ] in
    (search rules, f)

pub returns : goal.returns
unfolding highest_vote
returns c =
    let e : c.loop-r.r ≡ 7 = omega arith in
    rw e at c.loop-r.invariant.1
