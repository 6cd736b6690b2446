-- `recovering::recovery::Votes::such` meets its contract: each mark is made by the test at its replica.
use Rattle.std.proofs.Common.{rules}
use Rattle.votes.proofs.MadeLaws.{made_below}
use Rattle.recovering.specs.Recovery.{such_at, such_votes}
use Rattle.recovering.proofs.recovery.Votes.such.Goals as goal

pub returns : goal.returns
unfolding such_votes
returns c =
    let a = c.args in
    made_below _ (such_at a.row a.self.now.voted a.self.now.statuses) _ c.from_fn.result (λ i y q k. search rules) 7 c.from_fn.ensures.items
