-- `votes::contents::Contents::join` meets its contract.
use Rattle.std.proofs.Common.{rules}
use Rattle.votes.specs.Contents.{join_of}
use Rattle.votes.proofs.contents.Contents.join.Goals as goal

pub returns : goal.returns
unfolding join_of
returns c = search rules
