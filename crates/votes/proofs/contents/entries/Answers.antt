-- `votes::contents::entries` meets its contract.
use Rattle.std.proofs.Common.{rules}
use Rattle.votes.specs.Contents.{entry_of, entries_of}
use Rattle.votes.proofs.MadeLaws.{made_below}
use Rattle.votes.proofs.contents.entries.Goals as goal

pub returns : goal.returns
unfolding entries_of
returns c =
    let a = c.args in
    made_below _ (entry_of a.seqs a.deps a.batches) _ c.from_fn.result (λ i y q k. search rules) 7 c.from_fn.ensures.items
