-- `attempts::gather::seqs` meets its contract: each slot's sequence.
use borrow.Author.Rules.{rules}
use Rattle.table.specs.Table.{slot_no}
use Rattle.attempts.specs.Reads.{seqs_of}
use Rattle.attempts.proofs.FillLaws.{made_below}
use Rattle.attempts.proofs.gather.seqs.Goals as goal

pub returns : goal.returns
unfolding seqs_of
returns c = made_below _ (λ i. (slot_no c.args.table i).seq) _ 0 (λ i y q k. search rules) 224 c.from_fn.result c.from_fn.ensures.items
