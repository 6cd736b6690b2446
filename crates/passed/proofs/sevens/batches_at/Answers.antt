-- `passed::sevens::batches_at` meets its contract: each batch is read at its place.
use Rattle.std.proofs.Common.{rules}
use Rattle.deps.specs.Batches.{no_op}
use Rattle.layout.specs.Batches.{batch_at}
use Rattle.layout.proofs.EachLaws.{made_is}
use Rattle.passed.specs.Sevens.{batches_at}
use Rattle.passed.proofs.sevens.batches_at.Goals as goal

pub returns : goal.returns
unfolding batches_at
returns c = made_is _ batch_at 109 c.args.at c.args.s.now _ (λ i y q h. search rules) 7 _ no_op c.from_fn.ensures.items
