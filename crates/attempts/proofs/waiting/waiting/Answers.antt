-- `attempts::waiting::waiting` meets its contract: each slot that is reached and has not run.
use mathlib.Core.Bool.{false}
use borrow.Author.Rules.{rules}
use Rattle.attempts.specs.Attempt.{is_waiting, waiting_in}
use Rattle.attempts.proofs.FillLaws.{made_below}
use Rattle.attempts.proofs.waiting.waiting.Goals as goal

pub returns : goal.returns
unfolding waiting_in
returns c = made_below _ (is_waiting c.args.table c.args.reached.cols) _ false (λ i y q k. search rules) 224 c.from_fn.result c.from_fn.ensures.items
