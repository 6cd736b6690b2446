-- `attempts::waiting::is_below_bars` meets its contract: the chain tests each row.
use mathlib.Core.Path.{refl, ◌∙◌}
use borrow.Author.Rules.{rules}
use borrow.Author.Tests.{tests}
use Rattle.std.proofs.lemmas.Iterator.{YieldsList-from_range}
use Rattle.std.proofs.lemmas.Iterator.Search.{all_from_yields_List}
use Rattle.attempts.specs.Attempt.{row_below_bar, all_below_bars}
use Rattle.attempts.proofs.FillLaws.{all_ranged}
use Rattle.attempts.proofs.waiting.is_below_bars.Goals as goal

pub returns : goal.returns
unfolding all_below_bars
returns c =
    let test = row_below_bar c.args.table c.args.reached.cols in
    all_from_yields_List test _ _ _ c.all.ensures.ran (YieldsList-from_range 0 7 7 refl refl) (λ x b q k. search (rules, tests)) ∙ all_ranged test 7
