-- `base::marks::fit` meets its contract: the chain tests each mark from n on.
use mathlib.Core.Path.{◌≡◌, ◌∙◌}
use mathlib.Core.Bool.{not}
use lib.ListN.{length}
use borrow.Author.Tests.{tests}
use borrow.Author.Rules.{rules}
use Rattle.std.proofs.lemmas.Iterator.{YieldsList-from_slice}
use Rattle.std.proofs.lemmas.Iterator.Adapters.{YieldsList-from_skip}
use Rattle.std.proofs.lemmas.Iterator.Search.{all_from_yields_List}
use Rattle.base.proofs.MarkLaws.{rest_unmarked}
use Rattle.base.proofs.marks.fit.Goals as goal

pub returns : goal.returns
returns c =
    let marks = c.args.marks in
    let n = c.args.n in
    let l : length marks ≡ 7 = search rules in
    all_from_yields_List not _ _ _ c.all.ensures.ran (YieldsList-from_skip n (YieldsList-from_slice marks (cc)) c.skip.ensures.count) (λ x b q k. search (rules, tests))
    ∙ rest_unmarked n marks l
