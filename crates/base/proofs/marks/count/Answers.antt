-- `base::marks::count` meets its contract: the chain counts the marks.
use mathlib.Core.Path.{◌≡◌, ap, ◌∙◌}
use mathlib.Core.Bool.{Bool, false}
use Prim.Native.Nat.{ℕ}
use lib.ListN.{length}
use borrow.Author.Tests.{tests}
use borrow.Author.Rules.{rules}
use Rattle.std.proofs.lemmas.Iterator.{YieldsList-from_slice}
use Rattle.std.proofs.lemmas.Iterator.Consumers.{YieldsList-from_filter, count_from_yields_List}
use Rattle.base.specs.Below.{count_below}
use Rattle.base.specs.Marks.{marked, count_of}
use Rattle.base.proofs.Chains.{count_listed}
use Rattle.base.proofs.marks.count.Goals as goal

pub returns : goal.returns
unfolding count_of
returns c =
    let marks = c.args.marks in
    let l : length marks ≡ 7 = search rules in
    count_from_yields_List c.filter.result _ c.count.ensures.ran (YieldsList-from_filter _ (λ (mark : Bool). mark) (YieldsList-from_slice marks (cc)) c.filter.ensures.closure (λ x b q k. search (rules, tests)))
    ∙ count_listed (λ mark. mark) marks false
    ∙ ap (λ (n : ℕ). count_below n (marked marks)) l
