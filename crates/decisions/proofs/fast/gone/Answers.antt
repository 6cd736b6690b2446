-- `decisions::fast::gone` meets its contract: what passes the filter is counted.
use mathlib.Core.Path.{refl, ◌∙◌}
use Rattle.std.proofs.Common.{rules}
use Rattle.std.proofs.lemmas.Iterator.{YieldsList-from_range}
use Rattle.std.proofs.lemmas.Iterator.Consumers.{YieldsList-at, YieldsList-from_filter, count_from_yields_List}
use Rattle.decisions.specs.Fast.{gone_at, gone_count}
use Rattle.decisions.proofs.CountLaws.{count_filter}
use Rattle.decisions.proofs.fast.gone.Goals as goal

pub returns : goal.returns
unfolding gone_count
returns c =
    let a = c.args in
    let test = gone_at a.own a.replied a.silent in
    count_from_yields_List c.filter.result c.count.result c.count.ensures.ran (YieldsList-from_filter _ test (YieldsList-at c.filter.ensures.source (YieldsList-from_range 0 7 7 refl refl)) c.filter.ensures.closure (λ x r q k. search rules))
    ∙ count_filter test 7
