-- `deps::sets::DepSet::same` meets its contract: `==` of the columns and the test of each row say the same.
use mathlib.Core.Path.{◌∙◌}
use borrow.Author.Rules.{rules}
use Rattle.deps.proofs.SetLaws.{same_pointwise}
use Rattle.deps.proofs.sets.DepSet.same.Goals as goal

pub returns : goal.returns
returns c =
    let a = c.args in
    c.eq.ensures ∙ same_pointwise a.self a.other (search rules) (search rules)
