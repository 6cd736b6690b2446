-- `deps::sets::DepSet::fits` meets its contract: the chain tests each row.
use mathlib.Core.Path.{◌≡◌, ap, ◌∙◌}
use Prim.Native.Nat.{ℕ}
use lib.ListN.{length}
use borrow.Author.Tests.{tests}
use borrow.Author.Rules.{rules}
use Rattle.std.proofs.lemmas.Iterator.{YieldsList-from_slice}
use Rattle.std.proofs.lemmas.Iterator.Consumers.{YieldsList-from_enumerate}
use Rattle.std.proofs.lemmas.Iterator.Search.{all_from_yields_List}
use Rattle.base.specs.Below.{all_below}
use Rattle.base.proofs.Chains.{all_numbered}
use Rattle.deps.specs.Sets.{dep_of, dep_fits, row_fits, set_fits}
use Rattle.deps.proofs.sets.DepSet.fits.Goals as goal

pub returns : goal.returns
unfolding set_fits
returns c =
    let a = c.args in
    let l : length a.self.cols ≡ 7 = search rules in
    all_from_yields_List (λ (p : ℕ × ℕ). dep_fits a.n p.0 (dep_of p.1)) _ _ _ c.all.ensures.ran (YieldsList-from_enumerate (YieldsList-from_slice a.self.cols (cc)) (cc)) (λ x b q k. search (rules, tests))
    ∙ all_numbered (λ row number. dep_fits a.n row (dep_of number)) a.self.cols 0
    ∙ ap (λ (n : ℕ). all_below n (row_fits a.n a.self)) l
