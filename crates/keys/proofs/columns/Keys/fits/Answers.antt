-- `keys::columns::Keys::fits` meets its contract: the chain tests each key's columns.
use mathlib.Core.Path.{◌≡◌, ap, ◌∙◌}
use mathlib.Core.List.{List}
use Prim.Native.Nat.{ℕ}
use lib.ListN.{length, replicate}
use borrow.Author.Tests.{tests}
use borrow.Author.Rules.{rules}
use Rattle.std.proofs.lemmas.Iterator.{YieldsList-from_slice}
use Rattle.std.proofs.lemmas.Iterator.Search.{all_from_yields_List}
use Rattle.base.specs.Below.{all_below}
use Rattle.base.proofs.Chains.{all_listed}
use Rattle.deps.specs.Sets.{set_of, set_fits}
use Rattle.keys.specs.Columns.{key_fits, keys_fit}
use Rattle.keys.proofs.columns.Keys.fits.Goals as goal

pub returns : goal.returns
unfolding keys_fit
returns c =
    let a = c.args in
    let l : length a.self.cols ≡ 256 = search rules in
    all_from_yields_List (λ (cols : List ℕ). set_fits a.n (set_of cols)) _ _ _ c.all.ensures.ran (YieldsList-from_slice a.self.cols (cc)) (λ x b q k. search (rules, tests))
    ∙ all_listed (λ cols. set_fits a.n (set_of cols)) a.self.cols (replicate 7 0)
    ∙ ap (λ (n : ℕ). all_below n (key_fits a.n a.self)) l
