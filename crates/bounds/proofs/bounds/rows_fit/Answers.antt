-- `bounds::bounds::rows_fit` meets its contract: the chain tests each row.
use mathlib.Core.Path.{◌≡◌, refl, ◌∙◌}
use Prim.Native.Nat.{◌+◌}
use native.Mathlib.Omega.{arith}
use lib.ListN.{get_or}
use borrow.Author.Rules.{rules}
use borrow.Author.Tests.{tests}
use Rattle.std.specs.List.{range_with_len}
use Rattle.std.proofs.lemmas.List.FromFn.{get_or-range_with_len}
use Rattle.std.proofs.lemmas.Iterator.{YieldsList-from_range}
use Rattle.std.proofs.lemmas.Iterator.Search.{all_from_yields_List}
use Rattle.base.proofs.Chains.{all_listed, all_same}
use Rattle.bounds.specs.Bounds.{row_at, rows_fit}
use Rattle.bounds.proofs.bounds.rows_fit.Goals as goal

pub returns : goal.returns
unfolding rows_fit
returns c =
    let a = c.args in
    let test = row_at a.n a.lens a.bars in
    all_from_yields_List test _ _ _ c.all.ensures.ran (YieldsList-from_range 0 7 7 refl refl) (λ x b q k. search (rules, tests))
    ∙ all_listed test (range_with_len 0 7) 0
    ∙ all_same (λ i. test (get_or (range_with_len 0 7) i 0)) test 7 (λ i l. let z : 0 + i ≡ i = omega arith in rw (get_or-range_with_len 0 7 i 0 l, z))
