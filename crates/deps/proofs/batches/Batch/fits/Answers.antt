-- `deps::batches::Batch::fits` meets its contract: the chain tests each request that it holds.
use mathlib.Core.Path.{◌≡◌, ◌∙◌}
use native.Mathlib.Omega.{arith}
use lib.ListN.{length}
use borrow.Author.Tests.{tests, le-leb, lt-leb}
use borrow.Author.Rules.{rules}
use Rattle.std.proofs.lemmas.Iterator.{YieldsList-from_slice}
use Rattle.std.proofs.lemmas.Iterator.Search.{all_from_yields_List}
use Rattle.base.proofs.Lists.{length_mapped}
use Rattle.deps.specs.Batches.{present, kind_fits, batch_fits}
use Rattle.deps.specs.declared.batches.Request.{Request}
use Rattle.deps.proofs.BatchLaws.{present_fit}
use Rattle.deps.proofs.batches.Batch.fits.Goals as goal

pub returns-then-self-le4 : goal.returns-then-self-le4
unfolding batch_fits
returns-then-self-le4 c =
    let b = c.args.self in
    let l : length b.reqs ≡ 4 = search (rules, length_mapped) in
    all_from_yields_List (λ (q : Request). kind_fits q.kind) _ _ _ c.all.ensures.ran (YieldsList-from_slice (present b) (cc)) (λ x r q k. search (rules, tests))
    ∙ present_fit b (omega (arith, l)) ∙ simp (le-leb _ _ c.if-self-le4.true)

pub returns-else-self-le4 : goal.returns-else-self-le4
unfolding batch_fits
returns-else-self-le4 c = simp (lt-leb _ _ c.if-self-le4.false)
