-- `==` of `deps::batches::Batch` meets its contract: the count, and then `==` of the requests that both hold.
use mathlib.Core.Path.{◌≡◌, ◌∙◌}
use lib.ListN.{length}
use borrow.Author.Tests.{ne_eqb}
use borrow.Author.Rules.{rules}
use Rattle.base.proofs.Lists.{length_mapped}
use Rattle.deps.specs.Batches.{same_batch, same_request}
use Rattle.deps.proofs.BatchLaws.{present_same}
use Rattle.deps.proofs.batches.BatchPartialEq.eq.Goals as goal

pub returns-then-self-other : goal.returns-then-self-other
unfolding same_batch same_request
returns-then-self-other c =
    let a = c.args.self.now in
    let b = c.args.other.now in
    let la : length a.reqs ≡ 4 = search (rules, length_mapped) in
    let lb : length b.reqs ≡ 4 = search (rules, length_mapped) in
    rw (c.requests.ensures, c.requests-then-self-other.ensures) at c.eq.ensures
    ∙ present_same _ (λ x y. search rules) a b la lb c.if-self-other.true

pub returns-else-self-other : goal.returns-else-self-other
unfolding same_batch
returns-else-self-other c = simp (ne_eqb _ _ c.if-self-other.false)
