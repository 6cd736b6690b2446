-- `deps::batches::Batch::with` meets its contract: one more request, or a full batch as it was.
use native.Mathlib.Numerals.{add-one}
use borrow.Author.Tests.{lt-ltb, le-ltb}
use Rattle.deps.specs.Batches.{with_request}
use Rattle.deps.proofs.batches.Batch.with.Goals as goal

pub returns-then-out-lt4 : goal.returns-then-out-lt4
unfolding with_request
returns-then-out-lt4 c = simp (lt-ltb _ _ c.if-out-lt4.true, add-one)

pub returns-else-out-lt4 : goal.returns-else-out-lt4
unfolding with_request
returns-else-out-lt4 c = simp (le-ltb _ _ c.if-out-lt4.false)
