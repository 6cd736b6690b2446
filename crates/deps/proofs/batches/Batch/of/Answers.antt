-- `deps::batches::Batch::of` meets its contract: the no-op with one request more, computed.
use Rattle.deps.specs.Batches.{with_request}
use Rattle.deps.proofs.batches.Batch.of.Goals as goal

pub returns : goal.returns
unfolding with_request
returns c = c.with.ensures
