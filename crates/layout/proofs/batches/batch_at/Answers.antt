-- `layout::batches::batch_at` meets its contract: the count, and each request read at its place.
use Rattle.std.proofs.Common.{rules}
use Prim.Native.Nat.{◌+◌}
use Rattle.deps.specs.Batches.{no_request}
use Rattle.layout.specs.Batches.{request_at}
use Rattle.layout.proofs.EachLaws.{made_is}
use Rattle.layout.proofs.BatchLaws.{batch_is}
use Rattle.layout.proofs.batches.batch_at.Goals as goal

pub returns : goal.returns
returns c =
    let a = c.args in
    batch_is a.s.now a.at _ _ c.from.ensures (made_is _ request_at 27 (a.at + 1) a.s.now _ (λ i y q h. search rules) 4 _ no_request c.from_fn.ensures.items)
