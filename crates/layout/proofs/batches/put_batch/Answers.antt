-- `layout::batches::put_batch` meets its contract: the count, and after it the requests passed so far are laid.
use mathlib.Core.Path.{◌≡◌, refl, ap, ◌∙◌}
use mathlib.Core.List.{[], ◌∷◌}
use Prim.Native.Nat.{◌+◌}
use native.Mathlib.Omega.{arith}
use lib.ListN.{length}
use Rattle.deps.specs.Batches.{request}
use Rattle.layout.specs.Numbers.{lay}
use Rattle.layout.specs.Each.{each_bytes}
use Rattle.layout.specs.Batches.{request_in, batch_bytes}
use Rattle.layout.proofs.Laying.{next, lay_same, lay_length}
use Rattle.layout.proofs.EachLaws.{lay_turn}
use Rattle.layout.proofs.BatchLaws.{request_length, four_length}
use Rattle.layout.proofs.batches.put_batch.Goals as goal

pub loop-i-init : goal.loop-i-init
unfolding each_bytes lay
loop-i-init c = (refl, refl)

pub loop-i-preserved : goal.loop-i-preserved
loop-i-preserved c =
    let a = c.args in
    let e = lay_turn (request_in a.b) 27 (λ k. request_length (request a.b k)) _ _ _ (a.at + 1) c.loop-i.i c.loop-i.invariant.1 c.put_request.ensures in
    (ap length e ∙ lay_length _ _ _, e)

pub returns : goal.returns
unfolding batch_bytes
returns c =
    let a = c.args in
    let e : c.loop-i.i ≡ 4 = omega arith in
    let f = rw e at c.loop-i.invariant.1 in
    let g = lay_same (λ n. n ∷ []) _ _ a.at c.put_byte.ensures c.byte.ensures in
    (next _ _ 108 (record { is = g; long = refl }) f (four_length a.b)).is
