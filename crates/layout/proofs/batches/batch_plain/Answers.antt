-- `layout::batches::batch_plain` meets its contract: every request is plain.
use Rattle.std.proofs.Common.{rules}
use mathlib.Core.Path.{◌≡◌, ap, ◌∙◌}
use Prim.Native.Nat.{◌+◌, ◌*◌}
use lib.ListN.{drop}
use Rattle.layout.specs.Batches.{request_plain, plain_at, batch_plain}
use Rattle.layout.proofs.BatchLaws.{request_place}
use Rattle.layout.proofs.RangeLaws.{all_over}
use Rattle.layout.proofs.batches.batch_plain.Goals as goal

pub returns : goal.returns
unfolding batch_plain
returns c =
    let a = c.args in
    all_over (plain_at (drop a.at a.s.now)) 4 _ _ _ c.all.ensures.ran
    (λ i b q h. (search rules, (let e : b ≡ request_plain (drop (a.at + 1 + 27 * i) a.s.now) = search rules in e ∙ ap request_plain (request_place a.s.now a.at i))))
