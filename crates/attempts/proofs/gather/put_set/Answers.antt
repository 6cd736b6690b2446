-- `attempts::gather::put_set` meets its contract: the set's numbers are copied into its place.
use mathlib.Core.Path.{◌≡◌, sym, ◌∙◌}
use Prim.Native.Nat.{◌+◌, ◌*◌, ◌-◌}
use native.Mathlib.Omega.{arith}
use lib.ListN.{length}
use lib.Seq.{ext_get_or}
use borrow.Author.Rules.{rules}
use Rattle.base.specs.Below.{list_below}
use Rattle.base.proofs.Loops.{length_below, below_at_lem}
use Rattle.deps.specs.Sets.{number}
use Rattle.attempts.proofs.FillLaws.{part_sets}
use Rattle.attempts.proofs.gather.put_set.Goals as goal

pub returns : goal.returns
returns c =
    let a = c.args in
    let seven : length a.deps.cols ≡ 7 = search rules in
    let long = length_below 7 (number a.deps) in
    let each : a.deps.cols ≡ list_below 7 (number a.deps) = ext_get_or 0 a.deps.cols (list_below 7 (number a.deps)) (seven ∙ sym long) (λ i lt. sym (below_at_lem 7 (number a.deps) i 0 (omega arith))) in
    part_sets a.out.now c.copy_from_slice.new.self (list_below 7 (number a.deps)) (7 * a.i) (7 * a.i + 7 - 7 * a.i) (c.copy_from_slice.ensures.after ∙ each) (omega (arith, long)) (omega arith)
