-- `deps::sets::DepSet::union` meets its contract: each row is the greater of the two.
use mathlib.Core.Path.{◌≡◌, ap, sym, ◌∙◌}
use Prim.Native.Nat.{ℕ, max}
use native.Mathlib.Omega.{arith}
use lib.ListN.{length, get_or}
use lib.Seq.{ext_get_or}
use borrow.Author.Rules.{rules}
use Rattle.base.proofs.Chains.{made_at}
use Rattle.deps.specs.Sets.{union_of, set_of, greater_each}
use Rattle.deps.proofs.SetLaws.{length_greater, greater_at}
use Rattle.deps.proofs.sets.DepSet.union.Goals as goal

pub returns : goal.returns
unfolding union_of
returns c =
    let a = c.args.self.cols in
    let b = c.args.other.cols in
    let m = c.from_fn.ensures.items in
    let la : length a ≡ 7 = search rules in
    let lb : length b ≡ 7 = search rules in
    ap set_of (ext_get_or 0 c.from_fn.result (greater_each a b) (omega (arith, m.long, length_greater a b))
    (λ i h. made_at _ (λ (row : ℕ). max (get_or a row 0) (get_or b row 0)) _ (λ row y q k. search rules) 7 c.from_fn.result m i 0 (omega (arith, m.long)) ∙ sym (greater_at a b i)))
