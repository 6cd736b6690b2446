-- `image::rows::put_keys` meets its contract: the keys passed so far are laid.
use mathlib.Core.Path.{◌≡◌, refl, ap, ◌∙◌}
use mathlib.Core.List.{List, []}
use Prim.Native.Nat.{ℕ, ◌+◌, ◌*◌}
use native.Mathlib.Omega.{arith}
use lib.ListN.{length, get_or, replicate}
use Rattle.base.proofs.Lists.{inside}
use Rattle.deps.specs.Sets.{set_of}
use Rattle.deps.specs.declared.sets.DepSet.{DepSet}
use Rattle.keys.specs.Columns.{keys_of, columns_of}
use Rattle.layout.specs.Numbers.{lay}
use Rattle.layout.specs.Each.{each_bytes}
use Rattle.octets.specs.Sets.{set_bytes}
use Rattle.layout.proofs.Laying.{lay_length}
use Rattle.layout.proofs.EachLaws.{lay_turn}
use Rattle.octets.proofs.SetLaws.{set_length}
use Rattle.image.specs.Tables.{columns_in, keys_bytes}
use borrow.Author.Rules.{rules}
use Rattle.image.proofs.rows.put_keys.Goals as goal

pub loop-key-init : goal.loop-key-init
unfolding each_bytes lay
loop-key-init c = (refl, refl)

pub loop-key-preserved : goal.loop-key-preserved
loop-key-preserved c =
    let a = c.args in
    let k = keys_of c.rows.result in
    let n : length k.cols ≡ 256 = search rules in
    let d : set_of (get_or k.cols c.loop-key.key []) ≡ columns_of k c.loop-key.key = ap set_of (inside k.cols c.loop-key.key [] (replicate 7 0) (omega arith)) in
    let f = c.put_set.ensures ∙ ap (λ (x : DepSet). lay c.loop-key.out (a.at + 7 * c.loop-key.key) (set_bytes x)) d in
    let e = lay_turn (columns_in k) 7 (λ key. set_length (columns_of k key)) _ _ _ a.at c.loop-key.key c.loop-key.invariant.1 f in
    (ap length e ∙ lay_length _ _ _, e)

pub returns : goal.returns
unfolding keys_bytes
returns c =
    let a = c.args in
    let e : c.loop-key.key ≡ 256 = omega arith in
    rw e at c.loop-key.invariant.1 ∙ ap (λ (l : List (List ℕ)). lay a.out.now a.at (each_bytes (columns_in (keys_of l)) 256)) c.rows.ensures
