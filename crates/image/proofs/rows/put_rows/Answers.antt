-- `image::rows::put_rows` meets its contract: the rows passed so far are laid.
use mathlib.Core.Path.{◌≡◌, refl, ap, ◌∙◌, sym}
use mathlib.Core.List.{[], ◌∷◌}
use Prim.Native.Nat.{ℕ}
use native.Mathlib.Omega.{arith}
use lib.ListN.{length}
use Rattle.layout.specs.Numbers.{lay}
use Rattle.layout.specs.Each.{each_bytes}
use Rattle.layout.proofs.Laying.{lay_length}
use Rattle.layout.proofs.EachLaws.{byte_turn}
use Rattle.image.specs.Tables.{row_in, rows_bytes}
use Rattle.image.proofs.rows.put_rows.Goals as goal

pub loop-i-init : goal.loop-i-init
unfolding each_bytes lay
loop-i-init c = (refl, refl)

pub loop-i-preserved : goal.loop-i-preserved
loop-i-preserved c =
    let a = c.args in
    let e = byte_turn (row_in a.rows) c.loop-i.out a.out.now a.at c.loop-i.i _ (λ k. refl) c.loop-i.invariant.1 (ap (λ (b : ℕ). b ∷ []) (sym c.byte.ensures)) in
    (ap length e ∙ lay_length _ _ _, e)

pub returns : goal.returns
unfolding rows_bytes
returns c =
    let e : c.loop-i.i ≡ 7 = omega arith in
    rw e at c.loop-i.invariant.1
