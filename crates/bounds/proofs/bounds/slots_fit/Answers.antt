-- `bounds::bounds::slots_fit` meets its contract: every slot so far that the table holds fits.
use Rattle.base.proofs.Loops.{all_none, all_more, all_not}
use Rattle.base.proofs.Tests.{passed, failed}
use Rattle.bounds.specs.Bounds.{held_fits, slots_fit}
use mathlib.Core.Path.{◌≡◌, sym}
use mathlib.Core.Bool.{true, false}
use native.Mathlib.Omega.{arith}
use borrow.Author.Tests.{lt-ltb, le-ltb}
use borrow.Author.Rules.{rules}
use Rattle.bounds.proofs.bounds.slots_fit.Goals as goal
use Rattle.bounds.proofs.bounds.slots_fit.Goals.{else-i-lens-via-else-i-lens, else-i-lens-via-then-i-lens+else-not-slot_fits}

pub loop-i-init : goal.loop-i-init
loop-i-init g c = (search rules, all_none _)

pub returns-then-not-slot_fits : goal.returns-then-not-slot_fits
unfolding slots_fit
returns-then-not-slot_fits g c =
    let t = g.S.Shown.table c.args.shown.now in
    let fits = failed c.slot_fits.ensures c.if-not-slot_fits.true in
    let f : held_fits t c.loop-i.i ≡ false = rw (← c.lens-lens.ensures, lt-ltb _ _ c.if-i-lens.true) (rw c.config-config.ensures at fits) in
    sym (all_not (held_fits t) 224 c.loop-i.i c.loop-i-test.true f)

pub loop-i-preserved : goal.loop-i-preserved
loop-i-preserved g c =
    let t = g.S.Shown.table c.args.shown.now in
    let f : held_fits t c.loop-i.i ≡ true =
    elim c.else-i-lens.branch [
      | else-i-lens-via-then-i-lens+else-not-slot_fits w ↦
          let fits = passed w.slot_fits.ensures w.if-not-slot_fits.false in
          rw (← c.lens-lens.ensures, lt-ltb _ _ w.if-i-lens.true) (rw c.config-config.ensures at fits)
      | else-i-lens-via-else-i-lens w ↦ rw (← c.lens-lens.ensures, le-ltb _ _ w.if-i-lens.false)
    ] in
    (search rules, all_more _ _ c.loop-i.invariant.1 f)

pub returns : goal.returns
unfolding slots_fit
returns g c =
    let e : c.loop-i.i ≡ 224 = omega arith in
    sym (rw e at c.loop-i.invariant.1)
