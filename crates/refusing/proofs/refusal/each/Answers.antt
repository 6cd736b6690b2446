-- `refusing::refusal::each` meets its contract: every entry listed that was passed so far passes the test.
use mathlib.Core.Path.{◌≡◌, sym, ◌∙◌}
use mathlib.Core.Bool.{true, false}
use native.Mathlib.Omega.{arith}
use Rattle.base.proofs.Loops.{all_none, all_more, all_not}
use Rattle.refusing.specs.Refusal.{listed_fits, parts_fit}
use Rattle.refusing.proofs.refusal.each.Goals as goal
use Rattle.refusing.proofs.refusal.each.Goals.{else-listed-r-via-then-listed-r+else-not-fits, else-listed-r-via-else-listed-r}

pub loop-r-init : goal.loop-r-init
loop-r-init g c = λ test h. all_none _

pub returns-then-not-fits : goal.returns-then-not-fits
unfolding parts_fit
returns-then-not-fits g c = λ test h.
    let a = c.args in
    let i = c.loop-r.r in
    let f : listed_fits test a.listed a.entries i ≡ false = rw c.if-listed-r.true (sym (h i _ c.loop-r-test.true c.fits.ensures) ∙ c.if-not-fits.true) in
    sym (all_not (listed_fits test a.listed a.entries) 7 i c.loop-r-test.true f)

pub loop-r-preserved : goal.loop-r-preserved
loop-r-preserved g c = λ test h.
    let a = c.args in
    let i = c.loop-r.r in
    let f : listed_fits test a.listed a.entries i ≡ true =
    elim c.else-listed-r.branch [
      | else-listed-r-via-then-listed-r+else-not-fits t ↦ rw t.if-listed-r.true (sym (h i _ c.loop-r-test.true t.fits.ensures) ∙ t.if-not-fits.false)
      | else-listed-r-via-else-listed-r t ↦ rw t.if-listed-r.false
    ] in
    all_more _ _ (c.loop-r.invariant test h) f

pub returns : goal.returns
unfolding parts_fit
returns g c = λ test h.
    let e : c.loop-r.r ≡ 7 = omega arith in
    sym (rw e at (c.loop-r.invariant test h))
