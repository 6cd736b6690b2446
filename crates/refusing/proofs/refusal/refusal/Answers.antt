-- `refusing::refusal::refusal` meets its contract: each stage is reached when those before it let pass.
use Rattle.std.proofs.Common.{rules}
use Rattle.base.proofs.Tests.{passed, failed}
use Rattle.refusing.specs.Refusal.{deps_fit, batch_fit, sequence_fit, refusal_of}
use Rattle.refusing.proofs.refusal.refusal.Goals as goal

pub returns-then-not-fits : goal.returns-then-not-fits
unfolding refusal_of
returns-then-not-fits c = rw (failed c.fits.ensures c.if-not-fits.true)

pub returns-then-not-named : goal.returns-then-not-named
unfolding refusal_of
returns-then-not-named c = rw (passed c.fits.ensures c.if-not-fits.false, c.if-not-named.true)

pub returns-then-not-each : goal.returns-then-not-each
unfolding refusal_of
returns-then-not-each c =
    let d = c.each.ensures (deps_fit c.args.config.n) (λ r b l p. search rules) in
    rw (passed c.fits.ensures c.if-not-fits.false, c.if-not-named.false, failed d c.if-not-each.true)

pub returns-then-not-each-2 : goal.returns-then-not-each-2
unfolding refusal_of
returns-then-not-each-2 c =
    let d = c.each.ensures (deps_fit c.args.config.n) (λ r b l p. search rules) in
    let e = c.each-2.ensures batch_fit (λ r b l p. search rules) in
    rw (passed c.fits.ensures c.if-not-fits.false, c.if-not-named.false, passed d c.if-not-each.false, failed e c.if-not-each-2.true)

pub returns-then-not-each-3 : goal.returns-then-not-each-3
unfolding refusal_of
returns-then-not-each-3 c =
    let d = c.each.ensures (deps_fit c.args.config.n) (λ r b l p. search rules) in
    let e = c.each-2.ensures batch_fit (λ r b l p. search rules) in
    let f = c.each-3.ensures sequence_fit (λ r b l p. search rules) in
    rw (passed c.fits.ensures c.if-not-fits.false, c.if-not-named.false, passed d c.if-not-each.false, passed e c.if-not-each-2.false, failed f c.if-not-each-3.true)

pub returns : goal.returns
unfolding refusal_of
returns c =
    let d = c.each.ensures (deps_fit c.args.config.n) (λ r b l p. search rules) in
    let e = c.each-2.ensures batch_fit (λ r b l p. search rules) in
    let f = c.each-3.ensures sequence_fit (λ r b l p. search rules) in
    rw (passed c.fits.ensures c.if-not-fits.false, c.if-not-named.false, passed d c.if-not-each.false, passed e c.if-not-each-2.false, passed f c.if-not-each-3.false)
