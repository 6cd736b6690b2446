-- `decisions::fast::decided` meets its contract: each test decides as the definition does, and what may still come is not negative.
use mathlib.Core.Path.{◌≡◌, ap, sym, ◌∙◌}
use native.Mathlib.Omega.{arith}
use Rattle.std.proofs.Common.{rules}
use Rattle.base.proofs.ConfigLaws.{config_fits_each}
use Rattle.votes.specs.Identical.{most_equals}
use Rattle.votes.specs.declared.answer.Decision.TheVariants.{Committed}
use Rattle.votes.proofs.IdenticalLaws.{most_at_most, found_inside}
use Rattle.decisions.proofs.FastLaws.{heard_at_most, fast_few, fast_avoided, fast_open, later_slow, later_wait, later}
use Rattle.decisions.proofs.fast.decided.Goals as goal
use Rattle.decisions.proofs.fast.decided.Goals.{else-identical-config, then-identical-config}

pub returns-then-acks-config : goal.returns-then-acks-config
returns-then-acks-config c =
    let a = c.args in
    sym (fast_few a.config a.avoided a.replied a.entries a.silent (omega (arith, c.count-acks.ensures)))

pub returns-then-avoided : goal.returns-then-avoided
returns-then-avoided c =
    let a = c.args in
    c.slow.ensures ∙ sym (fast_avoided a.config a.avoided a.replied a.entries a.silent (omega (arith, c.count-acks.ensures)) c.if-avoided.true)

pub overflow_sub-config : goal.overflow_sub-config
overflow_sub-config c =
    let a = c.args in
    let h = heard_at_most a.config.n a.config.own a.replied a.silent c.requires.replied_value c.requires.silent_value in
    omega (arith, h, c.gone-gone.ensures)

pub overflow_sub-config-2 : goal.overflow_sub-config-2
overflow_sub-config-2 c =
    let a = c.args in
    let h = heard_at_most a.config.n a.config.own a.replied a.silent c.requires.replied_value c.requires.silent_value in
    omega (arith, h, c.gone-gone.ensures, c.count-acks.ensures)

pub overflow_add-identical : goal.overflow_add-identical
overflow_add-identical c =
    let a = c.args in
    let w = config_fits_each a.config c.requires.config_value in
    let m = most_at_most a.entries a.replied in
    let e : c.count_identical-identical.result.most ≡ most_equals a.entries a.replied = ap (λ x. x.most) c.count_identical-identical.ensures in
    omega (arith, w.seven, m, e)

pub decides-requires-clause-inside : goal.decides-requires-clause-inside
decides-requires-clause-inside c =
    let a = c.args in
    found_inside a.entries a.replied _ _ c.count_identical-identical.ensures

pub returns : goal.returns
returns c =
    let a = c.args in
    let d = sym c.count-acks.ensures in
    let m = ap (λ x. x.most) c.count_identical-identical.ensures in
    let n : c.if-identical-config.otherwise ≡ later a.config a.avoided a.replied a.entries a.silent =
    elim c.if-identical-config.branch [
      | then-identical-config t ↦ t.otherwise-is ∙ t.slow-otherwise.ensures ∙ sym (later_slow a.config a.avoided a.replied a.entries a.silent (rw (← m, ← c.gone-gone.ensures, d) t.if-identical-config.true))
      | else-identical-config t ↦ t.otherwise-is ∙ sym (later_wait a.config a.avoided a.replied a.entries a.silent (rw (← m, ← c.gone-gone.ensures, d) t.if-identical-config.false))
    ] in
    c.decides.ensures Committed (λ w d p. search rules)
    ∙ rw (n, ap (λ x. x.first) c.count_identical-identical.ensures) (sym (fast_open a.config a.avoided a.replied a.entries a.silent (omega (arith, d)) c.if-avoided.false))
