use mathlib.Core.Path.{◌≡◌, sym, ◌∙◌}
use Prim.Native.Nat.{◌+◌, ◌-◌}
use native.Mathlib.Omega.{arith}
use Rattle.base.specs.Refusals.{refusal_number}
use Rattle.groups.specs.Numbers.{read, stopped}
use Rattle.groups.proofs.StepLaws.{later_tenth, later_last, later_more, joins_stopped}
use Rattle.groups.proofs.ToldLaws.{refusal_some, handed_on}
use Rattle.groups.proofs.numbers.+later_at.Goals as goal

pub returns-then-left-eq0 : goal.returns-then-left-eq0
returns-then-left-eq0 t c =
    let a = c.args in
    let k : a.at + 1 - 1 ≡ a.at = omega arith in
    rw c.if-left-eq0.true (rw k at c.last_group.ensures ∙ later_tenth a.trace.now a.at c.from-b.result (omega arith) c.from-b.ensures)

pub returns-then-b-lt128 : goal.returns-then-b-lt128
returns-then-b-lt128 t c =
    let a = c.args in
    let k : a.at + 1 - 1 ≡ a.at = omega arith in
    rw k at c.last_group-then-b-lt128.ensures
    ∙ later_last a.trace.now a.at c.from-b.result (omega arith) c.from-b.ensures a.left (omega arith) c.if-b-lt128.true

pub returns-in_err-rest : goal.returns-in_err-rest
returns-in_err-rest t c =
    let a = c.args in
    let e = c.in_err-rest.field-0.0 in
    rw (handed_on c.from_residual.result e c.from_residual.ensures.1)
    (sym (joins_stopped c.from-b.result (refusal_number e) (refusal_some e))
    ∙ later_more a.trace.now a.at c.from-b.result (omega arith) c.from-b.ensures a.left (omega arith) c.if-b-lt128.false (stopped (refusal_number e)) c.in_err-rest.ensures)

pub returns : goal.returns
returns t c =
    let a = c.args in
    let n = c.in_ok-rest.rest in
    c.with_group.ensures
    ∙ later_more a.trace.now a.at c.from-b.result (omega arith) c.from-b.ensures a.left (omega arith) c.if-b-lt128.false (read n.value n.next) c.in_ok-rest.ensures
