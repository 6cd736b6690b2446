use mathlib.Core.Path.{sym, ◌∙◌}
use native.Mathlib.Omega.{arith}
use Rattle.base.specs.Refusals.{refusal_number}
use Rattle.groups.specs.Numbers.{read, stopped}
use Rattle.groups.proofs.StepLaws.{number_more, joins_stopped}
use Rattle.groups.proofs.ToldLaws.{refusal_some, handed_on}
use Rattle.groups.proofs.numbers.number_at.Goals as goal

pub returns-in_err-rest : goal.returns-in_err-rest
returns-in_err-rest c =
    let a = c.args in
    let e = c.in_err-rest.field-0.0 in
    rw (handed_on c.from_residual.result e c.from_residual.ensures.1)
    (sym (joins_stopped c.from-b.result (refusal_number e) (refusal_some e))
    ∙ number_more a.trace.now a.at c.from-b.result (omega arith) c.from-b.ensures c.if-b-lt128.false (stopped (refusal_number e)) c.in_err-rest.ensures)

pub returns : goal.returns
returns c =
    let a = c.args in
    let n = c.in_ok-rest.rest in
    c.with_group.ensures
    ∙ number_more a.trace.now a.at c.from-b.result (omega arith) c.from-b.ensures c.if-b-lt128.false (read n.value n.next) c.in_ok-rest.ensures
