-- `rising::tails::attempt_tail` meets its contract: one attempt.
use mathlib.Core.Path.{ap}
use native.Mathlib.Omega.{arith}
use Rattle.attempts.specs.declared.attempt.Attempted.{Attempted}
use Rattle.attempts.proofs.AttemptLaws.{unrun_falls}
use Rattle.rising.proofs.AttemptsLaws.{attempt_written}
use Rattle.rising.proofs.tails.attempt_tail.Goals as goal

pub overflow_add-result : goal.overflow_add-result
overflow_add-result c =
    let falls = unrun_falls c.args.ran.table c.args.at c.requires.table_value c.requires.row_bound c.requires.col_bound in
    omega (arith, falls, ap (λ (r : Attempted). r.ran) c.attempt_from-tried.ensures.result)

pub returns : goal.returns
returns c =
    let f = c.attempt_from-tried in
    let w = attempt_written c.args.ran.table c.args.order.now c.args.ran.end c.args.at f.result f.new.order f.ensures.result f.ensures.list in
    record { result = w.ran_is; list = w.list_is }
