-- `attempts::attempt::attempt` meets its contract: refused, or tried from the first entry on.
use mathlib.Core.Path.{◌≡◌, sym, ◌∙◌}
use native.Mathlib.Omega.{arith}
use lib.ListN.{length}
use Rattle.attempts.specs.Refusal.{attempt_refusal}
use Rattle.attempts.proofs.RefusedLaws.{number_some, attempt_tried, attempt_refused, attempt_passed, attempt_room}
use Rattle.attempts.proofs.attempt.attempt.Goals as goal

pub returns-in-Err : goal.returns-in-Err
returns-in-Err c =
    let number = c.number-number.ensures ∙ c.in-Err.ensures in
    let e = attempt_refused c.args.table c.args.at c.args.order.now c.number-number.result number (omega (arith, c.number-number.ensures, number_some c.in-Err.refusal)) in
    record { result = c.without_run.ensures ∙ e.0; list = e.1 }

pub attempt_from-requires : goal.attempt_from-requires
attempt_from-requires c =
    let none : attempt_refusal c.args.table c.args.at (length c.args.order.now) ≡ 0 = sym c.in_default.ensures in
    let w = attempt_tried c.args.table c.args.at (length c.args.order.now) none in
    record { table_value = w.within; row_bound = w.row; col_bound = w.col; table_in_bounds = attempt_room c.args.table c.args.at c.args.order.now none }

pub returns : goal.returns
returns c =
    let e = attempt_passed c.args.table c.args.at c.args.order.now (sym c.in_default.ensures) in
    record { result = c.attempt_from.ensures.result ∙ e.0; list = c.attempt_from.ensures.list ∙ e.1 }
