-- `attempts::attempt::attempt_from` meets its contract: step by step.
use mathlib.Core.Path.{◌∙◌}
use Rattle.base.proofs.Tests.{passed, failed}
use Rattle.attempts.proofs.StepLaws.{step_already, step_notyet, step_start, step_room, step_done}
use Rattle.attempts.proofs.attempt.attempt_from.Goals as goal

pub returns-then-has_run : goal.returns-then-has_run
returns-then-has_run c =
    let e = step_already c.args.table c.args.at c.args.from c.args.order.now (passed c.has_run.ensures c.if-has_run.true) in
    record { result = c.without_run.ensures ∙ e.0; list = e.1 }

pub reach-reached-requires-clause-valid : goal.reach-reached-requires-clause-valid
reach-reached-requires-clause-valid c = (step_start c.args.table c.requires.table_value c.deps-deps.result c.deps-deps.ensures c.args.at.row c.args.at.col).0

pub reach-reached-requires-clause-start : goal.reach-reached-requires-clause-start
reach-reached-requires-clause-start c = (step_start c.args.table c.requires.table_value c.deps-deps.result c.deps-deps.ensures c.args.at.row c.args.at.col).1

pub returns-then-not-is_below_bars : goal.returns-then-not-is_below_bars
returns-then-not-is_below_bars c =
    let e = step_notyet c.args.table c.args.at c.args.from c.args.order.now (failed c.has_run.ensures c.if-has_run.false)
    c.deps-deps.result c.reach-reached.result.cols c.deps-deps.ensures c.reach-reached.ensures (failed c.is_below_bars.ensures c.if-not-is_below_bars.true) in
    record { result = c.without_run-then-not-is_below_bars.ensures ∙ e.0; list = e.1 }

pub write-end-requires-clause-valid : goal.write-end-requires-clause-valid
write-end-requires-clause-valid c = (step_start c.args.table c.requires.table_value c.deps-deps.result c.deps-deps.ensures c.args.at.row c.args.at.col).0

pub write-end-requires-clause-todo_in_bounds : goal.write-end-requires-clause-todo_in_bounds
write-end-requires-clause-todo_in_bounds c =
    step_room c.args.table c.args.at c.args.from c.args.order.now (failed c.has_run.ensures c.if-has_run.false)
    c.deps-deps.result c.reach-reached.result.cols c.deps-deps.ensures c.reach-reached.ensures
    c.seqs-seqs.result c.waiting-todo.result c.seqs-seqs.ensures c.waiting-todo.ensures _ c.requires.table_in_bounds

pub returns : goal.returns
returns c =
    let e = step_done c.args.table c.args.at c.args.from c.args.order.now (failed c.has_run.ensures c.if-has_run.false)
    c.deps-deps.result c.reach-reached.result.cols c.deps-deps.ensures c.reach-reached.ensures
    c.seqs-seqs.result c.waiting-todo.result c.seqs-seqs.ensures c.waiting-todo.ensures
    c.write-end.result c.run.result (passed c.is_below_bars.ensures c.if-not-is_below_bars.false) c.write-end.ensures.result c.run.ensures in
    record { result = e.0; list = c.write-end.ensures.list ∙ e.1 }
