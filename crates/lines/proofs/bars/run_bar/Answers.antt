-- From column 0 on, column by column.
use mathlib.Core.Path.{sym, ◌∙◌}
use native.Mathlib.Omega.{arith}
use Rattle.base.proofs.Tests.{passed, failed}
use Rattle.bounds.proofs.BoundLaws.{len_at_most}
use Rattle.lines.proofs.BarLaws.{run_begins, run_stops, run_goes, run_ends}
use Rattle.lines.proofs.bars.run_bar.Goals as goal

pub loop-col-init : goal.loop-col-init
loop-col-init c = run_begins c.args.table c.args.row

-- the row has at most 32 slots
pub overflow_add-row : goal.overflow_add-row
overflow_add-row c = omega (arith, len_at_most c.args.table c.requires.table_value c.args.row c.requires.row_bound)

pub offset_bounds-table-row-in-loop-col : goal.offset_bounds-table-row-in-loop-col
offset_bounds-table-row-in-loop-col c = omega (arith, len_at_most c.args.table c.requires.table_value c.args.row c.requires.row_bound)

pub bounds-table-row-in-loop-col : goal.bounds-table-row-in-loop-col
bounds-table-row-in-loop-col c = omega (arith, len_at_most c.args.table c.requires.table_value c.args.row c.requires.row_bound)

pub returns-then-not-has_run : goal.returns-then-not-has_run
returns-then-not-has_run c =
    let a = c.args in
    let o = c.loop-col in
    sym (o.invariant ∙ run_stops a.table a.row o.col (omega arith) (failed c.has_run.ensures c.if-not-has_run.true))

pub loop-col-preserved : goal.loop-col-preserved
loop-col-preserved c =
    let a = c.args in
    let o = c.loop-col in
    o.invariant ∙ run_goes a.table a.row o.col (omega arith) (passed c.has_run.ensures c.if-not-has_run.false)

pub returns : goal.returns
returns c =
    let a = c.args in
    let ends = run_ends a.table a.row c.loop-col.col (omega arith) in
    sym (c.loop-col.invariant ∙ ends ∙ omega arith)
