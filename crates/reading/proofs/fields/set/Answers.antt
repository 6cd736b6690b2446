use Rattle.reading.proofs.LoopLaws.{row_read, row_refused, rows_read}
use Rattle.reading.proofs.fields.set.Goals as goal

pub loop-row-preserved : goal.loop-row-preserved
loop-row-preserved c =
    let l = c.loop-row in
    rw c.dependency.ensures (row_read c.args.n c.args.cursor.now l.set.cols l.row l.cursor c.number.new.self l.invariant c.loop-row-test.true c.in_ok-number.number c.in_ok-number.ensures)

pub returns-in_err-number : goal.returns-in_err-number
returns-in_err-number c =
    let l = c.loop-row in
    let r = c.from_residual-in_err-number in
    row_refused c.args.n c.args.cursor.now l.set.cols l.row l.cursor c.number.new.self l.invariant c.loop-row-test.true c.in_err-number.field-0.0 c.in_err-number.ensures r.result r.ensures.1

pub returns : goal.returns
returns c =
    let l = c.loop-row in
    rows_read c.args.n c.args.cursor.now l.set.cols l.row l.cursor l.cursor l.invariant c.loop-row-test.false
