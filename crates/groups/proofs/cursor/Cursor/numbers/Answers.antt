use Rattle.groups.proofs.ToldLaws.{read_one, one_refused, all_read}
use Rattle.groups.proofs.cursor.Cursor.numbers.Goals as goal

pub loop-value-preserved : goal.loop-value-preserved
loop-value-preserved g c =
    let l = c.loop-value in
    read_one g.row.N c.args.self.now l.value-items l.value-index l.self c.number.new.self l.invariant c.loop-value-test.true c.in_ok-value.field-0 c.in_ok-value.ensures

pub returns-in_err-value : goal.returns-in_err-value
returns-in_err-value g c =
    let l = c.loop-value in
    one_refused g.row.N c.args.self.now l.value-items l.value-index l.self c.number.new.self l.invariant c.loop-value-test.true c.in_err-value.field-0.0 c.in_err-value.ensures c.from_residual-in_err-value.result c.from_residual-in_err-value.ensures.1

pub returns : goal.returns
returns g c =
    let l = c.loop-value in
    all_read g.row.N c.args.self.now l.value-items l.value-index l.self l.self l.invariant c.loop-value-test.false
