use Rattle.reading.proofs.LoopLaws.{SetTo}
use Rattle.reading.proofs.fields.set.Given as goal

abbrev pub invariant-loop-row : goal.invariant-loop-row
invariant-loop-row l = SetTo l.fn.n l.initial.cursor l.set.cols l.row l.cursor
