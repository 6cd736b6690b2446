use Rattle.reading.proofs.LoopLaws.{BatchTo}
use Rattle.reading.proofs.batches.batch.Given as goal

abbrev pub invariant-loop : goal.invariant-loop
invariant-loop l = BatchTo l.count l.initial.cursor l.batch l.counter l.cursor
