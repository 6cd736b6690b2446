-- `rising::tails::attempt_tails` meets its contract: the rows so far, one after the other.
use Rattle.rising.specs.Committed.{tails_below}
use Rattle.rising.proofs.AttemptsLaws.{Written}
use Rattle.rising.proofs.tails.attempt_tails.Given as goal

abbrev pub invariant-loop-tail : goal.invariant-loop-tail
invariant-loop-tail l = Written l.initial.ran.table (tails_below l.initial.ran.table l.tail-index) l.initial.order l.from l.ran l.order
