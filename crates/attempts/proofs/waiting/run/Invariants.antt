-- `attempts::waiting::run` meets its contract: the marked slots up to i are Executed so far.
use mathlib.Core.Path.{◌≡◌}
use lib.ListN.{length}
use Rattle.table.specs.Table.{with_slots}
use Rattle.attempts.proofs.FillLaws.{ran_to}
use Rattle.attempts.proofs.waiting.run.Given as goal

abbrev pub invariant-loop-i : goal.invariant-loop-i
invariant-loop-i l = (e : length l.initial.out.slots ≡ 224) → l.out ≡ with_slots l.initial.out (ran_to l.initial.out l.fn.marks e l.i)
