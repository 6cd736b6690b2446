-- After each turn the number is that of the answer on the table as it was.
use mathlib.Core.Path.{◌≡◌}
use lib.ListN.{length}
use Rattle.base.specs.Answer.{number_of}
use Rattle.steps.specs.Calls.{call_of}
use Rattle.steps.specs.Step.{answer_to}
use Rattle.bench_values.proofs.values.again.Given as goal

abbrev pub invariant-loop : goal.invariant-loop
invariant-loop l = (length l.order ≡ 224) × (l.number ≡ number_of (answer_to l.table (call_of l.asked)))
