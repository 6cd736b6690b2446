-- What a call does, and the values that say so.
use Rattle.std.specs.Prelude.{List, [], ℕ, zero, suc}
use Rattle.base.specs.declared.answer.Answer.{Answer}
use Rattle.base.specs.declared.answer.Answer.TheVariants.{Done, Ignored, Refused}
use Rattle.table.specs.declared.table.Table.{Table}
use Rattle.outcomes.specs.Output.{output_of}
use Rattle.outcomes.specs.declared.output.Record.{Record}
use Rattle.outcomes.specs.declared.output.Output.{Output}
use Rattle.outcomes.specs.declared.outcome.Outcome.{Outcome}

-- a refusal has its number alone; what is ignored puts out nothing, and may have added null slots
pub data Handled : Type 0 where
  refused : ℕ → Handled
  ignored : Table → Handled
  done : Table → List Record → Handled

abbrev pub outcome : Answer → Table → List Record → Outcome
outcome answer table records = record { answer = answer; table = table; output = output_of records }

abbrev pub done_with : Table → Output → Outcome
done_with table output = record { answer = Done; table = table; output = output }

-- of a call on a table: one that is refused leaves it as it was
abbrev pub outcome_of : Table → Handled → Outcome
outcome_of t (refused number) = outcome (Refused number) t []
outcome_of t (ignored u) = outcome Ignored u []
outcome_of t (done u records) = outcome Done u records

-- a refusal's number, of which 0 is none, before what is done
abbrev pub unless_refused : ℕ → Handled → Handled
unless_refused zero h = h
unless_refused (suc k) h = refused (suc k)
