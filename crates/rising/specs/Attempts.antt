-- Attempts one after the other, each on the table that the one before leaves.
use Rattle.std.specs.Prelude.{List, [], ◌∷◌, ◌++◌, Bool, true, false, ℕ, ◌+◌, length}
use Rattle.base.specs.declared.answer.Answer.{Answer}
use Rattle.base.specs.declared.answer.Answer.TheVariants.{Done, Ignored, NotYet, Already, Refused}
use Rattle.table.specs.declared.place.Place.{Place}
use Rattle.table.specs.declared.table.Table.{Table}
use Rattle.attempts.specs.Attempt.{answer_of, written, attempt_on}
use Rattle.rising.specs.declared.tails.Ran.{Ran}

abbrev pub is_not_yet : Answer → Bool
is_not_yet Done = false
is_not_yet Ignored = false
is_not_yet NotYet = true
is_not_yet Already = false
is_not_yet (Refused number) = false

-- the table after them, and the slots run, in the order in which they ran
pub record Attempts : Type 0 where
  pub table : Table
  pub wrote : List ℕ

-- what one attempt has written, before what others write
abbrev pub before : List ℕ → Attempts → Attempts
before entries a = record { table = a.table; wrote = entries ++ a.wrote }

unfoldable pub attempts_on : Table → List Place → Attempts
attempts_on t [] = record { table = t; wrote = [] }
attempts_on t (at ∷ rest) = before (written (answer_of t at) t at) (attempts_on (attempt_on t at).table rest)

-- the table, and where the list goes on after a place
abbrev pub ran_from : ℕ → Attempts → Ran
ran_from from a = record { table = a.table; end = from + length a.wrote }
