-- What a call answers.
use Rattle.std.specs.Prelude.{Bool, true, false, ℕ}
use Rattle.base.specs.declared.answer.Answer.{Answer}
use Rattle.base.specs.declared.answer.Answer.TheVariants.{Done, Ignored, NotYet, Already, Refused}

-- by number: a refusal's own, and from 100 on the others
abbrev pub number_of : Answer → ℕ
number_of Done = 100
number_of Ignored = 101
number_of NotYet = 102
number_of Already = 103
number_of (Refused number) = number

-- a refusal changes nothing
abbrev pub is_refused : Answer → Bool
is_refused Done = false
is_refused Ignored = false
is_refused NotYet = false
is_refused Already = false
is_refused (Refused number) = true
