-- The number that a C function returns, of a decision.
use Rattle.std.specs.Prelude.{ℕ}
use Rattle.base.specs.Answer.{number_of}
use Rattle.base.specs.declared.answer.Answer.TheVariants.{Done}
use Rattle.votes.specs.declared.answer.Decision.{Decision}
use Rattle.votes.specs.declared.answer.Decision.TheVariants.{Wait, Committed, Accepting, PreAccepting, Refused}

-- as an entry's own answer has it
abbrev pub done : ℕ
done = number_of Done

unfoldable pub code_of : Decision → ℕ
code_of Wait = 104
code_of (Committed c) = 105
code_of (Accepting c) = 106
code_of (PreAccepting c) = 107
code_of (Refused number) = number
