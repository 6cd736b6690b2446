-- What is decided: what there is to go on with, and a refusal before it.
use Rattle.std.specs.Prelude.{ℕ, zero, suc, Option, None, Some}
use Rattle.votes.specs.declared.contents.Contents.{Contents}
use Rattle.votes.specs.declared.answer.Decision.{Decision}
use Rattle.votes.specs.declared.answer.Decision.TheVariants.{Wait, Committed, Accepting, PreAccepting, Refused}

-- nothing beside a wait or a refusal
abbrev pub goes_on_with : Decision → Option Contents
goes_on_with Wait = None
goes_on_with (Committed c) = Some c
goes_on_with (Accepting c) = Some c
goes_on_with (PreAccepting c) = Some c
goes_on_with (Refused number) = None

-- a refusal's number, of which 0 is none, before what is decided
abbrev pub unless_refused : ℕ → Decision → Decision
unless_refused zero d = d
unless_refused (suc k) d = Refused (suc k)
