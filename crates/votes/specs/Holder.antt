-- A replica or nobody: the lowest and the highest below a bound that pass a test.
use Rattle.std.specs.Prelude.{List, Bool, cond, ℕ, zero, suc, ◌<◌, Option, None, Some}
use Rattle.std.specs.Option.{option_or}
use Rattle.votes.specs.Contents.{said_by}
use Rattle.votes.specs.declared.contents.Contents.{Contents}
use Rattle.votes.specs.declared.answer.Decision.{Decision}

-- the holder, or where there is none the replica
abbrev pub first_of : Option ℕ → ℕ → Option ℕ
first_of h r = option_or h (Some r)

-- the lowest of 0, 1, .., n - 1 that passes
unfoldable pub lowest_below : ℕ → (ℕ → Bool) → Option ℕ
lowest_below zero test = None
lowest_below (suc n) test = cond (test n) (first_of (lowest_below n test) n) (lowest_below n test)

-- the highest
unfoldable pub highest_below : ℕ → (ℕ → Bool) → Option ℕ
highest_below zero test = None
highest_below (suc n) test = cond (test n) (Some n) (highest_below n test)

abbrev pub Inside : Option ℕ → Type 0
Inside None = Unit
Inside (Some r) = r < 7

-- what is decided with the holder's words; where there is none, the next
abbrev pub or_else : Option ℕ → List Contents → (Contents → Decision) → Decision → Decision
or_else None entries decide next = next
or_else (Some r) entries decide next = decide (said_by entries r)
