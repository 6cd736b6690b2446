-- A frontier: what a slot leads to is a prefix of every row, so seven numbers say it, how many slots of each row.
use Rattle.std.specs.Prelude.{Bool, cond, List, ℕ, zero, suc, ◌/◌, ◌%◌, ◌<◌, max, ltb, eqb, get_or}
use Rattle.base.specs.Below.{greatest_below, list_below}
use Rattle.leads.specs.Depends.{number_in}

-- slot j is in the prefixes F
abbrev pub In : List ℕ → ℕ → Type 0
In F j = j % 32 < get_or F (j / 32) 0

abbrev pub is_in : List ℕ → ℕ → Bool
is_in F j = ltb (j % 32) (get_or F (j / 32) 0)

-- what slot j asks for in a row, where it is in F
abbrev pub asked_by : List ℕ → List ℕ → ℕ → ℕ → ℕ
asked_by deps F row j = cond (is_in F j) (number_in deps j row) 0

-- each row of F raised to what the slots in F depend on
unfoldable pub raised : List ℕ → List ℕ → ℕ → ℕ
raised deps F row = max (get_or F row 0) (greatest_below 224 (asked_by deps F row))

unfoldable pub round : List ℕ → List ℕ → List ℕ
round deps F = list_below 7 (raised deps F)

unfoldable pub rounds : List ℕ → ℕ → List ℕ → List ℕ
rounds deps zero F = F
rounds deps (suc n) F = rounds deps n (round deps F)

-- slot i and those before it in its row
abbrev pub up_to : ℕ → ℕ → ℕ
up_to i row = cond (eqb row (i / 32)) (suc (i % 32)) 0

unfoldable pub first : ℕ → List ℕ
first i = list_below 7 (up_to i)

-- what slot i leads to: a round adds a slot or is the last, and there are 224 slots
unfoldable pub frontier : List ℕ → ℕ → List ℕ
frontier deps i = rounds deps 224 (first i)
