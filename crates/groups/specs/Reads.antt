-- From one place of a trace to another.
use Rattle.std.specs.Prelude.{◌≡◌, List, [], ◌∷◌, ◌++◌, length, drop, ℕ, ◌+◌, ◌<◌, ◌^◌}
use Rattle.groups.specs.Numbers.{Cursor}

-- from the one place to the other the trace has exactly these bytes, and nothing was refused
pub record Reads (s : List ℕ) (c : Cursor) (bytes : List ℕ) (d : Cursor) : Type 0 where
  pub starts : c.refusal ≡ 0
  pub ends : d.refusal ≡ 0
  pub place : d.at ≡ c.at + length bytes
  pub holds : drop c.at s ≡ bytes ++ drop d.at s

-- each is a number of 64 bits
abbrev pub Fit : List ℕ → Type 0
Fit [] = Unit
Fit (v ∷ l) = (v < 2 ^ 64) × Fit l
