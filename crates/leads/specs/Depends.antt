-- What a slot depends on, and what it leads to. Slot i is the one of row i / 32 and column i % 32.
use Rattle.std.specs.Prelude.{◌≡◌, List, ℕ, suc, ◌+◌, ◌*◌, ◌/◌, ◌%◌, ◌≤◌, ◌<◌, get_or}

-- the dependency sets of all slots, seven numbers each: in each row 0 for nothing, c + 1 for column c
abbrev pub number_in : List ℕ → ℕ → ℕ → ℕ
number_in deps i row = get_or deps (7 * i + row) 0

-- every dependency is nothing or a column below 32
unfoldable pub Valid : List ℕ → Type 0
Valid deps = (k : ℕ) → get_or deps k 0 ≤ 32

-- a slot depends on each slot in its set and on its earlier neighbour in its row
pub data Depends (deps : List ℕ) (i j : ℕ) : Type 0 where
  named : j / 32 < 7 → number_in deps i (j / 32) ≡ suc (j % 32) → Depends deps i j
  earlier : i / 32 ≡ j / 32 → i % 32 ≡ suc (j % 32) → Depends deps i j

-- what a slot leads to: all reached so, itself among it
pub data Leads (deps : List ℕ) : ℕ → ℕ → Type 0 where
  here : {i j : ℕ} → i ≡ j → Leads deps i j
  step : {i j k : ℕ} → Depends deps i j → Leads deps j k → Leads deps i k
