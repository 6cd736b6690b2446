-- What the search promises: from some prefixes of the rows to larger ones.
use Rattle.std.specs.Prelude.{◌≡◌, List, ◌⊎◌, ℕ, suc, ◌+◌, ◌*◌, ◌/◌, ◌%◌, ◌≤◌, ◌<◌, length, get_or}
use Rattle.leads.specs.Depends.{number_in}
use Rattle.leads.specs.Frontier.{In, frontier}

-- no row of F is above G's
abbrev pub Within : List ℕ → List ℕ → Type 0
Within F G = (q : ℕ) → get_or F q 0 ≤ get_or G q 0

-- what slot j depends on is in the prefixes F
unfoldable pub ShutAt : List ℕ → List ℕ → ℕ → Type 0
ShutAt deps F j = (q : ℕ) → q < 7 → number_in deps j q ≤ get_or F q 0

-- what any slot in F depends on is in F
unfoldable pub Shut : List ℕ → List ℕ → Type 0
Shut deps F = (j : ℕ) → In F j → ShutAt deps F j

-- from F to G: as many rows; nothing is lost; G is in every shut set that F and the first k slots of row r are in; what a new slot depends on is in G
pub record Grown (deps : List ℕ) (r k : ℕ) (F G : List ℕ) : Type 0 where
  pub rows : length G ≡ length F
  pub kept : Within F G
  pub least : (C : List ℕ) → Shut deps C → Within F C → k ≤ get_or C r 0 → Within G C
  pub shut : (j : ℕ) → In G j → In F j ⊎ ShutAt deps G j

-- after a visit of the first k slots of row r
pub record Visited (deps : List ℕ) (r k : ℕ) (F G : List ℕ) : Type 0 where
  pub grown : Grown deps r k F G
  pub done : k ≤ get_or G r 0

-- after the rows of slot i
pub record Passed (deps : List ℕ) (i : ℕ) (F G : List ℕ) : Type 0 where
  pub grown : Grown deps (i / 32) (suc (i % 32)) F G
  pub done : ShutAt deps G i

-- a set from which the search for a slot of row r from column c on may start: shut, and no more than these slots lead to
pub record Start (deps : List ℕ) (r c : ℕ) (F : List ℕ) : Type 0 where
  pub shut : Shut deps F
  pub under : (d : ℕ) → c ≤ d → d < 32 → Within F (frontier deps (32 * r + d))
