-- The order in which slots run, as the paper says it (SOSP 2013, section 4.3), and the ties that it leaves open.
-- todo marks the slots to be written. Paths go through run slots too.
use Rattle.std.specs.Prelude.{◌≡◌, Bool, List, ℕ, ◌<◌, get_or}
use Rattle.leads.specs.Depends.{Leads}
use Rattle.order.specs.Listed.{On, Has, Once, Precedes}

-- two slots are in one component when each leads to the other
abbrev pub Mates : List ℕ → ℕ → ℕ → Type 0
Mates deps i j = Leads deps i j × Leads deps j i

abbrev pub Lower : List ℕ → ℕ → ℕ → Type 0
Lower seq i j = get_or seq i 0 < get_or seq j 0

-- what is written is what is to be written, each slot once; a component stands together, after all that it leads to, and
-- inside it slots stand by sequence
pub record Paper (deps seq : List ℕ) (todo : List Bool) (L : List ℕ) : Type 0 where
  pub only : (k : ℕ) → Has k L → On todo k
  pub all : (k : ℕ) → On todo k → Has k L
  pub once : Once L
  pub together : (i j k : ℕ) → Mates deps i k → Precedes i j L → Precedes j k L → Mates deps i j
  pub after : (i j : ℕ) → On todo i → On todo j → Leads deps i j → (Leads deps j i → ⊥) → Precedes j i L
  pub inside : (i j : ℕ) → On todo i → On todo j → Mates deps i j → Lower seq i j → Precedes i j L

-- all others that slot j's component leads to stand before slot i's
abbrev pub ReadyAt : List ℕ → List Bool → List ℕ → ℕ → ℕ → Type 0
ReadyAt deps todo L i j = (k : ℕ) → On todo k → Leads deps j k → (Leads deps k j → ⊥) → Precedes k i L × (Mates deps i k → ⊥)

-- slot i's component holds a slot that is lower than all of slot j's
pub record Beneath (deps : List ℕ) (todo : List Bool) (i j : ℕ) : Type 0 where
  pub slot : ℕ
  pub on : On todo slot
  pub mate : Mates deps i slot
  pub lowest : (k : ℕ) → On todo k → Mates deps j k → slot < k

-- of the components that are ready, the one that holds the lowest (row, column) is next; equal sequences stand by row and column
pub record Ties (deps seq : List ℕ) (todo : List Bool) (L : List ℕ) : Type 0 where
  pub next : (i j : ℕ) → Precedes i j L → (Mates deps i j → ⊥) → ReadyAt deps todo L i j → Beneath deps todo i j
  pub equal : (i j : ℕ) → On todo i → On todo j → Mates deps i j → get_or seq i 0 ≡ get_or seq j 0 → i < j → Precedes i j L
