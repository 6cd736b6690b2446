-- The same as a rule that is followed component by component: the paper's order with its ties.
use Rattle.std.specs.Prelude.{◌≡◌, Bool, false, List, [], ◌∷◌, ◌++◌, ◌⊎◌, ℕ, ◌<◌, ◌≤◌, get_or, set}
use Rattle.leads.specs.Depends.{Leads}
use Rattle.order.specs.Listed.{On}

-- slot k is to be written, and it and slot j lead to each other
abbrev pub Mate : List ℕ → List Bool → ℕ → ℕ → Type 0
Mate deps todo j k = (On todo k) × (Leads deps j k) × (Leads deps k j)

-- slot j is to be written, and all slots to be written that its component leads to are in it
abbrev pub Ready : List ℕ → List Bool → ℕ → Type 0
Ready deps todo j = (On todo j) × ((k : ℕ) → On todo k → Leads deps j k → Leads deps k j)

-- of the ready components, slot j is in the one that holds the lowest slot
abbrev pub Lowest : List ℕ → List Bool → ℕ → Type 0
Lowest deps todo j = (Ready deps todo j) × ((i : ℕ) → i < j → Ready deps todo i → ⊥)

-- slot a is written before slot b of the same component, or is it: by sequence, then row and column
abbrev pub Before : List ℕ → ℕ → ℕ → Type 0
Before seq a b = (get_or seq a 0 < get_or seq b 0) ⊎ ((get_or seq a 0 ≡ get_or seq b 0) × (a ≤ b))

-- the slots of j's component that are to be written, by sequence, row and column
pub data Block (deps seq : List ℕ) (j : ℕ) : List Bool → List ℕ → Type 0 where
  over : {todo : List Bool} → ((k : ℕ) → Mate deps todo j k → ⊥) → Block deps seq j todo []
  then : {todo : List Bool} {B : List ℕ} (k : ℕ) → Mate deps todo j k → ((x : ℕ) → Mate deps todo j x → Before seq k x)
      → Block deps seq j (set todo k false) B → Block deps seq j todo (k ∷ B)

-- the marks without those of the list
abbrev pub without : List Bool → List ℕ → List Bool
without todo [] = todo
without todo (k ∷ B) = without (set todo k false) B

-- component after component
pub data Runs (deps seq : List ℕ) : List Bool → List ℕ → Type 0 where
  done : {todo : List Bool} → ((j : ℕ) → On todo j → ⊥) → Runs deps seq todo []
  next : {todo : List Bool} (j : ℕ) {B L : List ℕ} → Lowest deps todo j → Block deps seq j todo B
      → Runs deps seq (without todo B) L → Runs deps seq todo (B ++ L)
