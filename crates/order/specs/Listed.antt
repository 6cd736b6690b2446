-- Slots in marks and in lists.
use Rattle.std.specs.Prelude.{◌≡◌, Bool, true, false, List, [], ◌∷◌, ℕ, suc}
use Rattle.base.specs.Marks.{marked}

-- slot j is marked
abbrev pub On : List Bool → ℕ → Type 0
On todo j = marked todo j ≡ true

-- how many are marked
unfoldable pub how_many : List Bool → ℕ
how_many [] = 0
how_many (true ∷ todo) = suc (how_many todo)
how_many (false ∷ todo) = how_many todo

-- j is in the list
pub data Has (j : ℕ) : List ℕ → Type 0 where
  first : {k : ℕ} {L : List ℕ} → j ≡ k → Has j (k ∷ L)
  later : {k : ℕ} {L : List ℕ} → Has j L → Has j (k ∷ L)

-- no slot is in the list twice
pub data Once : List ℕ → Type 0 where
  none : Once []
  more : {k : ℕ} {L : List ℕ} → (Has k L → ⊥) → Once L → Once (k ∷ L)

-- i stands before j in the list
pub data Precedes (i j : ℕ) : List ℕ → Type 0 where
  now_then : {k : ℕ} {L : List ℕ} → i ≡ k → Has j L → Precedes i j (k ∷ L)
  both_later : {k : ℕ} {L : List ℕ} → Precedes i j L → Precedes i j (k ∷ L)
