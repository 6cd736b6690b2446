-- Laws of the first refusal of a list of tests: where it is none, and where it is one test's own.
use mathlib.Core.Path.{◌≡◌, refl, sym, ◌∙◌}
use mathlib.Core.List.{List, [], ◌∷◌, ◌++◌}
use mathlib.Core.Bool.{Bool, true, false}
use Prim.Native.Nat.{ℕ, zero, suc, ◌<◌}
use native.Mathlib.Omega.{arith}
use Rattle.base.specs.Refusals.{first_refusal}

-- ---- what is said of every test

-- none has the number 0
abbrev pub Numbered : List (Bool × ℕ) → Type 0
Numbered [] = Unit
Numbered ((ok, number) ∷ rest) = (number ≡ 0 → ⊥) × Numbered rest

-- each of them passes
abbrev pub AllPass : List (Bool × ℕ) → Type 0
AllPass [] = Unit
AllPass ((ok, number) ∷ rest) = (ok ≡ true) × AllPass rest

-- ---- no refusal exactly when all pass

pub passed_first : (l : List (Bool × ℕ)) → AllPass l → first_refusal l ≡ 0
unfolding first_refusal
passed_first [] h = refl
passed_first ((ok, number) ∷ rest) h = rw h.0 (passed_first rest h.1)

pub first_passed : (l : List (Bool × ℕ)) → Numbered l → first_refusal l ≡ 0 → AllPass l
unfolding first_refusal
first_passed [] n e = tt
first_passed ((true, number) ∷ rest) n e = (refl, first_passed rest n.1 e)
first_passed ((false, number) ∷ rest) n e = absurd (n.0 e)

-- ---- one list of tests after another

pub first_append_refused : (a b : List (Bool × ℕ)) (k : ℕ) → first_refusal a ≡ suc k → first_refusal (a ++ b) ≡ suc k
unfolding first_refusal
first_append_refused [] b k e = absurd (omega arith)
first_append_refused ((true, number) ∷ rest) b k e = first_append_refused rest b k e
first_append_refused ((false, number) ∷ rest) b k e = e

pub passed_append : (a b : List (Bool × ℕ)) → AllPass a → first_refusal (a ++ b) ≡ first_refusal b
unfolding first_refusal
passed_append [] b h = refl
passed_append ((ok, number) ∷ rest) b h = rw h.0 (passed_append rest b h.1)

pub first_append_passed : (a b : List (Bool × ℕ)) → Numbered a → first_refusal a ≡ 0 → first_refusal (a ++ b) ≡ first_refusal b
first_append_passed a b n e = passed_append a b (first_passed a n e)

pub append_refused : (a b : List (Bool × ℕ)) (k : ℕ) → k ≡ first_refusal a → 0 < k → k ≡ first_refusal (a ++ b)
append_refused a b zero e l = absurd (omega arith)
append_refused a b (suc k) e l = sym (first_append_refused a b k (sym e))

-- ---- a test that fails after all before it pass

pub refused_exactly : (before after : List (Bool × ℕ)) (ok : Bool) (k : ℕ) → AllPass before → ok ≡ false → first_refusal (before ++ ((ok, k) ∷ after)) ≡ k
unfolding first_refusal
refused_exactly before after ok k h e = passed_append before ((ok, k) ∷ after) h ∙ rw e

-- ---- the first test that fails gives its number

-- said of each test's number, where it fails and those before it pass
abbrev pub ForFirst : (ℕ → Type 0) → List (Bool × ℕ) → Type 0
ForFirst P [] = Unit
ForFirst P ((ok, number) ∷ rest) = (ok ≡ false → P number) × (ok ≡ true → ForFirst P rest)

pub at_first : (P : ℕ → Type 0) (l : List (Bool × ℕ)) → ForFirst P l → 0 < first_refusal l → P (first_refusal l)
unfolding first_refusal
at_first P [] h l = absurd (omega arith)
at_first P ((true, number) ∷ rest) h l = at_first P rest (h.1 refl) l
at_first P ((false, number) ∷ rest) h l = h.0 refl
