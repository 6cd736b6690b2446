-- The lowest and the highest replica that pass a test, and who decides.
use mathlib.Core.Path.{◌≡◌, refl, ap, sym, ◌∙◌}
use mathlib.Core.List.{List}
use mathlib.Core.Bool.{Bool, true, false, cond, true≢false}
use mathlib.Core.Logic.{⊎_elim}
use Prim.Native.Nat.{ℕ, zero, suc, ◌+◌, ◌<◌}
use native.Mathlib.Nat.{eq-or-lt_of_le, le_of_suc-le-suc}
use native.Mathlib.Numerals.{add-one}
use native.Mathlib.Omega.{arith}
use Rattle.votes.specs.Contents.{said_by}
use Rattle.std.specs.Prelude.{Option, None, Some}
use Rattle.votes.specs.Holder.{first_of, lowest_below, highest_below, Inside, or_else}
use Rattle.votes.specs.declared.contents.Contents.{Contents}
use Rattle.votes.specs.declared.answer.Decision.{Decision}

-- ---- one turn of a search

pub lowest_none : (p : ℕ → Bool) → None ≡ lowest_below 0 p
unfolding lowest_below
lowest_none p = refl

pub lowest_in : (p : ℕ → Bool) (i : ℕ) (h : Option ℕ) → p i ≡ true → h ≡ lowest_below i p → first_of h i ≡ lowest_below (i + 1) p
unfolding lowest_below
lowest_in p i h t e = rw (add-one, t, e)

pub lowest_out : (p : ℕ → Bool) (i : ℕ) (h : Option ℕ) → p i ≡ false → h ≡ lowest_below i p → h ≡ lowest_below (i + 1) p
unfolding lowest_below
lowest_out p i h t e = rw (add-one, t, e)

pub highest_none : (p : ℕ → Bool) → None ≡ highest_below 0 p
unfolding highest_below
highest_none p = refl

pub highest_in : (p : ℕ → Bool) (i : ℕ) → p i ≡ true → Some i ≡ highest_below (i + 1) p
unfolding highest_below
highest_in p i t = rw (add-one, t)

pub highest_out : (p : ℕ → Bool) (i : ℕ) (h : Option ℕ) → p i ≡ false → h ≡ highest_below i p → h ≡ highest_below (i + 1) p
unfolding highest_below
highest_out p i h t e = rw (add-one, t, e)

-- ---- the lowest that passes: exactly when

pub record Lowest (n : ℕ) (p : ℕ → Bool) (k : ℕ) : Type 0 where
  pub below : k < n
  pub passes : p k ≡ true
  pub first : (j : ℕ) → j < k → p j ≡ false

pub lowest_nobody : (n : ℕ) (p : ℕ → Bool) → lowest_below n p ≡ None → (j : ℕ) → j < n → p j ≡ false
unfolding lowest_below
lowest_nobody zero p e j l = absurd (omega arith)
lowest_nobody (suc n) p e j l = go (λ f q. lowest_nobody n p f j q) (lowest_below n p) refl (p n) refl e
  where
    go : (lowest_below n p ≡ None → j < n → p j ≡ false) → (h : Option ℕ) → lowest_below n p ≡ h → (b : Bool) → p n ≡ b → cond b (first_of h n) h ≡ None → p j ≡ false
    go ih (Some m) f true t g = cc
    go ih (Some m) f false t g = cc
    go ih None f true t g = cc
    go ih None f false t g = ⊎_elim (λ (q : j ≡ n). rw q t) (λ (q : j < n). ih f q) (eq-or-lt_of_le (le_of_suc-le-suc l))

pub lowest_is : (n : ℕ) (p : ℕ → Bool) (k : ℕ) → lowest_below n p ≡ Some k → Lowest n p k
unfolding lowest_below
lowest_is zero p k e = cc
lowest_is (suc n) p k e = go (lowest_is n p k) (lowest_below n p) refl (p n) refl e
  where
    one_more : Lowest n p k → Lowest (suc n) p k
    one_more w = record { below = omega (arith, w.below); passes = w.passes; first = w.first }

    go : (lowest_below n p ≡ Some k → Lowest n p k) → (h : Option ℕ) → lowest_below n p ≡ h → (b : Bool) → p n ≡ b → cond b (first_of h n) h ≡ Some k → Lowest (suc n) p k
    go ih (Some m) f true t g = one_more (ih (f ∙ g))
    go ih (Some m) f false t g = one_more (ih (f ∙ g))
    go ih None f true t g = let q : n ≡ k = cc in record { below = omega (arith, q); passes = rw (← q) t; first = λ j l. lowest_nobody n p f j (omega (arith, q)) }
    go ih None f false t g = cc

-- neither is below the other
only : (m k : ℕ) → (m < k → ⊥) → (k < m → ⊥) → m ≡ k
only m k f g = omega arith

pub is_lowest : (n : ℕ) (p : ℕ → Bool) (k : ℕ) → Lowest n p k → lowest_below n p ≡ Some k
is_lowest n p k w = go (lowest_below n p) refl
  where
    go : (h : Option ℕ) → lowest_below n p ≡ h → lowest_below n p ≡ Some k
    go None e = absurd (true≢false (sym w.passes ∙ lowest_nobody n p e k w.below))
    go (Some m) e =
        let v = lowest_is n p m e in
        let f : (m < k → ⊥) = λ l. true≢false (sym v.passes ∙ w.first m l) in
        let g : (k < m → ⊥) = λ l. true≢false (sym w.passes ∙ v.first k l) in
        let q : m ≡ k = only m k f g in
        e ∙ ap Some q

pub all_fail_lowest : (n : ℕ) (p : ℕ → Bool) → ((j : ℕ) → j < n → p j ≡ false) → lowest_below n p ≡ None
all_fail_lowest n p h = go (lowest_below n p) refl
  where
    go : (x : Option ℕ) → lowest_below n p ≡ x → lowest_below n p ≡ None
    go None e = e
    go (Some m) e = let v = lowest_is n p m e in absurd (true≢false (sym v.passes ∙ h m v.below))

-- ---- the highest that passes: exactly when

pub record Highest (n : ℕ) (p : ℕ → Bool) (k : ℕ) : Type 0 where
  pub below : k < n
  pub passes : p k ≡ true
  pub last : (j : ℕ) → k < j → j < n → p j ≡ false

pub highest_nobody : (n : ℕ) (p : ℕ → Bool) → highest_below n p ≡ None → (j : ℕ) → j < n → p j ≡ false
unfolding highest_below
highest_nobody zero p e j l = absurd (omega arith)
highest_nobody (suc n) p e j l = go (λ f q. highest_nobody n p f j q) (p n) refl e
  where
    go : (highest_below n p ≡ None → j < n → p j ≡ false) → (b : Bool) → p n ≡ b → cond b (Some n) (highest_below n p) ≡ None → p j ≡ false
    go ih true t g = cc
    go ih false t g = ⊎_elim (λ (q : j ≡ n). rw q t) (λ (q : j < n). ih g q) (eq-or-lt_of_le (le_of_suc-le-suc l))

pub highest_is : (n : ℕ) (p : ℕ → Bool) (k : ℕ) → highest_below n p ≡ Some k → Highest n p k
unfolding highest_below
highest_is zero p k e = cc
highest_is (suc n) p k e = go (highest_is n p k) (p n) refl e
  where
    go : (highest_below n p ≡ Some k → Highest n p k) → (b : Bool) → p n ≡ b → cond b (Some n) (highest_below n p) ≡ Some k → Highest (suc n) p k
    go ih true t g = let q : n ≡ k = cc in record { below = omega (arith, q); passes = rw (← q) t; last = λ j l m. absurd (omega (arith, q, l, m)) }
    go ih false t g =
        let w = ih g in
        record {
          below = omega (arith, w.below);
          passes = w.passes;
          last = λ j l m. ⊎_elim (λ (q : j ≡ n). rw q t) (λ (q : j < n). w.last j l q) (eq-or-lt_of_le (le_of_suc-le-suc m));
        }

pub is_highest : (n : ℕ) (p : ℕ → Bool) (k : ℕ) → Highest n p k → highest_below n p ≡ Some k
is_highest n p k w = go (highest_below n p) refl
  where
    go : (h : Option ℕ) → highest_below n p ≡ h → highest_below n p ≡ Some k
    go None e = absurd (true≢false (sym w.passes ∙ highest_nobody n p e k w.below))
    go (Some m) e =
        let v = highest_is n p m e in
        let f : (m < k → ⊥) = λ l. true≢false (sym w.passes ∙ v.last k l w.below) in
        let g : (k < m → ⊥) = λ l. true≢false (sym v.passes ∙ w.last m l v.below) in
        e ∙ ap Some (only m k f g)

pub all_fail_highest : (n : ℕ) (p : ℕ → Bool) → ((j : ℕ) → j < n → p j ≡ false) → highest_below n p ≡ None
all_fail_highest n p h = go (highest_below n p) refl
  where
    go : (x : Option ℕ) → highest_below n p ≡ x → highest_below n p ≡ None
    go None e = e
    go (Some m) e = let v = highest_is n p m e in absurd (true≢false (sym v.passes ∙ h m v.below))

-- ---- who is found is one of the seven

pub lowest_inside : (p : ℕ → Bool) → Inside (lowest_below 7 p)
lowest_inside p = go (lowest_below 7 p) refl
  where
    go : (h : Option ℕ) → lowest_below 7 p ≡ h → Inside h
    go None e = tt
    go (Some k) e = (lowest_is 7 p k e).below

pub highest_inside : (p : ℕ → Bool) → Inside (highest_below 7 p)
highest_inside p = go (highest_below 7 p) refl
  where
    go : (h : Option ℕ) → highest_below 7 p ≡ h → Inside h
    go None e = tt
    go (Some k) e = (highest_is 7 p k e).below

-- what every decision of a holder and the next one have
pub or_else_has : (P : Decision → Type 0) (h : Option ℕ) (entries : List Contents) (decide : Contents → Decision) (next : Decision) → ((c : Contents) → P (decide c)) → P next → P (or_else h entries decide next)
or_else_has P None entries decide next f p = p
or_else_has P (Some r) entries decide next f p = f (said_by entries r)
