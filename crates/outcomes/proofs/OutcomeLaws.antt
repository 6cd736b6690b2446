-- What a refusal's number makes of a call.
use mathlib.Core.Path.{◌≡◌, refl, ap, sym, ◌∙◌}
use Prim.Native.Nat.{ℕ, zero, suc, ◌<◌}
use native.Mathlib.Omega.{arith}
use Rattle.table.specs.declared.table.Table.{Table}
use Rattle.outcomes.specs.Outcome.{Handled, refused, outcome_of, unless_refused}

-- a number other than 0 is the answer, whatever else would be done
pub when_refused : (n : ℕ) (h : Handled) → 0 < n → unless_refused n h ≡ refused n
when_refused zero h l = absurd (omega arith)
when_refused (suc k) h l = refl

pub when_not : (n : ℕ) (h : Handled) → n ≡ 0 → unless_refused n h ≡ h
when_not n h e = rw e

-- the outcome, where the number was found to be k
pub is_refused_lem : (t : Table) (k n : ℕ) (h : Handled) → k ≡ n → 0 < k → outcome_of t (refused k) ≡ outcome_of t (unless_refused n h)
is_refused_lem t k n h e l = ap (outcome_of t) (sym (when_refused k h l) ∙ ap (λ (x : ℕ). unless_refused x h) e)
