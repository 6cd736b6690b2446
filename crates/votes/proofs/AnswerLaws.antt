-- A refusal stands before what is decided.
use mathlib.Core.Path.{◌≡◌, refl}
use mathlib.Core.Bool.{Bool, true, false}
use Prim.Native.Nat.{ℕ, zero, suc, ◌<◌}
use native.Mathlib.Omega.{arith}
use Rattle.base.specs.Refusals.{refusal_number}
use Rattle.base.specs.declared.refusals.Refusal.{Refusal}
use Rattle.base.specs.declared.refusals.Refusal.TheVariants.{OutsideBounds, NoReplica, NoColumn, BadDependency, BadBatch, OverLimit, NoSlot, ShortOrder, Cut, Unreadable, TooLong}
use Rattle.votes.specs.Answer.{unless_refused}
use Rattle.votes.specs.declared.answer.Decision.{Decision}
use Rattle.votes.specs.declared.answer.Decision.TheVariants.{Wait, Committed, Accepting, PreAccepting, Refused}

-- neither a wait nor a refusal
abbrev pub goes_on : Decision → Bool
goes_on Wait = false
goes_on (Committed c) = true
goes_on (Accepting c) = true
goes_on (PreAccepting c) = true
goes_on (Refused k) = false

-- ---- an answer is refused exactly with the number of the refusal, if what is decided never is

pub is_refused_lem : (k : ℕ) (d : Decision) → 0 < k → unless_refused k d ≡ Refused k
is_refused_lem zero d h = absurd (omega arith)
is_refused_lem (suc k) d h = refl

pub not_refused : (k : ℕ) (d : Decision) → k ≡ 0 → unless_refused k d ≡ d
not_refused k d e = rw e

pub refused_by : (k : ℕ) (d : Decision) (m : ℕ) → ((j : ℕ) → d ≡ Refused j → ⊥) → unless_refused k d ≡ Refused m → (0 < k) × (k ≡ m)
refused_by zero d m h e = absurd (h m e)
refused_by (suc k) d m h e = (omega arith, cc)

-- a refusal has a number, so it stands
pub refusal_stands : (refusal : Refusal) (d : Decision) → unless_refused (refusal_number refusal) d ≡ Refused (refusal_number refusal)
refusal_stands OutsideBounds d = refl
refusal_stands NoReplica d = refl
refusal_stands NoColumn d = refl
refusal_stands BadDependency d = refl
refusal_stands BadBatch d = refl
refusal_stands OverLimit d = refl
refusal_stands NoSlot d = refl
refusal_stands ShortOrder d = refl
refusal_stands Cut d = refl
refusal_stands Unreadable d = refl
refusal_stands TooLong d = refl
