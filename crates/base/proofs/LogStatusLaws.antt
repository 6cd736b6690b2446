-- Each log status has its number, and each of the numbers its status.
use mathlib.Core.Path.{◌≡◌, refl}
use mathlib.Core.Bool.{true}
use Prim.Native.Nat.{ℕ, zero, suc}
use native.Mathlib.Omega.{arith}
use borrow.Author.Tests.{leb-true}
use lib.Dec.{leb}
use Rattle.base.proofs.Loops.{both_true}
use Rattle.base.specs.LogStatus.{status_number, is_status, status_of}
use Rattle.base.specs.declared.log_status.LogStatus.{LogStatus}
use Rattle.base.specs.declared.log_status.LogStatus.TheVariants.{PreAccepting, Accepting, Committed}

pub number_back : (s : LogStatus) → (is_status (status_number s) ≡ true) × (status_of (status_number s) ≡ s)
unfolding status_of
number_back PreAccepting = (refl, refl)
number_back Accepting = (refl, refl)
number_back Committed = (refl, refl)

pub status_back : (k : ℕ) → is_status k ≡ true → status_number (status_of k) ≡ k
unfolding status_of
status_back zero e = let w = both_true (leb 1 zero) (leb zero 3) e in absurd (omega (arith, leb-true 1 zero w.0))
status_back (suc zero) e = refl
status_back (suc (suc zero)) e = refl
status_back (suc (suc (suc zero))) e = refl
status_back (suc (suc (suc (suc k)))) e = let w = both_true (leb 1 (suc (suc (suc (suc k))))) (leb (suc (suc (suc (suc k)))) 3) e in absurd (omega (arith, leb-true (suc (suc (suc (suc k)))) 3 w.1))
