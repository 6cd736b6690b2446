-- What was logged: 1 PreAccepting, 2 Accepting, 3 Committed.
use Rattle.std.specs.Prelude.{Bool, cond, ◌&&◌, leb, eqb, ℕ, Result, Ok, Err}
use Rattle.base.specs.declared.log_status.LogStatus.{LogStatus}
use Rattle.base.specs.declared.log_status.LogStatus.TheVariants.{PreAccepting, Accepting, Committed}
use Rattle.base.specs.declared.refusals.Refusal.{Refusal}
use Rattle.base.specs.declared.refusals.Refusal.TheVariants.{Unreadable}

abbrev pub status_number : LogStatus → ℕ
status_number PreAccepting = 1
status_number Accepting = 2
status_number Committed = 3

-- a number that stands for a log status
abbrev pub is_status : ℕ → Bool
is_status number = leb 1 number && leb number 3

unfoldable pub status_of : ℕ → LogStatus
status_of number = cond (eqb number 1) PreAccepting (cond (eqb number 2) Accepting Committed)

-- the status of a number that stands for one; else refusal 10
abbrev pub status_from : ℕ → Result LogStatus Refusal
status_from number = cond (is_status number) (Ok (status_of number)) (Err Unreadable)
