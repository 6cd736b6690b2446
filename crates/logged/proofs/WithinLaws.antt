-- A log event keeps a table within the bounds.
use mathlib.Core.Path.{◌≡◌}
use mathlib.Core.Bool.{Bool, true, false, cond}
use mathlib.Core.List.{[]}
use Prim.Native.Nat.{ℕ, ◌-◌, ◌<◌}
use native.Mathlib.Omega.{arith}
use Rattle.bounds.specs.Bounds.{table_fits}
use Rattle.table.specs.Place.{place_of}
use Rattle.table.specs.Table.{bar_of}
use Rattle.table.specs.declared.place.Place.{Place}
use Rattle.table.specs.declared.table.Table.{Table}
use Rattle.bounds.proofs.BoundLaws.{table_fits_each}
use Rattle.outcomes.specs.Outcome.{refused}
use Rattle.outcomes.specs.declared.message.Message.{Message}
use Rattle.outcomes.proofs.RefusalLaws.{Heard, Led, placed_row}
use Rattle.handlers.specs.Replies.{accept_reply}
use Rattle.handlers.proofs.CaseLaws.{WhenRefused, slot_marked, reply_cases, mark_cases}
use Rattle.handlers.proofs.RefusedLaws.{heard_passed}
use Rattle.handlers.proofs.WithinLaws.{kept_outcome, reply_keeps}
use Rattle.attempts.specs.Attempt.{answer_of, attempt_on}
use Rattle.logged.specs.Replies.{my_reply, own_reply}
use Rattle.rising.specs.Bars.{risen_bar}
use Rattle.rising.specs.Attempts.{is_not_yet, attempts_on}
use Rattle.rising.specs.Committed.{tails_below, attempted_from, risen_table, attempted_below, on_risen}
use Rattle.logged.specs.Logged.{logged_of}
use Rattle.base.specs.declared.log_status.LogStatus.{LogStatus}
use Rattle.logged.proofs.RefusedLaws.{table_cases}
use Rattle.rising.proofs.BarLaws.{committed_cases}
use Rattle.rising.proofs.AttemptsLaws.{InRows, attempts_keep}
use Rattle.rising.proofs.TailLaws.{tails_in_rows}
use Rattle.rising.proofs.CommittedLaws.{tail_column, risen_keeps}

-- ---- an AcceptReply from myself

-- a message from myself about a slot in the table is not refused
pub own_reply_heard : (t : Table) (at : Place) (ballot : ℕ) → Led t at → Heard t (my_reply t at ballot)
own_reply_heard t at ballot led = record { placed = led.placed; peer = (table_fits_each t led.placed.within).config_fits.mine }

pub own_reply_taken : (t : Table) (at : Place) (ballot k : ℕ) → Led t at → accept_reply t (my_reply t at ballot) ≡ refused k → ⊥
own_reply_taken t at ballot k led e = rw e at says
  where
    m : Message
    m = my_reply t at ballot

    says : WhenRefused (λ _. ⊥) (accept_reply t m)
    says =
        reply_cases (WhenRefused (λ _. ⊥)) t m
        (λ l. omega (arith, heard_passed t m (own_reply_heard t at ballot led)))
        (λ _ _. tt)
        (λ _ _ _. mark_cases (WhenRefused (λ _. ⊥)) t at (slot_marked t m) (λ _. tt) (λ _. tt))

own_keeps : (t : Table) (at : Place) (ballot : ℕ) → table_fits t ≡ true → table_fits (own_reply t at ballot).table ≡ true
unfolding own_reply
own_keeps t at ballot h = kept_outcome t (accept_reply t (my_reply t at ballot)) (reply_keeps t (my_reply t at ballot)) h

-- ---- a slot logged Committed

attempted_in_rows : (t : Table) (tail : Place) → tail.row < 7 → tail.col < 32 → InRows (attempted_from t tail)
unfolding attempted_from
attempted_in_rows t tail l m = (l, m, go (is_not_yet (answer_of t tail)))
  where
    go : (b : Bool) → InRows (cond b [] (tails_below (attempt_on t tail).table 7))
    go true = tt
    go false = tails_in_rows (attempt_on t tail).table 7 (omega arith)

module _ (t : Table) (row : ℕ) (h : table_fits t ≡ true) (l : row < 7) (r : bar_of t row < risen_bar t row) where
  pub risen_in_rows : InRows (attempted_below t row)
  risen_in_rows = attempted_in_rows (risen_table t row) (place_of row (risen_bar t row - 1)) l (tail_column t row h l r)

  on_risen_keeps : table_fits (on_risen t row).table ≡ true
  unfolding on_risen
  on_risen_keeps = attempts_keep (risen_table t row) (attempted_below t row) (risen_keeps t row h l) risen_in_rows

-- ---- the event

pub logged_keeps : (t : Table) (at : Place) (status : LogStatus) (entries : ℕ) → table_fits t ≡ true → table_fits (logged_of t at status entries).outcome.table ≡ true
unfolding attempts_on
logged_keeps t at status entries h =
    table_cases t at entries status (λ u. table_fits u ≡ true) h
    (λ _ _. own_keeps t at _ h)
    (λ _ led. committed_cases t at (λ a. table_fits a.table ≡ true) (λ _. h) (λ _ r. on_risen_keeps t at.row h (placed_row led.placed) r))
