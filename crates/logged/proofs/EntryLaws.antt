-- The ways of the entry: refused, or done by what was logged.
use mathlib.Core.Path.{◌≡◌, refl, ◌∙◌}
use mathlib.Core.List.{List, []}
use mathlib.Core.Bool.{true, not}
use Prim.Native.Nat.{ℕ, zero, suc, ◌+◌, ◌≤◌, ◌<◌}
use native.Mathlib.Omega.{arith}
use lib.ListN.{length}
use lib.Seq.{sets}
use Rattle.base.specs.declared.answer.Answer.TheVariants.{Done}
use Rattle.base.proofs.Loops.{count_at_most}
use Rattle.bounds.specs.Bounds.{table_fits}
use Rattle.table.specs.declared.place.Place.{Place}
use Rattle.table.specs.declared.table.Table.{Table}
use Rattle.outcomes.specs.Outcome.{refused, outcome, outcome_of}
use Rattle.outcomes.specs.declared.outcome.Outcome.{Outcome}
use Rattle.outcomes.proofs.RefusalLaws.{Led, placed_row}
use Rattle.attempts.specs.Reads.{has_run}
use Rattle.attempts.specs.Attempt.{unrun}
use Rattle.logged.specs.Refusal.{logged_refusal}
use Rattle.rising.specs.Attempts.{ran_from}
use Rattle.rising.specs.Committed.{on_committed}
use Rattle.logged.specs.Logged.{none_run, outcome_on, reply_status, logged_on, order_on, logged_of, logged_order}
use Rattle.base.specs.declared.log_status.LogStatus.{LogStatus}
use Rattle.base.specs.declared.log_status.LogStatus.TheVariants.{Committed}
use Rattle.logged.specs.declared.logged.LogOutcome.{LogOutcome}
use Rattle.logged.specs.declared.replies.Reply.{Reply}
use Rattle.logged.specs.declared.replies.Reply.TheVariants.{PreAccept, Accept}
use Rattle.rising.specs.declared.tails.Ran.{Ran}
use Rattle.logged.proofs.RefusedLaws.{logged_logged}

module _ (t : Table) (at : Place) (status : LogStatus) (list : List ℕ) where
  -- what the entry gives back, and the list after it
  abbrev pub Meets : LogOutcome → List ℕ → Type 0
  Meets r after = (r ≡ logged_of t at status (length list)) × (after ≡ logged_order t at status list)

  pub entry_refused : (number : ℕ) → number ≡ logged_refusal t at (length list) → 0 < number → (o : Outcome) → o ≡ outcome_of t (refused number) → Meets (none_run o) list
  unfolding logged_of logged_order
  entry_refused zero e l o r = absurd (omega arith)
  entry_refused (suc k) e l o r = (rw (← e, r) refl, rw (← e) refl)

  module _ (none : logged_refusal t at (length list) ≡ 0) where
    passed : (r : LogOutcome) (after : List ℕ) → r ≡ logged_on status t at → after ≡ order_on status t at list → Meets r after
    unfolding logged_of logged_order
    passed r after e f = (e ∙ rw none refl, f ∙ rw none refl)

    pub entry_replied : (reply : Reply) → status ≡ reply_status reply → (o : Outcome) → o ≡ outcome_on (reply_status reply) t at → Meets (none_run o) list
    unfolding logged_on order_on
    entry_replied PreAccept s o e = passed (none_run o) list (rw (s, e) refl) (rw s refl)
    entry_replied Accept s o e = passed (none_run o) list (rw (s, e) refl) (rw s refl)

    pub entry_committed : status ≡ Committed → (ran : Ran) (o : Outcome) (after : List ℕ)
        → ran ≡ ran_from 0 (on_committed t at) → o ≡ outcome Done ran.table [] → after ≡ sets list 0 (on_committed t at).wrote
        → Meets (record { outcome = o; ran = ran.end }) after
    unfolding logged_on order_on
    entry_committed s ran o after r e f =
        let m : 0 + length (on_committed t at).wrote ≡ length (on_committed t at).wrote = omega arith in
        passed (record { outcome = o; ran = ran.end }) after (rw (s, e, r, m) refl) (f ∙ rw s refl)

    -- ---- what is known then

    led : Led t at
    led = (logged_logged t at (length list) none).1

    pub entry_fits : table_fits t ≡ true
    entry_fits = led.placed.within

    pub entry_row : at.row < 7
    entry_row = placed_row led.placed

    -- the list has room for all that has not run
    pub entry_room : unrun t ≤ length list
    unfolding unrun
    entry_room = omega (arith, (logged_logged t at (length list) none).0, count_at_most (λ i. not (has_run t i)) 224)
