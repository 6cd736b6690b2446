-- An attempt not refused, on a slot not yet run, runs it and all it leads to that has not run, or nothing; and nothing exactly when
-- one of these is not below its row's commit bar. So does each attempt of a Logged.
use mathlib.Core.Path.{◌≡◌, refl, ap, subst}
use mathlib.Core.List.{List, [], ◌∷◌, ◌++◌}
use mathlib.Core.Logic.{◌⊎◌, inl, inr, ⊎_elim, ◌↔◌}
use mathlib.Core.Bool.{true, false}
use Prim.Native.Nat.{ℕ, zero, suc, ◌/◌, ◌%◌, ◌<◌}
use borrow.Author.Tests.{ltb-true}
use lib.Dec.{ltb, eqb}
use lib.ListN.{replicate}
use Rattle.base.specs.declared.answer.Answer.TheVariants.{Done, NotYet}
use Rattle.base.specs.declared.log_status.LogStatus.TheVariants.{Committed}
use Rattle.base.proofs.Loops.{both_true}
use Rattle.bounds.specs.Bounds.{table_fits}
use Rattle.table.specs.Place.{index_of}
use Rattle.table.specs.Table.{bar_of}
use Rattle.table.specs.declared.place.Place.{Place}
use Rattle.table.specs.declared.table.Table.{Table}
use Rattle.outcomes.proofs.RefusalLaws.{placed_row}
use Rattle.leads.specs.Depends.{here}
use Rattle.order.specs.Listed.{Has}
use Rattle.order.proofs.ListLaws.{clash, split, has_none, has_or}
use Rattle.attempts.specs.Reads.{has_run}
use Rattle.attempts.specs.Refusal.{attempt_refusal}
use Rattle.attempts.specs.Attempt.{table_after, written, answer_of, attempt_on, attempt_or, attempt_of}
use Rattle.attempts.proofs.RefusedLaws.{attempt_tried}
use Rattle.attempts.proofs.AttemptLaws.{answer_cases, notyet_exactly, attempt_keeps}
use Rattle.rising.specs.Bars.{risen_bar}
use Rattle.rising.specs.Committed.{attempted_below, risen_table, rises}
use Rattle.rising.proofs.BarLaws.{attempt_only_slots}
use Rattle.rising.proofs.AttemptsLaws.{InRows}
use Rattle.rising.proofs.CommittedLaws.{risen_keeps}
use Rattle.logged.specs.Refusal.{logged_refusal}
use Rattle.logged.specs.Logged.{logged_or, logged_of}
use Rattle.logged.proofs.RefusedLaws.{logged_logged}
use Rattle.logged.proofs.WithinLaws.{risen_in_rows}
use Rattle.steps.specs.Calls.{log, try}
use Rattle.steps.specs.Step.{after, slots_run}
use Rattle.steps.proofs.KeepLaws.{Sized, same_sized}
use Rattle.copies.specs.Copies.{Ran, Awaits, RunsAll, RunsNothing, Blocked, AllOrNothing, NotRefused, NotRun, EachAllOrNothing}
use Rattle.copies.proofs.Moves.{Reached, Runs, alters, moves_one, reached_moves}
use Rattle.copies.proofs.AttemptMoves.{attempt_runs, attempt_moves}
use Rattle.copies.proofs.EventMoves.{rise_alters, tried_table}
use Rattle.copies.proofs.ListLaws.{tried_slots}

-- ---- a move that runs slots, as the claim says it

module _ (at : Place) {h : List ℕ} {t u : Table} {wrote : List ℕ} (r : Reached h t) (d : Runs t (index_of at) wrote u) where
  now_run : (i : ℕ) → Ran u i ↔ (Ran t i ⊎ Awaits t at i)
  now_run i = (
    λ x. ⊎_elim (λ m. inr (d.only i m)) (λ n. inl (rw (d.others i n) at x)) (has_or i wrote),
    ⊎_elim (λ x. rw (d.others i (λ m. clash (has_run t i) x (d.only i m).1)) x) (λ w. d.marked i (d.whole i w.0 w.1)),
  )

  runs_all : RunsAll t at wrote u
  runs_all = record { wrote = λ i. (d.only i, λ w. d.whole i w.0 w.1); once = d.once; then_run = now_run }

  -- the asked slot is among them, and all are below the bars
  runs_some : NotRun t at → RunsNothing t wrote u ↔ Blocked t at
  runs_some waits = (
    λ nothing. absurd (has_none (index_of at) (subst (Has (index_of at)) nothing.0 (d.whole (index_of at) (here refl) waits))),
    λ blocked. absurd (blocked.2 (d.ready blocked.0 blocked.1.0)),
  )

-- ---- an attempt on a table within its bounds

module _ {h : List ℕ} {t : Table} (r : Reached h t) (sized : Sized t) (fits : table_fits t ≡ true) (at : Place) (row : at.row < 7) (col : at.col < 32) where
  -- what has run is below its bar
  unrun : (i : ℕ) → (i % 32 < bar_of t (i / 32) → ⊥) → has_run t i ≡ false
  unrun i n = ⊎_elim (λ x. absurd (n (r.low i x))) (λ x. x) (split (has_run t i))

  module _ (waits : NotRun t at) where
    done : answer_of t at ≡ Done → AllOrNothing t at (written Done t at) (table_after Done t at)
    done e =
        let d = attempt_runs t at sized fits row col waits e in
        record { either = inl (runs_all at r d); nothing_exactly = runs_some at r d waits }

    notyet : answer_of t at ≡ NotYet → AllOrNothing t at (written NotYet t at) (table_after NotYet t at)
    notyet e =
        let b = (notyet_exactly t at fits row col waits).0 e in
        record { either = inr (refl, refl); nothing_exactly = (λ _. (b.0, (b.1, unrun b.0 b.2), b.2), λ _. (refl, refl)) }

    attempt_claim : AllOrNothing t at (written (answer_of t at) t at) (attempt_on t at).table
    unfolding attempt_on
    attempt_claim =
        answer_cases t at (λ a. answer_of t at ≡ a → AllOrNothing t at (written a t at) (table_after a t at))
        (λ x _. clash (has_run t (index_of at)) x waits)
        (λ _ _. done)
        (λ _ _. notyet)
        refl

each_claim : {h : List ℕ} {t : Table} → Reached h t → Sized t → table_fits t ≡ true → (places : List Place) → InRows places → EachAllOrNothing t places
each_claim r s f [] p = tt
each_claim {h = h} {t = t} r s f (at ∷ places) p =
    let only = attempt_only_slots t at in (
      attempt_claim r s f at p.0 p.1,
      each_claim {h = h ++ written (answer_of t at) t at} (reached_moves r (attempt_moves t at s f p.0 p.1))
          (same_sized t (attempt_on t at).table only.lens only.keys s) (attempt_keeps t at f p.0 p.1) places p.2,
    )

-- ---- the claims

-- a number that is none of 1, 2, ..
none : (n : ℕ) → ((k : ℕ) → n ≡ suc k → ⊥) → n ≡ 0
none zero f = refl
none (suc k) f = absurd (f k refl)

module _ {h : List ℕ} {t : Table} (r : Reached h t) (sized : Sized t) (at : Place) where
  -- an Attempt
  pub all_or_nothing : NotRefused t (try at) → NotRun t at → AllOrNothing t at (slots_run t (try at)) (after t (try at))
  unfolding attempt_of
  all_or_nothing taken waits =
      let e = none (attempt_refusal t at 224) (λ k f. taken (suc k) (ap (λ n. (attempt_or n t at).answer) f)) in
      let w = attempt_tried t at 224 e in
      rw (tried_slots t at (replicate 224 0) e, tried_table t at e) (attempt_claim r sized w.within at w.row w.col waits)

  -- the attempts of a Logged
  pub each_all_or_nothing : NotRefused t (log Committed at) → rises t at ≡ true → EachAllOrNothing (risen_table t at.row) (attempted_below t at.row)
  unfolding logged_of
  each_all_or_nothing taken risen =
      let e = none (logged_refusal t at 224) (λ k f. taken (suc k) (ap (λ n. (logged_or n Committed t at).outcome.answer) f)) in
      let led = (logged_logged t at 224 e).1.placed in
      let row = at.row in
      let rose = ltb-true (bar_of t row) (risen_bar t row) (both_true (eqb at.col (bar_of t row)) (ltb (bar_of t row) (risen_bar t row)) risen).1 in
      each_claim (reached_moves r (moves_one (alters (rise_alters t row)))) (record { rows = sized.rows; columns = sized.columns })
      (risen_keeps t row led.within (placed_row led)) (attempted_below t row) (risen_in_rows t row led.within (placed_row led) rose)
