-- A log event is refused exactly when the table of refusals says so, and then leaves everything as it was; else it is Done.
use mathlib.Core.Path.{◌≡◌, refl, ap, sym, ◌∙◌, subst}
use mathlib.Core.List.{List, []}
use mathlib.Core.Logic.{◌↔◌}
use mathlib.Core.Bool.{Bool, true, false, cond, true≢false}
use Prim.Native.Nat.{ℕ, zero, suc, ◌<◌, ◌≤◌}
use native.Mathlib.Omega.{arith}
use borrow.Author.Tests.{le-leb, lt-leb, leb-true, leb-false}
use lib.Dec.{leb}
use lib.ListN.{length}
use Rattle.base.specs.Answer.{number_of, is_refused}
use Rattle.base.specs.Refusals.{first_refusal, short_order}
use Rattle.base.specs.declared.answer.Answer.TheVariants.{Done, Refused}
use Rattle.table.specs.Table.{slot_of}
use Rattle.table.specs.declared.place.Place.{Place}
use Rattle.table.specs.declared.table.Table.{Table}
use Rattle.outcomes.specs.Output.{output_of}
use Rattle.outcomes.specs.Outcome.{refused, outcome, outcome_of}
use Rattle.outcomes.specs.Refusal.{lead_refusal}
use Rattle.outcomes.specs.declared.output.What.TheVariants.{AcceptReply}
use Rattle.outcomes.specs.declared.output.Record.{Record}
use Rattle.outcomes.specs.declared.outcome.Outcome.{Outcome}
use Rattle.outcomes.proofs.RefusalLaws.{Led, lead_led}
use Rattle.handlers.proofs.RefusedLaws.{LeadRefused, some_lead, lead_number}
use Rattle.logged.specs.Refusal.{logged_refusal}
use Rattle.logged.specs.Replies.{to_source, pre_accepting_out, own_reply, on_accepting}
use Rattle.rising.specs.Committed.{on_committed}
use Rattle.logged.specs.Logged.{outcome_on, logged_on, order_on, logged_or, order_or, logged_of, logged_order}
use Rattle.base.specs.declared.log_status.LogStatus.{LogStatus}
use Rattle.base.specs.declared.log_status.LogStatus.TheVariants.{PreAccepting, Accepting, Committed}
use Rattle.logged.specs.declared.logged.LogOutcome.{LogOutcome}

-- when each number is given, in the order of the refusals: 8, then those of a slot that has to be in the table
pub data LoggedRefused (t : Table) (at : Place) (entries : ℕ) : ℕ → Type 0 where
  short_order_lem : entries < 224 → LoggedRefused t at entries short_order
  by_slot : {k : ℕ} → 224 ≤ entries → LeadRefused t at k → LoggedRefused t at entries k

module _ (t : Table) (at : Place) (entries : ℕ) where
  -- ---- the list first, then the slot

  pub short_first : entries < 224 → logged_refusal t at entries ≡ short_order
  unfolding logged_refusal first_refusal
  short_first l = rw (lt-leb 224 entries l)

  pub then_slot : 224 ≤ entries → logged_refusal t at entries ≡ lead_refusal t at
  unfolding logged_refusal lead_refusal first_refusal
  then_slot l = rw (le-leb 224 entries l)

  list_cases : {A : Type 0} → (entries < 224 → A) → (224 ≤ entries → A) → A
  list_cases {A} short enough = go (leb 224 entries) refl
    where
      go : (b : Bool) → leb 224 entries ≡ b → A
      go true e = enough (leb-true 224 entries e)
      go false e = short (leb-false 224 entries e)

  -- what is known of an event that is not refused
  pub logged_logged : logged_refusal t at entries ≡ 0 → (224 ≤ entries) × Led t at
  logged_logged e =
      list_cases
      (λ l. absurd (omega (arith, short_first l)))
      (λ l. (l, lead_led t at (sym (then_slot l) ∙ e)))

  some_refusal : 0 < logged_refusal t at entries → LoggedRefused t at entries (logged_refusal t at entries)
  some_refusal p =
      list_cases
      (λ l. rw (short_first l) (short_order_lem l))
      (λ l. rw (then_slot l) (by_slot l (some_lead t at (omega (arith, then_slot l)))))

  refusal_number : {k : ℕ} → LoggedRefused t at entries k → (logged_refusal t at entries ≡ k) × (0 < k)
  refusal_number (short_order_lem l) = (short_first l, omega arith)
  refusal_number (by_slot l r) = let n = lead_number t at r in (then_slot l ∙ n.0, n.1)

  module _ (status : LogStatus) where
    -- ---- refused, or the event

    pub logged_cases : (P : LogOutcome → Type 0)
        → (0 < logged_refusal t at entries → P (record { outcome = outcome_of t (refused (logged_refusal t at entries)); ran = 0 }))
        → (logged_refusal t at entries ≡ 0 → P (logged_on status t at))
        → P (logged_of t at status entries)
    unfolding logged_of
    logged_cases P number event = go (logged_refusal t at entries) refl
      where
        go : (n : ℕ) → logged_refusal t at entries ≡ n → P (logged_or (logged_refusal t at entries) status t at)
        go zero e = rw e (event e)
        go (suc k) e = rw e (rw e at number (omega arith))

    -- the event: the table as it was and some records, an AcceptReply from myself, or a slot logged Committed
    event_cases : (P : Outcome → Type 0)
        → ((records : List Record) → P (outcome Done t records))
        → (status ≡ Accepting → P (own_reply t at (slot_of t at).ballot))
        → (status ≡ Committed → P (outcome Done (on_committed t at).table []))
        → P (logged_on status t at).outcome
    unfolding logged_on on_accepting
    event_cases P same reply committed = on status refl
      where
        accepting : (l : List Record) → status ≡ Accepting → (b : Bool) → P (cond b (own_reply t at (slot_of t at).ballot) (outcome Done t l))
        accepting l e true = reply e
        accepting l e false = same l

        on : (s : LogStatus) → status ≡ s → P (outcome_on s t at)
        on PreAccepting e = same (pre_accepting_out at (slot_of t at))
        on Accepting e = accepting (to_source (slot_of t at).source AcceptReply at (slot_of t at)) e (slot_of t at).led
        on Committed e = committed e

    -- the table after it, refused or not
    pub table_cases : (P : Table → Type 0)
        → P t
        → (status ≡ Accepting → Led t at → P (own_reply t at (slot_of t at).ballot).table)
        → (status ≡ Committed → Led t at → P (on_committed t at).table)
        → P (logged_of t at status entries).outcome.table
    table_cases P same reply committed =
        logged_cases (λ r. P r.outcome.table)
        (λ _. same)
        (λ e. let led = (logged_logged e).1 in
        event_cases (λ o. P o.table) (λ _. same) (λ s. reply s led) (λ s. committed s led))

    -- ---- refused exactly when

    event_done : (logged_on status t at).outcome.answer ≡ Done
    unfolding own_reply
    event_done = event_cases (λ o. o.answer ≡ Done) (λ _. refl) (λ _. refl) (λ _. refl)

    pub logged_exactly : (k : ℕ) → ((logged_of t at status entries).outcome.answer ≡ Refused k) ↔ LoggedRefused t at entries k
    logged_exactly k = (
      logged_cases (λ r. r.outcome.answer ≡ Refused k → LoggedRefused t at entries k)
          (λ l q. subst (LoggedRefused t at entries) (ap number_of q) (some_refusal l))
          (λ _ q. absurd (true≢false (sym (ap is_refused q) ∙ ap is_refused event_done))),
      λ w. let n = refusal_number w in
          logged_cases (λ r. r.outcome.answer ≡ Refused k) (λ _. ap Refused n.0) (λ e. absurd (omega arith)),
    )

    -- and else Done
    pub logged_done : logged_refusal t at entries ≡ 0 → (logged_of t at status entries).outcome.answer ≡ Done
    logged_done e = logged_cases (λ r. r.outcome.answer ≡ Done) (λ l. absurd (omega arith)) (λ _. event_done)

    -- ---- one that is refused leaves table, output, number of slots run and order list

    pub refused_leaves : 0 < logged_refusal t at entries
        → ((logged_of t at status entries).outcome.table ≡ t) × ((logged_of t at status entries).outcome.output ≡ output_of []) × ((logged_of t at status entries).ran ≡ 0)
    refused_leaves l = logged_cases (λ r. (r.outcome.table ≡ t) × (r.outcome.output ≡ output_of []) × (r.ran ≡ 0)) (λ _. (refl, refl, refl)) (λ e. absurd (omega arith))

-- ---- the order list

module _ (t : Table) (at : Place) (status : LogStatus) (list : List ℕ) where
  pub order_cases : (P : List ℕ → Type 0)
      → (0 < logged_refusal t at (length list) → P list)
      → (logged_refusal t at (length list) ≡ 0 → P (order_on status t at list))
      → P (logged_order t at status list)
  unfolding logged_order
  order_cases P number event = go (logged_refusal t at (length list)) refl
    where
      go : (n : ℕ) → logged_refusal t at (length list) ≡ n → P (order_or (logged_refusal t at (length list)) status t at list)
      go zero e = rw e (event e)
      go (suc k) e = rw e (number (omega arith))

  pub refused_list : 0 < logged_refusal t at (length list) → logged_order t at status list ≡ list
  refused_list l = order_cases (λ r. r ≡ list) (λ _. refl) (λ e. absurd (omega arith))
