-- What a log event leaves of bars, row lengths, configuration and keys.
use mathlib.Core.Path.{◌≡◌, refl, ap, ◌∙◌}
use mathlib.Core.List.{List}
use mathlib.Core.Logic.{⊎_elim}
use mathlib.Core.Bool.{true, false}
use Prim.Native.Nat.{ℕ, ◌+◌, ◌*◌, ◌<◌, ◌≤◌}
use native.Mathlib.Omega.{arith}
use borrow.Author.Tests.{ltb-false, eq-eqb}
use lib.ListN.{length, get_or, set}
use lib.Seq.{get_or-set_same, get_or-set_other}
use Rattle.table.specs.Table.{len_of, bar_of, slot_no}
use Rattle.table.specs.declared.place.Place.{Place}
use Rattle.table.specs.declared.table.Table.{Table}
use Rattle.bounds.proofs.BoundLaws.{table_fits_each}
use Rattle.outcomes.specs.Outcome.{Handled, outcome_of}
use Rattle.outcomes.proofs.RefusalLaws.{Led, placed_row}
use Rattle.handlers.proofs.CaseLaws.{reply_cases, mark_cases}
use Rattle.logged.specs.Refusal.{logged_refusal}
use Rattle.logged.specs.Replies.{my_reply, own_reply}
use Rattle.rising.specs.Bars.{is_committed, risen_bar}
use Rattle.rising.specs.Attempts.{attempts_on}
use Rattle.rising.specs.Committed.{on_risen, rises, on_committed}
use Rattle.logged.specs.Logged.{logged_on, logged_of}
use Rattle.base.specs.declared.log_status.LogStatus.{LogStatus}
use Rattle.base.specs.declared.log_status.LogStatus.TheVariants.{Committed}
use Rattle.logged.proofs.RefusedLaws.{logged_logged, logged_cases, table_cases}
use Rattle.rising.proofs.BarLaws.{risen_at_least, risen_at_most, risen_over, OnlySlots, with_slots_lem, none_changed, committed_cases, risen_only_slots, set_either}

-- ---- an AcceptReply from myself

own_only_slots : (t : Table) (at : Place) (ballot : ℕ) → OnlySlots t (own_reply t at ballot).table
unfolding own_reply
own_only_slots t at ballot =
    reply_cases Says t (my_reply t at ballot)
    (λ _. none_changed t)
    (λ _ _. none_changed t)
    (λ _ _ _. mark_cases Says t at _ (λ _. with_slots_lem t _) (λ _. with_slots_lem t _))
  where
    Says : Handled → Type 0
    Says h = OnlySlots t (outcome_of t h).table

-- ---- a log event of any status, refused or not

module _ (t : Table) (at : Place) (status : LogStatus) where
  -- the bars after it are those of before; or it is Committed at the row's bar, which has risen
  pub data BarsAfter : List ℕ → Type 0 where
    stay : BarsAfter t.bars
    rise : status ≡ Committed → Led t at → at.col ≡ bar_of t at.row → bar_of t at.row < risen_bar t at.row → BarsAfter (set t.bars at.row (risen_bar t at.row))

  -- row lengths, configuration and keys stay
  pub record LoggedLeaves (u : Table) : Type 0 where
    pub config : u.config ≡ t.config
    pub lens : u.lens ≡ t.lens
    pub bars : BarsAfter u.bars
    pub keys : u.keys ≡ t.keys

  only_slots_leave : (u : Table) → OnlySlots t u → LoggedLeaves u
  only_slots_leave u w = record { config = w.config; lens = w.lens; bars = rw w.bars stay; keys = w.keys }

  committed_leaves : status ≡ Committed → Led t at → LoggedLeaves (on_committed t at).table
  unfolding attempts_on
  committed_leaves s led =
      committed_cases t at (λ a. LoggedLeaves a.table) (λ _. only_slots_leave t (none_changed t))
      (λ e l. let w = risen_only_slots t at in
      record { config = w.config; lens = w.lens; bars = rw w.bars (rise s led e l); keys = w.keys })

  pub logged_leaves : (entries : ℕ) → LoggedLeaves (logged_of t at status entries).outcome.table
  logged_leaves entries =
      table_cases t at entries status LoggedLeaves
      (only_slots_leave t (none_changed t))
      (λ _ _. only_slots_leave _ (own_only_slots t at _))
      committed_leaves

-- ---- the laws of the bars

module _ (t : Table) (at : Place) (status : LogStatus) (entries : ℕ) where
  abbrev after : Table
  after = (logged_of t at status entries).outcome.table

  bars_after : BarsAfter t at status after.bars
  bars_after = (logged_leaves t at status entries).bars

  -- a bar never falls
  pub bar_never_falls : (r : ℕ) → bar_of t r ≤ bar_of after r
  bar_never_falls r = go bars_after
    where
      go : {l : List ℕ} → BarsAfter t at status l → bar_of t r ≤ get_or l r 0
      go stay = omega arith
      go (rise s led e l) = ⊎_elim
          (λ same. omega arith)
          (λ w. omega (arith, w.1, ap (bar_of t) w.0))
          (set_either t.bars at.row (risen_bar t at.row) r)

  -- and rises only over slots that are in the table and Committed or run
  pub rises_only_over_committed : (r c : ℕ) → bar_of t r ≤ c → c < bar_of after r → (c < len_of t r) × (is_committed (slot_no t (32 * r + c)) ≡ true)
  rises_only_over_committed r c l m = go bars_after m
    where
      risen : Led t at → r ≡ at.row → c < risen_bar t at.row → (c < len_of t r) × (is_committed (slot_no t (32 * r + c)) ≡ true)
      risen led e k =
          let p = led.placed in
          let below : c < risen_bar t r = rw e k in
          let fits = (table_fits_each t p.within).bars_fit r (rw e (placed_row p)) in
          (omega (arith, risen_at_most t r fits), risen_over t r c l below)

      go : {b : List ℕ} → BarsAfter t at status b → c < get_or b r 0 → (c < len_of t r) × (is_committed (slot_no t (32 * r + c)) ≡ true)
      go stay k = absurd (omega arith)
      go (rise s led e u) k = ⊎_elim
          (λ same. absurd (omega arith))
          (λ w. risen led w.0 (omega (arith, w.1)))
          (set_either t.bars at.row (risen_bar t at.row) r)

  -- other rows keep theirs
  pub other_rows_no_bar : (r : ℕ) → (r ≡ at.row → ⊥) → bar_of after r ≡ bar_of t r
  other_rows_no_bar r n = go bars_after
    where
      go : {l : List ℕ} → BarsAfter t at status l → get_or l r 0 ≡ bar_of t r
      go stay = refl
      go (rise s led e l) = get_or-set_other t.bars at.row r (risen_bar t at.row) 0 n

  no_rise : (status ≡ Committed → at.col ≡ bar_of t at.row → ⊥) → after.bars ≡ t.bars
  no_rise n = go bars_after
    where
      go : {l : List ℕ} → BarsAfter t at status l → l ≡ t.bars
      go stay = refl
      go (rise s led e l) = absurd (n s e)

  -- at another column than the bar's all bars stay
  pub another_column_no_bar : (at.col ≡ bar_of t at.row → ⊥) → after.bars ≡ t.bars
  another_column_no_bar n = no_rise (λ _ e. n e)

  -- and so they do where another status than Committed is logged
  pub another_status_no_bar : (status ≡ Committed → ⊥) → after.bars ≡ t.bars
  another_status_no_bar n = no_rise (λ s _. n s)

-- a slot logged Committed at its row's bar raises it to the first slot that is absent or below Committed
pub rises_to_the_first : (t : Table) (at : Place) (entries : ℕ) → length t.bars ≡ 7 → logged_refusal t at entries ≡ 0 → at.col ≡ bar_of t at.row
    → bar_of (logged_of t at Committed entries).outcome.table at.row ≡ risen_bar t at.row
unfolding logged_on attempts_on
rises_to_the_first t at entries size e col =
    logged_cases t at entries Committed (λ r. bar_of r.outcome.table at.row ≡ risen_bar t at.row)
    (λ l. absurd (omega arith))
    (λ _. committed_cases t at (λ a. bar_of a.table at.row ≡ risen_bar t at.row) stays rose)
  where
    stays : rises t at ≡ false → bar_of t at.row ≡ risen_bar t at.row
    stays f =
        let no_more = ltb-false (bar_of t at.row) (risen_bar t at.row) (rw (eq-eqb at.col (bar_of t at.row) col) at f) in
        omega (arith, risen_at_least t at.row)

    rose : at.col ≡ bar_of t at.row → bar_of t at.row < risen_bar t at.row → bar_of (on_risen t at.row).table at.row ≡ risen_bar t at.row
    rose _ l =
        let row = placed_row (logged_logged t at entries e).1.placed in
        ap (λ (x : List ℕ). get_or x at.row 0) (risen_only_slots t at).bars ∙ get_or-set_same t.bars at.row (risen_bar t at.row) 0 (omega arith)
