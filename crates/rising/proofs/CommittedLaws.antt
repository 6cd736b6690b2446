-- A slot logged Committed, step by step.
use mathlib.Core.Path.{◌≡◌, refl, ap, ◌∙◌}
use mathlib.Core.Bool.{true, false}
use mathlib.Core.List.{List, [], ◌∷◌}
use mathlib.Core.Logic.{⊎_elim}
use Prim.Native.Nat.{ℕ, ◌+◌, ◌-◌, ◌≤◌, ◌<◌}
use native.Mathlib.Omega.{arith}
use borrow.Author.Tests.{lt-ltb, le-ltb, eq-eqb, ne_eqb}
use lib.Seq.{sets}
use Rattle.table.specs.Place.{place_of}
use Rattle.bounds.specs.Bounds.{table_fits}
use Rattle.table.specs.Table.{len_of, bar_of}
use Rattle.table.specs.declared.place.Place.{Place}
use Rattle.table.specs.declared.table.Table.{Table}
use Rattle.bounds.proofs.BoundLaws.{table_fits_each, each_table_fits, len_at_most}
use Rattle.attempts.specs.Attempt.{answer_of, attempt_on, order_on, unrun}
use Rattle.attempts.specs.declared.attempt.Attempted.{Attempted}
use Rattle.rising.specs.Bars.{risen_bar, with_bar}
use Rattle.rising.specs.Attempts.{is_not_yet, attempts_on, ran_from}
use Rattle.rising.specs.Committed.{tails_below, attempted_from, risen_table, on_risen, rises, on_committed}
use Rattle.rising.specs.declared.tails.Ran.{Ran}
use Rattle.rising.proofs.AttemptsLaws.{Written, written_none, written_more, attempts_one, attempt_written}
use Rattle.rising.proofs.BarLaws.{risen_at_most, set_either}

-- ---- the slot below the bar that rose, and each row's

module _ (t : Table) (tail : Place) (tried : Attempted) (e : tried ≡ attempt_on t tail) where
  pub first_written : (list after : List ℕ) → after ≡ order_on t tail 0 list → Written t (tail ∷ []) list 0 (record { table = tried.table; end = tried.ran }) after
  first_written list after f =
      let m : 0 + tried.ran ≡ tried.ran = omega arith in
      rw m at (attempt_written t list 0 tail tried after e f)

  pub first_answer : is_not_yet tried.answer ≡ is_not_yet (answer_of t tail)
  unfolding attempt_on
  first_answer = rw e refl

module _ (t : Table) (tail : Place) (list : List ℕ) (mid : Ran) (after : List ℕ) (p : Written t (tail ∷ []) list 0 mid after) where
  pub below_waits : is_not_yet (answer_of t tail) ≡ true → Written t (attempted_from t tail) list 0 mid after
  unfolding attempted_from
  below_waits e = rw e p

  after_tail : mid.table ≡ (attempt_on t tail).table
  after_tail = ap (λ (r : Ran). r.table) p.ran_is ∙ ap (λ a. a.table) (attempts_one t tail)

  pub below_goes : is_not_yet (answer_of t tail) ≡ false → (last : Ran) (end : List ℕ) → Written mid.table (tails_below mid.table 7) after mid.end last end → Written t (attempted_from t tail) list 0 last end
  unfolding attempted_from
  below_goes e last end q = rw (e, ← after_tail) (written_more t list 0 (tail ∷ []) (tails_below mid.table 7) mid last after end p q)

-- ---- whether the bar rises

module _ (t : Table) (at : Place) (list : List ℕ) where
  stays : rises t at ≡ false → (record { table = t; end = 0 } ≡ ran_from 0 (on_committed t at)) × (list ≡ sets list 0 (on_committed t at).wrote)
  unfolding on_committed
  stays e = let w = written_none t list 0 in (rw e w.ran_is, rw e w.list_is)

  pub other_column : (at.col ≡ bar_of t at.row → ⊥) → (record { table = t; end = 0 } ≡ ran_from 0 (on_committed t at)) × (list ≡ sets list 0 (on_committed t at).wrote)
  other_column n = stays (rw (ne_eqb at.col (bar_of t at.row) n) refl)

  pub bar_stays : at.col ≡ bar_of t at.row → risen_bar t at.row ≤ bar_of t at.row → (record { table = t; end = 0 } ≡ ran_from 0 (on_committed t at)) × (list ≡ sets list 0 (on_committed t at).wrote)
  bar_stays e l = stays (rw (eq-eqb at.col (bar_of t at.row) e, le-ltb (bar_of t at.row) (risen_bar t at.row) l) refl)

  pub bar_rises : at.col ≡ bar_of t at.row → (risen : ℕ) → risen ≡ risen_bar t at.row → bar_of t at.row < risen → (u : Table) → u ≡ with_bar t at.row (risen - 1 + 1)
      → attempts_on u (attempted_from u (place_of at.row (risen - 1))) ≡ on_committed t at
  unfolding on_committed on_risen
  bar_rises e risen r l u s =
      let m : risen - 1 + 1 ≡ risen = omega arith in
      rw (s, m, r, eq-eqb at.col (bar_of t at.row) e, lt-ltb (bar_of t at.row) (risen_bar t at.row) (rw r at l)) refl

-- ---- the table with its bar risen

module _ (t : Table) (row : ℕ) (h : table_fits t ≡ true) (l : row < 7) where
  risen_low : risen_bar t row ≤ len_of t row
  risen_low = risen_at_most t row ((table_fits_each t h).bars_fit row l)

  pub tail_column : bar_of t row < risen_bar t row → risen_bar t row - 1 < 32
  tail_column r = omega (arith, risen_low, len_at_most t h row l)

  bar_fits : (bar : ℕ) → bar ≤ len_of t row → (r : ℕ) → r < 7 → bar_of (with_bar t row bar) r ≤ len_of t r
  bar_fits bar b r s =
      ⊎_elim
      (λ e. omega (arith, (table_fits_each t h).bars_fit r s))
      (λ w. omega (arith, w.1, ap (len_of t) w.0))
      (set_either t.bars row bar r)

  with_bar_keeps : (bar : ℕ) → bar ≤ len_of t row → table_fits (with_bar t row bar) ≡ true
  with_bar_keeps bar b =
      let w = table_fits_each t h in
      each_table_fits (with_bar t row bar)
      (record { config_fits = w.config_fits; lens_fit = w.lens_fit; bars_fit = bar_fits bar b; slots_fit = w.slots_fit; keys_fit = w.keys_fit })

  pub risen_keeps : table_fits (risen_table t row) ≡ true
  risen_keeps = with_bar_keeps (risen_bar t row) risen_low

  -- as it is raised, right above the slot below
  pub raised_keeps : (risen : ℕ) → risen ≡ risen_bar t row → 0 < risen → table_fits (with_bar t row (risen - 1 + 1)) ≡ true
  raised_keeps risen e s =
      let m : risen - 1 + 1 ≡ risen_bar t row = omega arith in
      rw m risen_keeps

-- a bar says nothing of what has run
pub bar_unrun : (t : Table) (row bar : ℕ) → unrun (with_bar t row bar) ≡ unrun t
unfolding unrun
bar_unrun t row bar = refl
