-- An attempt is refused exactly when the table of refusals says so, and then leaves table and list as they were.
use mathlib.Core.Path.{◌≡◌, refl, ap, sym, ◌∙◌, subst}
use mathlib.Core.List.{List}
use mathlib.Core.Logic.{◌↔◌}
use mathlib.Core.Bool.{true, false, not, true≢false}
use Prim.Native.Nat.{ℕ, zero, suc, ◌+◌, ◌<◌, ◌≤◌}
use native.Mathlib.Omega.{arith}
use borrow.Author.Tests.{lt-ltb, le-ltb, le-leb, lt-leb, ltb-true, ltb-false, leb-true, leb-false}
use lib.ListN.{length}
use Rattle.base.specs.Answer.{number_of, is_refused}
use Rattle.base.specs.Refusals as refusals
use Rattle.base.specs.Refusals.{first_refusal, short_order, outside_bounds, no_replica, no_column}
use Rattle.base.specs.declared.refusals.Refusal.{Refusal}
use Rattle.base.specs.declared.refusals.Refusal.TheVariants.{OutsideBounds, NoReplica, NoColumn, BadDependency, BadBatch, OverLimit, NoSlot, ShortOrder, Cut, Unreadable, TooLong}
use Rattle.base.specs.declared.answer.Answer.{Answer}
use Rattle.base.specs.declared.answer.Answer.TheVariants.{Refused}
use Rattle.base.proofs.Loops.{count_at_most}
use Rattle.base.proofs.RefusalLaws.{first_passed, at_first}
use Rattle.bounds.specs.Bounds.{table_fits}
use Rattle.table.specs.declared.place.Place.{Place}
use Rattle.table.specs.declared.table.Table.{Table}
use Rattle.bounds.proofs.BoundLaws.{row_below}
use Rattle.attempts.specs.Reads.{has_run}
use Rattle.attempts.specs.Refusal.{attempt_tests, attempt_refusal}
use Rattle.attempts.specs.Attempt.{tried, attempt_on, order_on, unrun, attempt_or, order_or, attempt_of, attempt_order}
use Rattle.attempts.proofs.AttemptLaws.{answer_cases}

-- no refusal has the number 0
pub number_some : (refusal : Refusal) → 0 < refusals.refusal_number refusal
number_some OutsideBounds = omega arith
number_some NoReplica = omega arith
number_some NoColumn = omega arith
number_some BadDependency = omega arith
number_some BadBatch = omega arith
number_some OverLimit = omega arith
number_some NoSlot = omega arith
number_some ShortOrder = omega arith
number_some Cut = omega arith
number_some Unreadable = omega arith
number_some TooLong = omega arith

-- when each number is given, in the order of the refusals
pub data AttemptRefused (t : Table) (at : Place) (entries : ℕ) : ℕ → Type 0 where
  short_order_lem : entries < 224 → AttemptRefused t at entries short_order
  outside : 224 ≤ entries → table_fits t ≡ false → AttemptRefused t at entries outside_bounds
  no_row : 224 ≤ entries → table_fits t ≡ true → t.config.n ≤ at.row → AttemptRefused t at entries no_replica
  no_column_lem : 224 ≤ entries → table_fits t ≡ true → at.row < t.config.n → 32 ≤ at.col → AttemptRefused t at entries no_column

-- what is known of an attempt that is not refused
pub record Tried (t : Table) (at : Place) (entries : ℕ) : Type 0 where
  pub room : 224 ≤ entries
  pub within : table_fits t ≡ true
  pub row : at.row < 7
  pub col : at.col < 32

module _ (t : Table) (at : Place) (entries : ℕ) where
  pub attempt_tried : attempt_refusal t at entries ≡ 0 → Tried t at entries
  unfolding attempt_refusal
  attempt_tried e =
      let h = first_passed (attempt_tests t at entries) (omega arith) e in
      record { room = leb-true _ _ h.0; within = h.1.0; row = row_below t h.1.0 at.row (ltb-true _ _ h.1.1.0); col = ltb-true _ _ h.1.1.1.0 }

  pub some_refusal : 0 < attempt_refusal t at entries → AttemptRefused t at entries (attempt_refusal t at entries)
  unfolding attempt_refusal
  some_refusal =
      at_first (AttemptRefused t at entries) (attempt_tests t at entries) (
        λ e. short_order_lem (leb-false _ _ e),
        λ s. (
          λ e. outside (leb-true _ _ s) e,
          λ w. (
            λ e. no_row (leb-true _ _ s) w (ltb-false _ _ e),
            λ r. (λ e. no_column_lem (leb-true _ _ s) w (ltb-true _ _ r) (ltb-false _ _ e), λ c. tt),
          ),
        ),
      )

  refusal_number : {k : ℕ} → AttemptRefused t at entries k → (attempt_refusal t at entries ≡ k) × (0 < k)
  unfolding attempt_refusal first_refusal
  refusal_number (short_order_lem l) = (rw (lt-leb 224 entries l), omega arith)
  refusal_number (outside s e) = (rw (le-leb 224 entries s, e), omega arith)
  refusal_number (no_row s w l) = (rw (le-leb 224 entries s, w, le-ltb at.row t.config.n l), omega arith)
  refusal_number (no_column_lem s w r l) = (rw (le-leb 224 entries s, w, lt-ltb at.row t.config.n r, le-ltb at.col 32 l), omega arith)

  -- an attempt that is not refused answers one of its own three
  not_refused : (k : ℕ) → (attempt_on t at).answer ≡ Refused k → ⊥
  unfolding attempt_on
  not_refused k e = answer_cases t at (λ a. a ≡ Refused k → ⊥) (λ _ q. other q refl) (λ _ _ q. other q refl) (λ _ _ q. other q refl) e
    where
      other : {a : Answer} → a ≡ Refused k → is_refused a ≡ false → ⊥
      other q e = absurd (true≢false (sym (ap is_refused q) ∙ e))

  -- ---- refused exactly when

  pub attempt_exactly : (k : ℕ) → ((attempt_of t at entries).answer ≡ Refused k) ↔ AttemptRefused t at entries k
  unfolding attempt_of
  attempt_exactly k = (go (attempt_refusal t at entries) refl, λ w. let r = refusal_number w in back k r.0 r.1)
    where
      go : (n : ℕ) → attempt_refusal t at entries ≡ n → (attempt_or n t at).answer ≡ Refused k → AttemptRefused t at entries k
      go zero e q = absurd (not_refused k q)
      go (suc n) e q =
          let same : suc n ≡ k = ap number_of q in
          subst (AttemptRefused t at entries) (e ∙ same) (some_refusal (omega arith))

      back : (n : ℕ) → attempt_refusal t at entries ≡ n → 0 < n → (attempt_or (attempt_refusal t at entries) t at).answer ≡ Refused n
      back zero e l = absurd (omega arith)
      back (suc n) e l = rw e refl

-- ---- the two ways of the entry

module _ (t : Table) (at : Place) (list : List ℕ) where
  pub attempt_refused : (number : ℕ) → number ≡ attempt_refusal t at (length list) → 0 < number
      → (tried (Refused number) t at ≡ attempt_of t at (length list)) × (list ≡ attempt_order t at list)
  unfolding attempt_of attempt_order
  attempt_refused zero e l = absurd (omega arith)
  attempt_refused (suc k) e l = (rw (← e) refl, rw (← e) refl)

  pub attempt_passed : attempt_refusal t at (length list) ≡ 0 → (attempt_on t at ≡ attempt_of t at (length list)) × (order_on t at 0 list ≡ attempt_order t at list)
  unfolding attempt_of attempt_order
  attempt_passed e = (rw e refl, rw e refl)

  -- the list has room for all that has not run
  pub attempt_room : attempt_refusal t at (length list) ≡ 0 → 0 + unrun t ≤ length list
  unfolding unrun
  attempt_room e = omega (arith, (attempt_tried t at (length list) e).room, count_at_most (λ i. not (has_run t i)) 224)

-- ---- and nothing changes

pub refused_table : (t : Table) (at : Place) (entries : ℕ) → 0 < attempt_refusal t at entries → ((attempt_of t at entries).table ≡ t) × ((attempt_of t at entries).ran ≡ 0)
unfolding attempt_of
refused_table t at entries l = go (attempt_refusal t at entries) l
  where
    go : (n : ℕ) → 0 < n → ((attempt_or n t at).table ≡ t) × ((attempt_or n t at).ran ≡ 0)
    go zero l = absurd (omega arith)
    go (suc n) l = (refl, refl)

pub refused_list : (t : Table) (at : Place) (list : List ℕ) → 0 < attempt_refusal t at (length list) → attempt_order t at list ≡ list
unfolding attempt_order
refused_list t at list l = go (attempt_refusal t at (length list)) l
  where
    go : (n : ℕ) → 0 < n → order_or n t at list ≡ list
    go zero l = absurd (omega arith)
    go (suc n) l = refl
