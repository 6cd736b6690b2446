-- What an attempt does, in the words of its rule: Already, NotYet, Done exactly when, and what runs.
use mathlib.Core.Path.{◌≡◌, refl, sym, ap, ◌∙◌}
use mathlib.Core.Bool.{Bool, true, false, not, true≢false}
use mathlib.Core.List.{List}
use mathlib.Core.Logic.{◌↔◌}
use Prim.Native.Nat.{ℕ, ◌+◌, ◌*◌, ◌/◌, ◌%◌, ◌<◌, ◌≤◌}
use native.Mathlib.Omega.{arith}
use lib.ListN.{length, get_or}
use borrow.Author.Tests.{lt-ltb, leb-false}
use Rattle.base.specs.Answer.{number_of}
use Rattle.base.proofs.Loops.{some_fails, count_parts}
use Rattle.base.specs.Marks.{marked}
use Rattle.base.specs.declared.answer.Answer.{Answer}
use Rattle.base.specs.declared.answer.Answer.TheVariants.{Done, NotYet, Already}
use Rattle.slots.specs.Slot.{executed}
use Rattle.bounds.specs.Bounds.{table_fits}
use Rattle.table.specs.Place.{index_of}
use Rattle.table.specs.Table.{len_of, bar_of, slot_no}
use Rattle.table.specs.declared.place.Place.{Place}
use Rattle.table.specs.declared.table.Table.{Table}
use Rattle.bounds.proofs.BoundLaws.{table_fits_each}
use Rattle.leads.specs.Depends.{Valid, Leads}
use Rattle.leads.specs.Frontier.{In}
use Rattle.leads.proofs.FrontierLaws.{frontier_sound, frontier_whole, frontier_length, frontier_low, in_rows}
use Rattle.order.specs.Listed.{On, Has, how_many}
use Rattle.order.specs.Paper.{Paper, Ties}
use Rattle.order.specs.Order.{order_of}
use Rattle.order.proofs.PaperLaws.{order_paper, order_ties, order_howmany, order_has}
use Rattle.attempts.specs.Reads.{is_held_no, has_run, deps_of, seqs_of}
use Rattle.attempts.specs.Attempt.{reached, row_below_bar, all_below_bars, is_waiting, ran_with, to_run, answer_of, written, table_after, attempt_on, unrun}
use Rattle.attempts.proofs.ReadLaws.{deps_valid}
use Rattle.attempts.proofs.WaitingLaws.{below_each, waiting_length, waiting_at, waiting_each, each_waiting, waiting_many, waiting_unrun}
use Rattle.attempts.proofs.RanLaws.{ran_marked, ran_others, ran_held, ran_keeps}

-- the three answers by their two tests
module _ (t : Table) (at : Place) where
  abbrev run : Bool
  run = has_run t (index_of at)

  abbrev below : Bool
  below = all_below_bars t (reached t at)

  pub answer_cases : (P : Answer → Type 0) → (run ≡ true → P Already) → (run ≡ false → below ≡ true → P Done) → (run ≡ false → below ≡ false → P NotYet) → P (answer_of t at)
  answer_cases P a d n = go run refl below refl
    where
      go : (x : Bool) → run ≡ x → (y : Bool) → below ≡ y → P (answer_of t at)
      go true e y f = rw e (a e)
      go false e true f = rw (e, f) (d e f)
      go false e false f = rw (e, f) (n e f)

-- a slot of a table that is within the bounds
module _ (t : Table) (at : Place) (h : table_fits t ≡ true) (row : at.row < 7) (col : at.col < 32) where
  -- slot j is reached
  abbrev pub Reached : ℕ → Type 0
  Reached j = Leads (deps_of t) (index_of at) j

  -- slot j is below its row's commit bar
  abbrev pub BelowBar : ℕ → Type 0
  BelowBar j = j % 32 < bar_of t (j / 32)

  valid : Valid (deps_of t)
  valid = deps_valid t h

  reached_in : (j : ℕ) → Reached j → In (reached t at) j
  unfolding reached
  reached_in j l = frontier_whole (deps_of t) valid (index_of at) j (omega arith) l

  in_reached : (j : ℕ) → In (reached t at) j → Reached j
  unfolding reached
  in_reached j i = frontier_sound (deps_of t) valid (index_of at) j i

  pub reached_slot : (j : ℕ) → Reached j → j < 224
  unfolding reached
  reached_slot j l =
      let r = in_rows (reached t at) (j % 32) (j / 32) (frontier_length (deps_of t) valid (index_of at)) (reached_in j l) in
      omega arith

  -- ---- the test of the bars

  under_bars : below t at ≡ true → (j : ℕ) → Reached j → BelowBar j
  under_bars b j l =
      let s = reached_slot j l in
      omega (arith, reached_in j l, below_each t (reached t at) b (j / 32) (omega arith))

  -- where a row is reached past its bar, the slot at the bar is reached
  at_bar : (r : ℕ) → r < 7 → bar_of t r < get_or (reached t at) r 0 → (j : ℕ) × (Reached j) × (BelowBar j → ⊥)
  unfolding reached
  at_bar r l over =
      let j = 32 * r + bar_of t r in
      let low = frontier_low (deps_of t) valid (index_of at) r in
      let e : j / 32 ≡ r = omega arith in
      let g : j % 32 ≡ bar_of t r = omega arith in
      (j, in_reached j (rw (e, g) over), λ b. absurd (omega (arith, rw (e, g) at b)))

  past_bar : below t at ≡ false → (j : ℕ) × (Reached j) × (BelowBar j → ⊥)
  unfolding all_below_bars
  past_bar b =
      let w = some_fails (row_below_bar t (reached t at)) 7 b in
      at_bar w.0 w.1 (leb-false (get_or (reached t at) w.0 0) (bar_of t w.0) w.2)

  -- ---- Already, NotYet, Done exactly when

  pub already_exactly : (answer_of t at ≡ Already) ↔ (run t at ≡ true)
  already_exactly = (
    answer_cases t at (λ a. a ≡ Already → run t at ≡ true) (λ r _. r) (λ _ _ q. absurd (omega (arith, ap number_of q))) (λ _ _ q. absurd (omega (arith, ap number_of q))),
    λ r. rw r refl,
  )

  -- it or some reached slot is at or above its row's commit bar
  pub notyet_exactly : run t at ≡ false → (answer_of t at ≡ NotYet) ↔ ((j : ℕ) × (Reached j) × (BelowBar j → ⊥))
  notyet_exactly r = (
    answer_cases t at (λ a. a ≡ NotYet → (j : ℕ) × (Reached j) × (BelowBar j → ⊥)) (λ x _. absurd (true≢false (sym x ∙ r))) (λ _ _ q. absurd (omega (arith, ap number_of q))) (λ _ b _. past_bar b),
    λ w. answer_cases t at (λ a. a ≡ NotYet) (λ x. absurd (true≢false (sym x ∙ r))) (λ _ b. absurd (w.2 (under_bars b w.0 w.1))) (λ _ _. refl),
  )

  pub done_exactly : run t at ≡ false → (answer_of t at ≡ Done) ↔ ((j : ℕ) → Reached j → BelowBar j)
  done_exactly r = (
    answer_cases t at (λ a. a ≡ Done → (j : ℕ) → Reached j → BelowBar j) (λ x _. absurd (true≢false (sym x ∙ r))) (λ _ b _. under_bars b) (λ _ _ q. absurd (omega (arith, ap number_of q))),
    λ f. answer_cases t at (λ a. a ≡ Done) (λ x. absurd (true≢false (sym x ∙ r))) (λ _ _. refl) (λ _ b. let w = past_bar b in absurd (w.2 (f w.0 w.1))),
  )

  -- ---- what runs

  -- nothing, where the answer is not Done
  pub others_nothing : (answer_of t at ≡ Done → ⊥) → ((attempt_on t at).table ≡ t) × ((attempt_on t at).ran ≡ 0)
  unfolding attempt_on
  others_nothing n = answer_cases t at (λ a. (a ≡ Done → ⊥) → (table_after a t at ≡ t) × (length (written a t at) ≡ 0)) (λ _ _. (refl, refl)) (λ _ _ q. absurd (q refl)) (λ _ _ _. (refl, refl)) n

  module _ (d : answer_of t at ≡ Done) where
    is_below : below t at ≡ true
    is_below = answer_cases t at (λ a. a ≡ Done → below t at ≡ true) (λ _ q. absurd (omega (arith, ap number_of q))) (λ _ b _. b) (λ _ _ q. absurd (omega (arith, ap number_of q))) d

    -- a reached slot is in the table
    pub held : (k : ℕ) → Reached k → is_held_no t k ≡ true
    held k l =
        let s = reached_slot k l in
        lt-ltb (k % 32) (len_of t (k / 32)) (omega (arith, under_bars is_below k l, (table_fits_each t h).bars_fit (k / 32) (omega arith)))

    -- the reached slots that have not run
    pub to_run_lem : (k : ℕ) → On (to_run t at) k ↔ (Reached k × (has_run t k ≡ false))
    unfolding to_run
    to_run_lem k = (
      λ on.
          let w = waiting_each t (reached t at) k on in
          let l = in_reached k w.1 in
          (l, rw (held k l, w.2) refl),
      λ w. each_waiting t (reached t at) k (reached_slot k w.0) (reached_in k w.0) (rw (held k w.0) at w.1),
    )

    marks_length : length (to_run t at) ≡ 224
    unfolding to_run
    marks_length = waiting_length t (reached t at)

    abbrev pub ran_list : List ℕ
    ran_list = order_of (deps_of t) (seqs_of t) (to_run t at)

    -- what is written is what is reached and has not run, in the paper's order with its ties
    pub done_written : written (answer_of t at) t at ≡ ran_list
    done_written = rw d refl

    pub done_has : (k : ℕ) → Has k ran_list ↔ (Reached k × (has_run t k ≡ false))
    done_has k =
        let o = order_has (deps_of t) (seqs_of t) (to_run t at) valid marks_length k in
        let r = to_run_lem k in
        (λ i. r.0 (o.0 i), λ w. o.1 (r.1 w))

    pub done_paper : Paper (deps_of t) (seqs_of t) (to_run t at) ran_list
    done_paper = order_paper (deps_of t) (seqs_of t) (to_run t at) valid marks_length

    pub done_ties : Ties (deps_of t) (seqs_of t) (to_run t at) ran_list
    done_ties = order_ties (deps_of t) (seqs_of t) (to_run t at) valid marks_length

    -- the number of slots run is their number
    pub done_number : (attempt_on t at).ran ≡ how_many (to_run t at)
    unfolding attempt_on
    done_number = ap length done_written ∙ order_howmany (deps_of t) (seqs_of t) (to_run t at) valid marks_length

    done_table : (attempt_on t at).table ≡ ran_with t (to_run t at)
    unfolding attempt_on
    done_table = rw d refl

    -- they become Executed, and every other slot stays as it was
    pub done_ran : (k : ℕ) → Reached k → has_run t k ≡ false → slot_no (attempt_on t at).table k ≡ executed (slot_no t k)
    done_ran k l r = ap (λ (u : Table). slot_no u k) done_table ∙ ran_marked t (to_run t at) k (reached_slot k l) ((to_run_lem k).1 (l, r))

    pub done_others : (k : ℕ) → k < 224 → ((Reached k × (has_run t k ≡ false)) → ⊥) → slot_no (attempt_on t at).table k ≡ slot_no t k
    done_others k s n = ap (λ (u : Table). slot_no u k) done_table ∙ ran_others t (to_run t at) k s (off (marked (to_run t at) k) refl)
      where
        off : (b : Bool) → marked (to_run t at) k ≡ b → marked (to_run t at) k ≡ false
        off true e = absurd (n ((to_run_lem k).0 e))
        off false e = e

    -- a slot that is not run after it was not run before, and did not wait
    left_unrun : (k : ℕ) → k < 224 → not (has_run (ran_with t (to_run t at)) k) ≡ true → (not (has_run t k) ≡ true) × (is_waiting t (reached t at) k ≡ false)
    unfolding to_run
    left_unrun k s u = go (marked (to_run t at) k) refl
      where
        go : (b : Bool) → marked (to_run t at) k ≡ b → (not (has_run t k) ≡ true) × (is_waiting t (reached t at) k ≡ false)
        go true e =
            let l = ((to_run_lem k).0 e).0 in
            absurd (true≢false (sym u ∙ rw (ran_held t (to_run t at) k, held k l, ran_marked t (to_run t at) k s e)))
        go false e = (rw (ran_held t (to_run t at) k, ran_others t (to_run t at) k s e) at u, sym (waiting_at t (reached t at) k s) ∙ e)

    done_falls : how_many (to_run t at) + unrun (ran_with t (to_run t at)) ≤ unrun t
    unfolding to_run unrun
    done_falls =
        let many = waiting_many t (reached t at) in
        let parts = count_parts (λ k. not (has_run (ran_with t (to_run t at)) k)) (is_waiting t (reached t at)) (λ k. not (has_run t k)) 224
        left_unrun (λ k _ w. waiting_unrun t (reached t at) k w) in
        omega arith

  -- what runs had not run, so that the attempts of one call never write more than the slots that had not run before it
  pub unrun_falls : (attempt_on t at).ran + unrun (attempt_on t at).table ≤ unrun t
  unrun_falls = answer_cases t at (λ a. answer_of t at ≡ a → (attempt_on t at).ran + unrun (attempt_on t at).table ≤ unrun t)
      (λ _ e. nothing (λ d. absurd (omega (arith, ap number_of (sym e ∙ d)))))
      (λ _ _ e. omega (arith, done_number e, ap unrun (done_table e), done_falls e))
      (λ _ _ e. nothing (λ d. absurd (omega (arith, ap number_of (sym e ∙ d)))))
      refl
    where
      nothing : (answer_of t at ≡ Done → ⊥) → (attempt_on t at).ran + unrun (attempt_on t at).table ≤ unrun t
      nothing n = let w = others_nothing n in omega (arith, w.1, ap unrun w.0)

  pub attempt_keeps : table_fits (attempt_on t at).table ≡ true
  unfolding attempt_on
  attempt_keeps = answer_cases t at (λ a. table_fits (table_after a t at) ≡ true) (λ _. h) (λ _ _. ran_keeps t (to_run t at) h) (λ _ _. h)
