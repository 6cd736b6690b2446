-- Whether what is reached is below the bars, and which slots of it wait.
use mathlib.Core.Path.{◌≡◌, refl, sym, ◌∙◌}
use mathlib.Core.Bool.{Bool, true, false, cond, not, and-false}
use mathlib.Core.List.{List, [], ◌∷◌, ◌++◌}
use Prim.Native.Nat.{ℕ, zero, suc, ◌+◌, ◌<◌, ◌≤◌}
use native.Mathlib.Omega.{arith}
use lib.ListN.{length, get_or}
use borrow.Author.Tests.{lt-ltb, ltb-true, leb-true, not-true}
use Rattle.base.specs.Below.{list_below, count_below}
use Rattle.base.specs.Marks.{marked}
use Rattle.base.proofs.Loops.{both_true, all_at, length_below, below_at_lem, count_less}
use Rattle.slots.specs.Slot.{is_executed}
use Rattle.table.specs.Table.{bar_of, slot_no}
use Rattle.table.specs.declared.table.Table.{Table}
use Rattle.leads.specs.Frontier.{In, is_in}
use Rattle.order.specs.Listed.{On, how_many}
use Rattle.order.proofs.ListLaws.{on_short}
use Rattle.attempts.specs.Reads.{is_held_no, has_run}
use Rattle.attempts.specs.Attempt.{row_below_bar, all_below_bars, is_waiting, waiting_in, unrun}

module _ (t : Table) (F : List ℕ) where
  pub below_each : all_below_bars t F ≡ true → (row : ℕ) → row < 7 → get_or F row 0 ≤ bar_of t row
  unfolding all_below_bars
  below_each h row l = leb-true _ _ (all_at (row_below_bar t F) 7 h row l)

  pub waiting_length : length (waiting_in t F) ≡ 224
  unfolding waiting_in
  waiting_length = length_below 224 (is_waiting t F)

  pub waiting_at : (i : ℕ) → i < 224 → marked (waiting_in t F) i ≡ is_waiting t F i
  unfolding waiting_in
  waiting_at i l = below_at_lem 224 (is_waiting t F) i false l

  pub waiting_each : (i : ℕ) → On (waiting_in t F) i → (i < 224) × (In F i) × (is_executed (slot_no t i) ≡ false)
  waiting_each i on =
      let l : i < 224 = omega (arith, on_short (waiting_in t F) i on, waiting_length) in
      let w = both_true (is_in F i) (not (is_executed (slot_no t i))) (sym (waiting_at i l) ∙ on) in
      (l, ltb-true _ _ w.0, not-true _ w.1)

  pub each_waiting : (i : ℕ) → i < 224 → In F i → is_executed (slot_no t i) ≡ false → On (waiting_in t F) i
  each_waiting i l h e = waiting_at i l ∙ rw (lt-ltb _ _ h, e)

-- ---- how many

many_append : (a b : List Bool) → how_many (a ++ b) ≡ how_many a + how_many b
unfolding how_many
many_append [] b = omega arith
many_append (true ∷ a) b = omega (arith, many_append a b)
many_append (false ∷ a) b = many_append a b

many_below : (n : ℕ) (p : ℕ → Bool) → how_many (list_below n p) ≡ count_below n p
unfolding how_many list_below count_below
many_below zero p = refl
many_below (suc n) p = many_append (list_below n p) (p n ∷ []) ∙ go (p n) (many_below n p)
  where
    go : (b : Bool) → how_many (list_below n p) ≡ count_below n p → how_many (list_below n p) + how_many (b ∷ []) ≡ cond b (suc (count_below n p)) (count_below n p)
    go true e = omega arith
    go false e = omega arith

pub waiting_many : (t : Table) (F : List ℕ) → how_many (waiting_in t F) ≡ count_below 224 (is_waiting t F)
unfolding waiting_in
waiting_many t F = many_below 224 (is_waiting t F)

-- a slot that waits has not run
pub waiting_unrun : (t : Table) (F : List ℕ) (i : ℕ) → is_waiting t F i ≡ true → not (has_run t i) ≡ true
waiting_unrun t F i h =
    let e = not-true (is_executed (slot_no t i)) (both_true (is_in F i) (not (is_executed (slot_no t i))) h).1 in
    rw (e, and-false (is_held_no t i))

-- so there are no more of them than slots that have not run
pub waiting_room : (t : Table) (F : List ℕ) → how_many (waiting_in t F) ≤ unrun t
unfolding unrun
waiting_room t F = rw (waiting_many t F) (count_less (is_waiting t F) (λ i. not (has_run t i)) 224 (λ i l h. waiting_unrun t F i h))
