-- The commit bars: how far a bar rises, and what attempts leave of bars, row lengths, configuration and keys.
use mathlib.Core.Path.{◌≡◌, refl, ap, ◌∙◌}
use mathlib.Core.List.{List, [], ◌∷◌}
use mathlib.Core.Logic.{◌⊎◌, inl, inr}
use mathlib.Core.Bool.{Bool, true, false, cond}
use Prim.Native.Nat.{ℕ, zero, suc, ◌+◌, ◌*◌, ◌-◌, ◌<◌, ◌≤◌}
use native.Mathlib.Decide.{ℕ_discrete, dec_lt}
use native.Mathlib.Omega.{arith}
use borrow.Author.Tests.{eqb-true, ltb-true}
use lib.ListN.{length, get_or, set}
use lib.Seq.{set_out, get_or-set_same, get_or-set_other}
use Rattle.base.proofs.Loops.{both_true}
use Rattle.slots.specs.declared.slot.Slot.{Slot}
use Rattle.table.specs.Table.{len_of, bar_of, slot_no, with_slots}
use Rattle.table.specs.declared.place.Place.{Place}
use Rattle.table.specs.declared.table.Table.{Table}
use Rattle.attempts.specs.Attempt.{ran_with, table_after, attempt_on}
use Rattle.attempts.proofs.AttemptLaws.{answer_cases}
use Rattle.rising.specs.Bars.{is_committed, first_from, risen_bar}
use Rattle.rising.specs.Attempts.{Attempts, attempts_on}
use Rattle.rising.specs.Committed.{risen_table, on_risen, rises, on_committed}

-- ---- the first that does not pass

-- k is the first of from, from + 1, .. that does not pass, or the next after so many that pass
pub record First (from many : ℕ) (passes : ℕ → Bool) (k : ℕ) : Type 0 where
  pub at_least : from ≤ k
  pub at_most : k ≤ from + many
  pub over : (c : ℕ) → from ≤ c → c < k → passes c ≡ true
  pub stops : k < from + many → passes k ≡ false

pub first_from_lem : (from many : ℕ) (passes : ℕ → Bool) → First from many passes (first_from from many passes)
unfolding first_from
first_from_lem from zero passes = record { at_least = omega arith; at_most = omega arith; over = λ c l m. absurd (omega arith); stops = λ l. absurd (omega arith) }
first_from_lem from (suc many) passes = go (passes from) refl (first_from (suc from) many passes) (first_from_lem (suc from) many passes)
  where
    go : (b : Bool) → passes from ≡ b → (k : ℕ) → First (suc from) many passes k → First from (suc many) passes (cond b k from)
    go true e k w =
        record {
          at_least = omega (arith, w.at_least);
          at_most = omega (arith, w.at_most);
          over = λ c l m. elim (ℕ_discrete c from) [
            | yes s ↦ rw s e
            | no n ↦ w.over c (omega arith) m
          ];
          stops = λ l. w.stops (omega arith);
        }
    go false e k w = record { at_least = omega arith; at_most = omega arith; over = λ c l m. absurd (omega arith); stops = λ _. e }

-- ---- how far a row's bar rises

module _ (t : Table) (row : ℕ) where
  risen_first : First (bar_of t row) (len_of t row - bar_of t row) (λ col. is_committed (slot_no t (32 * row + col))) (risen_bar t row)
  unfolding risen_bar
  risen_first = first_from_lem (bar_of t row) (len_of t row - bar_of t row) _

  pub risen_at_least : bar_of t row ≤ risen_bar t row
  risen_at_least = risen_first.at_least

  -- not past the row's slots
  pub risen_at_most : bar_of t row ≤ len_of t row → risen_bar t row ≤ len_of t row
  risen_at_most l = omega (arith, risen_first.at_most)

  -- over what is committed
  pub risen_over : (col : ℕ) → bar_of t row ≤ col → col < risen_bar t row → is_committed (slot_no t (32 * row + col)) ≡ true
  risen_over col l m = risen_first.over col l m

  -- to the first slot that is absent or below Committed
  pub risen_stops : (len_of t row ≤ risen_bar t row) ⊎ (is_committed (slot_no t (32 * row + risen_bar t row)) ≡ false)
  risen_stops = elim (dec_lt (risen_bar t row) (len_of t row)) [
    | yes l ↦ inr (risen_first.stops (omega (arith, risen_at_least)))
    | no n ↦ inl (omega arith)
  ]

-- ---- attempts

-- nothing but slots has changed
pub record OnlySlots (t u : Table) : Type 0 where
  pub config : u.config ≡ t.config
  pub lens : u.lens ≡ t.lens
  pub bars : u.bars ≡ t.bars
  pub keys : u.keys ≡ t.keys

pub with_slots_lem : (t : Table) (slots : List Slot) → OnlySlots t (with_slots t slots)
with_slots_lem t slots = record { config = refl; lens = refl; bars = refl; keys = refl }

pub none_changed : (t : Table) → OnlySlots t t
none_changed t = with_slots_lem t t.slots

pub attempt_only_slots : (t : Table) (at : Place) → OnlySlots t (attempt_on t at).table
unfolding attempt_on ran_with
attempt_only_slots t at =
    answer_cases t at (λ a. OnlySlots t (table_after a t at))
    (λ _. none_changed t)
    (λ _ _. with_slots_lem t _)
    (λ _ _. none_changed t)

pub attempts_only_slots : (t : Table) (ps : List Place) → OnlySlots t (attempts_on t ps).table
unfolding attempts_on
attempts_only_slots t [] = none_changed t
attempts_only_slots t (at ∷ ps) =
    let a = attempt_only_slots t at in
    let b = attempts_only_slots (attempt_on t at).table ps in
    record { config = b.config ∙ a.config; lens = b.lens ∙ a.lens; bars = b.bars ∙ a.bars; keys = b.keys ∙ a.keys }

-- ---- a slot logged Committed

module _ (t : Table) (at : Place) where
  -- nothing happens; or the column is the row's bar, and the bar rises
  pub committed_cases : (P : Attempts → Type 0)
      → (rises t at ≡ false → P (attempts_on t []))
      → (at.col ≡ bar_of t at.row → bar_of t at.row < risen_bar t at.row → P (on_risen t at.row))
      → P (on_committed t at)
  unfolding on_committed
  committed_cases P same risen = go (rises t at) refl
    where
      go : (b : Bool) → rises t at ≡ b → P (cond b (on_risen t at.row) (attempts_on t []))
      go true e = let w = both_true _ _ e in risen (eqb-true _ _ w.0) (ltb-true _ _ w.1)
      go false e = same e

  pub risen_only_slots : OnlySlots (risen_table t at.row) (on_risen t at.row).table
  unfolding on_risen
  risen_only_slots = attempts_only_slots (risen_table t at.row) _

-- ---- a bar that is set

-- an element of a list after one is set: as it was, or the one set
pub set_either : (l : List ℕ) (i v r : ℕ) → (get_or (set l i v) r 0 ≡ get_or l r 0) ⊎ ((r ≡ i) × (get_or (set l i v) r 0 ≡ v))
set_either l i v r = elim (ℕ_discrete r i) [
  | no n ↦ inl (get_or-set_other l i r v 0 n)
  | yes e ↦ elim (dec_lt i (length l)) [
    | yes lt ↦ inr (e, rw e (get_or-set_same l i v 0 lt))
    | no ge ↦ inl (ap (λ (x : List ℕ). get_or x r 0) (set_out l i v (omega arith)))
  ]
]
