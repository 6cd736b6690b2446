-- What an attempt reads of the table, number by number.
use mathlib.Core.Path.{◌≡◌, refl, ap}
use mathlib.Core.Bool.{Bool, true, false}
use Prim.Native.Nat.{ℕ, zero, suc, ◌+◌, ◌*◌, ◌/◌, ◌%◌, ◌<◌, ◌≤◌}
use native.Mathlib.Decide.{dec_lt}
use native.Mathlib.Omega.{arith}
use lib.ListN.{length, get_or, get_or-eq_default}
use borrow.Author.Tests.{lt-ltb, ltb-true}
use Rattle.base.proofs.Loops.{length_below, below_at_lem}
use Rattle.deps.specs.Sets.{dep_of, number, set_fits}
use Rattle.deps.specs.declared.sets.DepSet.{DepSet}
use Rattle.deps.proofs.SetLaws.{fits_each}
use Rattle.slots.proofs.SlotLaws.{slot_fits_each}
use Rattle.bounds.specs.Bounds.{table_fits}
use Rattle.table.specs.Place.{index_of}
use Rattle.table.specs.Table.{len_of, holds, slot_no}
use Rattle.table.specs.declared.place.Place.{Place}
use Rattle.table.specs.declared.table.Table.{Table}
use Rattle.bounds.proofs.BoundLaws.{table_fits_each}
use Rattle.table.proofs.SlotReads.{index_row, index_col}
use Rattle.leads.specs.Depends.{number_in, Valid}
use Rattle.attempts.specs.Reads.{is_held_no, dep_of_no, deps_of, seqs_of}

number_low : (n : ℕ) (d : DepSet) → set_fits n d ≡ true → (row : ℕ) → row < 7 → number d row ≤ 32
number_low n d h row l = go (number d row) refl
  where
    go : (k : ℕ) → number d row ≡ k → k ≤ 32
    go zero e = omega arith
    go (suc c) e = omega (arith, (fits_each n d h row c l (ap dep_of e)).1)

module _ (t : Table) where
  -- a slot's dependencies, where the table is within the bounds
  dep_low : table_fits t ≡ true → (i row : ℕ) → i < 224 → row < 7 → dep_of_no t i row ≤ 32
  dep_low h i row l m = go (is_held_no t i) refl
    where
      go : (b : Bool) → is_held_no t i ≡ b → dep_of_no t i row ≤ 32
      go true e =
          let f = (table_fits_each t h).slots_fit i l (ltb-true (i % 32) (len_of t (i / 32)) e) in
          rw e (number_low t.config.n (slot_no t i).deps (slot_fits_each t.config.n (slot_no t i) f).deps_fit row m)
      go false e = rw e (omega arith)

  deps_length : length (deps_of t) ≡ 1568
  unfolding deps_of
  deps_length = length_below 1568 _

  deps_at : (k : ℕ) → k < 1568 → get_or (deps_of t) k 0 ≡ dep_of_no t (k / 7) (k % 7)
  unfolding deps_of
  deps_at k l = below_at_lem 1568 (λ k. dep_of_no t (k / 7) (k % 7)) k 0 l

  pub deps_number : (i row : ℕ) → i < 224 → row < 7 → number_in (deps_of t) i row ≡ dep_of_no t i row
  deps_number i row l m =
      let e : (7 * i + row) / 7 ≡ i = omega arith in
      let f : (7 * i + row) % 7 ≡ row = omega arith in
      rw (deps_at (7 * i + row) (omega arith), e, f)

  pub deps_valid : table_fits t ≡ true → Valid (deps_of t)
  unfolding Valid
  deps_valid h k = elim (dec_lt k 1568) [
    | yes lt ↦ rw (deps_at k lt) (dep_low h (k / 7) (k % 7) (omega arith) (omega arith))
    | no ge ↦ omega (arith, get_or-eq_default (deps_of t) 0 {n = k} (omega (arith, deps_length)))
  ]

  pub seqs_at : (i : ℕ) → i < 224 → get_or (seqs_of t) i 0 ≡ (slot_no t i).seq
  unfolding seqs_of
  seqs_at i l = below_at_lem 224 (λ i. (slot_no t i).seq) i 0 l

  -- the table has a slot at the place exactly when it has one at its index
  pub held_index : (at : Place) → at.col < 32 → is_held_no t (index_of at) ≡ holds t at
  unfolding holds
  held_index at l = rw (index_row at l, index_col at l, lt-ltb at.col 32 l)
