-- The highest sequence of a set: at least that of each of its slots in the table, and no more than that asks for.
use mathlib.Core.Path.{◌≡◌, refl}
use mathlib.Core.Bool.{Bool, true, false}
use Prim.Native.Nat.{ℕ, zero, suc, ◌-◌, ◌<◌, ◌≤◌}
use native.Mathlib.Omega.{arith}
use borrow.Author.Tests.{le-leb, leb-true}
use Rattle.base.proofs.Loops.{both_true, greatest_at, greatest_at_most}
use Rattle.deps.specs.Sets.{column, dep_of, number, in_row, empty_set}
use Rattle.deps.specs.declared.sets.DepSet.{DepSet}
use Rattle.deps.proofs.SetLaws.{empty_number}
use Rattle.table.specs.Place.{place_of}
use Rattle.table.specs.Table.{len_of, holds, slot_of}
use Rattle.bounds.specs.Highest.{is_held, sequence_in, highest_of}
use Rattle.table.specs.declared.table.Table.{Table}
use Rattle.table.proofs.SlotReads.{holds_each, each_holds}

-- a column and its number
pub column_number : (k col : ℕ) → dep_of k ≡ column col → k ≡ suc col
column_number zero col e = cc
column_number (suc j) col e = cc

-- a number that names a slot of a row of this length
pub held_each : (k len : ℕ) → is_held k len ≡ true → (1 ≤ k) × (k ≤ 32) × (k ≤ len)
unfolding is_held
held_each k len h =
    let a = both_true _ _ h in
    let b = both_true _ _ a.1 in
    (leb-true _ _ a.0, leb-true _ _ b.0, leb-true _ _ b.1)

pub each_held : (k len : ℕ) → 1 ≤ k → k ≤ 32 → k ≤ len → is_held k len ≡ true
unfolding is_held
each_held k len f g h = rw (le-leb _ _ f, le-leb _ _ g, le-leb _ _ h)

module _ (t : Table) (d : DepSet) where
  -- a slot of the set that is in the table gives its sequence
  pub sequence_held : (row col : ℕ) → in_row d row ≡ column col → holds t (place_of row col) ≡ true → sequence_in t d row ≡ (slot_of t (place_of row col)).seq
  sequence_held row col e h =
      let p = holds_each t (place_of row col) h in
      let q : suc col - 1 ≡ col = omega arith in
      rw (column_number (number d row) col e, each_held (suc col) (len_of t row) (omega arith) p.0 p.1, q)

  pub highest_at : (row col : ℕ) → row < 7 → in_row d row ≡ column col → holds t (place_of row col) ≡ true → (slot_of t (place_of row col)).seq ≤ highest_of t d
  unfolding highest_of
  highest_at row col l e h = omega (arith, sequence_held row col e h, greatest_at (sequence_in t d) 7 row l)

  pub highest_least : (b : ℕ) → ((row col : ℕ) → row < 7 → in_row d row ≡ column col → holds t (place_of row col) ≡ true → (slot_of t (place_of row col)).seq ≤ b) → highest_of t d ≤ b
  unfolding highest_of
  highest_least b h = greatest_at_most (sequence_in t d) b 7 (λ row l. go row l (number d row) refl (is_held (number d row) (len_of t row)) refl)
    where
      go : (row : ℕ) → row < 7 → (k : ℕ) → number d row ≡ k → (x : Bool) → is_held (number d row) (len_of t row) ≡ x → sequence_in t d row ≤ b
      go row l k e false f = rw f (omega arith)
      go row l zero e true f = absurd (omega (arith, held_each (number d row) (len_of t row) f))
      go row l (suc col) e true f =
          let p = held_each (number d row) (len_of t row) f in
          let i : in_row d row ≡ column col = rw e in
          let held : holds t (place_of row col) ≡ true = each_holds t (place_of row col) (omega arith) (omega arith) in
          rw (sequence_held row col i held) (h row col l i held)

-- of no slot it is 0
pub highest_none : (t : Table) → highest_of t empty_set ≡ 0
highest_none t =
    let q : highest_of t empty_set ≤ 0 = highest_least t empty_set 0 (λ row col l e held. absurd (omega (arith, column_number (number empty_set row) col e, empty_number row))) in
    omega arith
