-- The rows' slots below their bars: as they are gathered, and as they are attempted.
use mathlib.Core.Path.{◌≡◌, refl}
use mathlib.Core.Bool.{Bool, true, false, cond, ◌&&◌}
use mathlib.Core.List.{List, [], ◌∷◌, ◌++◌}
use Prim.Native.Nat.{ℕ, zero, suc, ◌+◌, ◌*◌, ◌-◌, ◌≤◌, ◌<◌}
use native.Mathlib.Omega.{arith}
use lib.Dec.{leb}
use borrow.Author.Tests.{leb-true}
use Rattle.base.proofs.Loops.{both_true}
use Rattle.table.specs.Place.{place_of}
use Rattle.table.specs.Table.{bar_of, slot_no}
use Rattle.table.specs.declared.place.Place.{Place}
use Rattle.table.specs.declared.table.Table.{Table}
use Rattle.rising.specs.Committed.{is_just_committed, is_tail, tail_in, tails_below}
use Rattle.rising.proofs.AttemptsLaws.{InRows, rows_append, Written, written_none}

-- ---- gathered

module _ (t : Table) where
  tail_bar : (row : ℕ) → is_tail t row ≡ true → (1 ≤ bar_of t row) × (bar_of t row ≤ 32)
  tail_bar row e =
      let w = both_true (leb 1 (bar_of t row)) (leb (bar_of t row) 32 && is_just_committed (slot_no t (32 * row + (bar_of t row - 1)))) e in
      (leb-true 1 (bar_of t row) w.0, leb-true (bar_of t row) 32 (both_true (leb (bar_of t row) 32) (is_just_committed (slot_no t (32 * row + (bar_of t row - 1)))) w.1).0)

  -- what is found in a row is a slot of it
  pub tail_in_rows : (row : ℕ) → row < 7 → InRows (tail_in t row)
  tail_in_rows row l = go (is_tail t row) refl
    where
      go : (b : Bool) → is_tail t row ≡ b → InRows (cond b (place_of row (bar_of t row - 1) ∷ []) [])
      go true e = let w = tail_bar row e in (l, omega arith, tt)
      go false e = tt

-- ---- attempted

pub tails_in_rows : (t : Table) (n : ℕ) → n ≤ 7 → InRows (tails_below t n)
unfolding tails_below
tails_in_rows t zero l = tt
tails_in_rows t (suc n) l = rows_append (tails_below t n) (tail_in t n) (tails_in_rows t n (omega arith)) (tail_in_rows t n (omega arith))

-- one row more
pub tails_next : (t : Table) (n : ℕ) (found : List Place) → found ≡ tail_in t n → tails_below t n ++ found ≡ tails_below t (n + 1)
unfolding tails_below
tails_next t n found is =
    let e : n + 1 ≡ suc n = omega arith in
    rw (e, is) refl

pub tails_begin : (t : Table) (list : List ℕ) (from : ℕ) → Written t (tails_below t 0) list from (record { table = t; end = from }) list
unfolding tails_below
tails_begin t list from = written_none t list from
