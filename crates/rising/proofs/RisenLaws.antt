-- The bar's search, column by column.
use mathlib.Core.Path.{◌≡◌, refl, ap, ◌∙◌}
use mathlib.Core.Bool.{Bool, true, false}
use Prim.Native.Nat.{ℕ, zero, suc, ◌+◌, ◌*◌, ◌-◌, ◌≤◌, ◌<◌}
use native.Mathlib.Omega.{arith}
use borrow.Author.Tests.{le-leb, lt-leb}
use Rattle.base.specs.Status.{rank_of}
use Rattle.table.specs.Table.{len_of, bar_of, slot_no}
use Rattle.table.specs.declared.table.Table.{Table}
use Rattle.rising.specs.Bars.{is_committed, first_from, risen_bar}

module _ (passes : ℕ → Bool) where
  pub first_stops : (from many : ℕ) → 0 < many → passes from ≡ false → first_from from many passes ≡ from
  unfolding first_from
  first_stops from zero l e = absurd (omega arith)
  first_stops from (suc many) l e = rw e refl

  pub first_goes : (from many : ℕ) → 0 < many → passes from ≡ true → first_from from many passes ≡ first_from (from + 1) (many - 1) passes
  unfolding first_from
  first_goes from zero l e = absurd (omega arith)
  first_goes from (suc many) l e =
      let f : suc from ≡ from + 1 = omega arith in
      let m : suc many - 1 ≡ many = omega arith in
      rw (e, m, ← f) refl

module _ (t : Table) (row : ℕ) where
  abbrev pub committed_at : ℕ → Bool
  committed_at col = is_committed (slot_no t (32 * row + col))

  -- from a column on, to the row's end
  abbrev pub search_from : ℕ → ℕ
  search_from col = first_from col (len_of t row - col) committed_at

  pub search_begins : risen_bar t row ≡ search_from (bar_of t row)
  unfolding risen_bar
  search_begins = refl

  pub search_stops : (col : ℕ) → col < len_of t row → rank_of (slot_no t (32 * row + col)).status < 3 → search_from col ≡ col
  search_stops col l r = first_stops committed_at col (len_of t row - col) (omega arith) (lt-leb _ _ r)

  pub search_goes : (col : ℕ) → col < len_of t row → 3 ≤ rank_of (slot_no t (32 * row + col)).status → search_from col ≡ search_from (col + 1)
  search_goes col l r =
      let m : len_of t row - col - 1 ≡ len_of t row - (col + 1) = omega arith in
      first_goes committed_at col (len_of t row - col) (omega arith) (le-leb _ _ r) ∙ ap (λ (n : ℕ). first_from (col + 1) n committed_at) m

  pub search_ends : (col : ℕ) → len_of t row ≤ col → search_from col ≡ col
  unfolding first_from
  search_ends col l =
      let m : len_of t row - col ≡ 0 = omega arith in
      rw m refl
