-- The run bar: the search for it, column by column, and what it says.
use mathlib.Core.Path.{◌≡◌, refl, ap, ◌∙◌}
use mathlib.Core.Logic.{◌⊎◌, inl, inr}
use mathlib.Core.Bool.{true, false}
use Prim.Native.Nat.{ℕ, ◌+◌, ◌-◌, ◌<◌, ◌≤◌}
use native.Mathlib.Decide.{dec_lt}
use native.Mathlib.Omega.{arith}
use Rattle.table.specs.Table.{len_of}
use Rattle.table.specs.declared.table.Table.{Table}
use Rattle.rising.specs.Bars.{first_from}
use Rattle.rising.proofs.RisenLaws.{first_stops, first_goes}
use Rattle.rising.proofs.BarLaws.{First, first_from_lem}
use Rattle.lines.specs.Bars.{ran_at, run_bar}

module _ (t : Table) (row : ℕ) where
  -- ---- the search from a column on, to the row's end

  abbrev pub run_from : ℕ → ℕ
  run_from col = first_from col (len_of t row - col) (ran_at t row)

  pub run_begins : run_bar t row ≡ run_from 0
  unfolding run_bar
  run_begins =
      let e : len_of t row ≡ len_of t row - 0 = omega arith in
      ap (λ (n : ℕ). first_from 0 n (ran_at t row)) e

  pub run_stops : (col : ℕ) → col < len_of t row → ran_at t row col ≡ false → run_from col ≡ col
  run_stops col l e = first_stops (ran_at t row) col (len_of t row - col) (omega arith) e

  pub run_goes : (col : ℕ) → col < len_of t row → ran_at t row col ≡ true → run_from col ≡ run_from (col + 1)
  run_goes col l e =
      let m : len_of t row - col - 1 ≡ len_of t row - (col + 1) = omega arith in
      first_goes (ran_at t row) col (len_of t row - col) (omega arith) e ∙ ap (λ (n : ℕ). first_from (col + 1) n (ran_at t row)) m

  pub run_ends : (col : ℕ) → len_of t row ≤ col → run_from col ≡ col
  unfolding first_from
  run_ends col l =
      let m : len_of t row - col ≡ 0 = omega arith in
      rw m refl

  -- ---- what it says

  run_first : First 0 (len_of t row) (ran_at t row) (run_bar t row)
  unfolding run_bar
  run_first = first_from_lem 0 (len_of t row) (ran_at t row)

  -- not past the row's slots
  pub run_bar_at_most : run_bar t row ≤ len_of t row
  run_bar_at_most = omega (arith, run_first.at_most)

  -- every slot below it has run
  pub run_bar_over : (col : ℕ) → col < run_bar t row → ran_at t row col ≡ true
  run_bar_over col l = run_first.over col (omega arith) l

  -- the next is absent or has not run
  pub run_bar_stops : (len_of t row ≤ run_bar t row) ⊎ (ran_at t row (run_bar t row) ≡ false)
  run_bar_stops = elim (dec_lt (run_bar t row) (len_of t row)) [
    | yes l ↦ inr (run_first.stops (omega arith))
    | no n ↦ inl (omega arith)
  ]
