-- Dependency sets: per row nothing or a column.
use Rattle.std.specs.Prelude.{List, [], ◌∷◌, Bool, true, ◌&&◌, ltb, eqb, ℕ, zero, suc, max, ◌≤◌, replicate, get_or, set}
use Rattle.base.specs.Below.{all_below}
use Rattle.deps.specs.declared.sets.DepSet.{DepSet}

pub data Dep : Type 0 where
  nothing : Dep
  column : ℕ → Dep

-- a set holds a number for each row: 0 for nothing, c + 1 for the column c
abbrev pub dep_of : ℕ → Dep
dep_of zero = nothing
dep_of (suc c) = column c

abbrev pub set_of : List ℕ → DepSet
set_of numbers = record { cols = numbers }

abbrev pub number : DepSet → ℕ → ℕ
number d row = get_or d.cols row 0

-- what the set has in a row
abbrev pub in_row : DepSet → ℕ → Dep
in_row d row = dep_of (number d row)

abbrev pub empty_set : DepSet
empty_set = set_of (replicate 7 0)

-- within the bounds of n rows: no dependency at column 32 or more, none in a row n or more; else refusal 4
abbrev pub dep_fits : ℕ → ℕ → Dep → Bool
dep_fits n row nothing = true
dep_fits n row (column c) = ltb row n && ltb c 32

abbrev pub row_fits : ℕ → DepSet → ℕ → Bool
row_fits n d row = dep_fits n row (in_row d row)

unfoldable pub set_fits : ℕ → DepSet → Bool
set_fits n d = all_below 7 (row_fits n d)

-- the greater column, or the only one
abbrev pub greater_dep : Dep → Dep → Dep
greater_dep nothing e = e
greater_dep (column c) nothing = column c
greater_dep (column c) (column e) = column (max c e)

-- on numbers that is the greater number, row by row
unfoldable pub greater_each : List ℕ → List ℕ → List ℕ
greater_each [] ys = ys
greater_each (x ∷ xs) [] = x ∷ xs
greater_each (x ∷ xs) (y ∷ ys) = max x y ∷ greater_each xs ys

unfoldable pub union_of : DepSet → DepSet → DepSet
union_of a b = set_of (greater_each a.cols b.cols)

-- the row raised to at least the column
unfoldable pub raised_to : DepSet → ℕ → ℕ → DepSet
raised_to d row col = set_of (set d.cols row (max (number d row) (suc col)))

abbrev pub same_row : DepSet → DepSet → ℕ → Bool
same_row a b row = eqb (number a row) (number b row)

unfoldable pub same_set : DepSet → DepSet → Bool
same_set a b = all_below 7 (same_row a b)

-- in no row more than the other has
abbrev pub AtMost : DepSet → DepSet → Type 0
AtMost a b = (row : ℕ) → number a row ≤ number b row
