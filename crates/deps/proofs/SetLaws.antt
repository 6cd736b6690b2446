-- Laws of dependency sets, over any number of rows: union is the least upper bound, and bounds are kept.
use mathlib.Core.Path.{◌≡◌, refl, ap, sym, ◌∙◌}
use mathlib.Core.List.{List, [], ◌∷◌}
use mathlib.Core.Logic.{◌⊎◌, inl, inr, ⊎_elim}
use mathlib.Core.Bool.{Bool, true, false, ◌&&◌}
use Prim.Native.Nat.{ℕ, suc, zero, ◌<◌, max}
use native.Mathlib.Omega.{arith}
use borrow.Author.Tests.{lt-ltb, ltb-true, ltb-false, leb-true, leb-false, eqb-true, eqb-false, eq-eqb}
use lib.Dec.{ltb, leb, eqb}
use lib.Pointwise.{pointwise}
use Rattle.std.proofs.lemmas.Slice.Eq.{bytes_eq-Decides}
use Rattle.std.specs.Cmp.{both_ways}
use lib.ListN.{length, get_or, set}
use lib.Seq.{ext_get_or, set_out, set-set, get_or-set_same, get_or-set_other}
use Rattle.deps.specs.Sets.{Dep, nothing, column, dep_of, set_of, number, in_row, empty_set, dep_fits, row_fits, set_fits, greater_dep, greater_each, union_of, raised_to, same_row, same_set, AtMost}
use Rattle.deps.specs.declared.sets.DepSet.{DepSet}
use Rattle.base.proofs.Lists.{replicate_at}
use Rattle.base.proofs.Loops.{both_true, all_at, all_each}

-- ---- union, row by row

pub length_greater : (a b : List ℕ) → length (greater_each a b) ≡ max (length a) (length b)
unfolding greater_each
length_greater [] b = omega arith
length_greater (x ∷ a) [] = omega arith
length_greater (x ∷ a) (y ∷ b) = omega (arith, length_greater a b)

pub greater_at : (a b : List ℕ) (i : ℕ) → get_or (greater_each a b) i 0 ≡ max (get_or a i 0) (get_or b i 0)
unfolding greater_each
greater_at [] b i = omega arith
greater_at (x ∷ a) [] i = omega arith
greater_at (x ∷ a) (y ∷ b) zero = refl
greater_at (x ∷ a) (y ∷ b) (suc i) = greater_at a b i

pub union_rows : (a b : DepSet) → length (union_of a b).cols ≡ max (length a.cols) (length b.cols)
unfolding union_of
union_rows a b = length_greater a.cols b.cols

pub union_number : (a b : DepSet) (row : ℕ) → number (union_of a b) row ≡ max (number a row) (number b row)
unfolding union_of
union_number a b row = greater_at a.cols b.cols row

dep_max : (j k : ℕ) → dep_of (max j k) ≡ greater_dep (dep_of j) (dep_of k)
dep_max zero k = let e : max 0 k ≡ k = omega arith in rw e
dep_max (suc j) zero = let e : max (suc j) 0 ≡ suc j = omega arith in rw e
dep_max (suc j) (suc k) = let e : max (suc j) (suc k) ≡ suc (max j k) = omega arith in rw e

-- the greater column, or the only one
pub union_in_row : (a b : DepSet) (row : ℕ) → in_row (union_of a b) row ≡ greater_dep (in_row a row) (in_row b row)
union_in_row a b row = ap dep_of (union_number a b row) ∙ dep_max (number a row) (number b row)

-- ---- union is the least upper bound

pub union_left : (a b : DepSet) → AtMost a (union_of a b)
union_left a b row = omega (arith, union_number a b row)

pub union_right : (a b : DepSet) → AtMost b (union_of a b)
union_right a b row = omega (arith, union_number a b row)

pub union_least : (a b d : DepSet) → AtMost a d → AtMost b d → AtMost (union_of a b) d
union_least a b d f g row = omega (arith, union_number a b row, f row, g row)

pub at_most_trans : (a b d : DepSet) → AtMost a b → AtMost b d → AtMost a d
at_most_trans a b d f g row = omega (arith, f row, g row)

pub at_most_both : (a b : DepSet) → length a.cols ≡ length b.cols → AtMost a b → AtMost b a → a ≡ b
at_most_both a b e f g =
    ap set_of (ext_get_or 0 a.cols b.cols e (λ i h. omega (arith, f i, g i)))

-- ---- so it is commutative, associative, idempotent, and EMPTY is neutral

equal_rows : (a b : DepSet) → length a.cols ≡ length b.cols → ((row : ℕ) → number a row ≡ number b row) → a ≡ b
equal_rows a b e f = at_most_both a b e (λ row. omega (arith, f row)) (λ row. omega (arith, f row))

pub union_comm : (a b : DepSet) → union_of a b ≡ union_of b a
union_comm a b =
    equal_rows (union_of a b) (union_of b a)
    (omega (arith, union_rows a b, union_rows b a))
    (λ row. omega (arith, union_number a b row, union_number b a row))

pub union_assoc : (a b d : DepSet) → union_of (union_of a b) d ≡ union_of a (union_of b d)
union_assoc a b d =
    equal_rows (union_of (union_of a b) d) (union_of a (union_of b d))
    (omega (arith, union_rows (union_of a b) d, union_rows a b, union_rows a (union_of b d), union_rows b d))
    (λ row. omega (arith, union_number (union_of a b) d row, union_number a b row, union_number a (union_of b d) row, union_number b d row))

pub union_idem : (a : DepSet) → union_of a a ≡ a
union_idem a = equal_rows (union_of a a) a (omega (arith, union_rows a a)) (λ row. omega (arith, union_number a a row))

pub empty_number : (row : ℕ) → number empty_set row ≡ 0
empty_number row = replicate_at 7 row 0

pub empty_least : (a : DepSet) → AtMost empty_set a
empty_least a row = omega (arith, empty_number row)

pub union_empty : (a : DepSet) → length a.cols ≡ 7 → union_of empty_set a ≡ a
union_empty a e =
    equal_rows (union_of empty_set a) a
    (omega (arith, union_rows empty_set a, e))
    (λ row. omega (arith, union_number empty_set a row, empty_number row))

-- ---- the bounds of n rows: refusal 4 exactly when

-- the test of one row, on the number
pub dep_fits_number : (n row k : ℕ) → (k ≡ 0 → ⊥) → dep_fits n row (dep_of k) ≡ (ltb row n && leb k 32)
dep_fits_number n row zero h = absurd (h refl)
dep_fits_number n row (suc c) h = refl

pub fits_each : (n : ℕ) (d : DepSet) → set_fits n d ≡ true → (row col : ℕ) → row < 7 → in_row d row ≡ column col → (row < n) × (col < 32)
unfolding set_fits
fits_each n d h row col l e =
    let t : dep_fits n row (column col) ≡ true = ap (dep_fits n row) (sym e) ∙ all_at (row_fits n d) 7 h row l in
    let p = both_true (ltb row n) (ltb col 32) t in
    (ltb-true row n p.0, ltb-true col 32 p.1)

pub each_fits : (n : ℕ) (d : DepSet) → ((row col : ℕ) → row < 7 → in_row d row ≡ column col → (row < n) × (col < 32)) → set_fits n d ≡ true
unfolding set_fits
each_fits n d h = all_each (row_fits n d) 7 (λ row l. go row l (in_row d row) refl)
  where
    go : (row : ℕ) → row < 7 → (e : Dep) → in_row d row ≡ e → dep_fits n row e ≡ true
    go row l nothing e = refl
    go row l (column col) e = rw (lt-ltb row n (h row col l e).0, lt-ltb col 32 (h row col l e).1)

pub empty_fits : (n : ℕ) → set_fits n empty_set ≡ true
unfolding set_fits
empty_fits n = all_each (row_fits n empty_set) 7 (λ row l. rw (empty_number row))

-- either of two numbers that fit a row
max_fits : (n row j k : ℕ) → dep_fits n row (dep_of j) ≡ true → dep_fits n row (dep_of k) ≡ true → dep_fits n row (dep_of (max j k)) ≡ true
max_fits n row j k f g = go (leb j k) refl
  where
    go : (b : Bool) → leb j k ≡ b → dep_fits n row (dep_of (max j k)) ≡ true
    go true h = let e : max j k ≡ k = omega (arith, leb-true j k h) in rw e g
    go false h = let e : max j k ≡ j = omega (arith, leb-false j k h) in rw e f

pub union_fits : (n : ℕ) (a b : DepSet) → set_fits n a ≡ true → set_fits n b ≡ true → set_fits n (union_of a b) ≡ true
unfolding set_fits
union_fits n a b f g =
    all_each (row_fits n (union_of a b)) 7
    (λ row l. rw (union_number a b row) (max_fits n row (number a row) (number b row) (all_at (row_fits n a) 7 f row l) (all_at (row_fits n b) 7 g row l)))

-- ---- raising a row

-- its row, and no other
pub raised_row : (d : DepSet) (row col : ℕ) → row < length d.cols → number (raised_to d row col) row ≡ max (number d row) (suc col)
unfolding raised_to
raised_row d row col l = get_or-set_same d.cols row _ 0 l

pub raised_other : (d : DepSet) (row col other : ℕ) → (other ≡ row → ⊥) → number (raised_to d row col) other ≡ number d other
unfolding raised_to
raised_other d row col other h = get_or-set_other d.cols row other _ 0 h

-- so every row is as it was, or raised
abbrev KeptOrRaised : DepSet → ℕ → ℕ → ℕ → Type 0
KeptOrRaised d row col r = (number (raised_to d row col) r ≡ number d r) ⊎ ((r ≡ row) × (number (raised_to d row col) r ≡ max (number d r) (suc col)))

raised_cases : (d : DepSet) (row col r : ℕ) → KeptOrRaised d row col r
unfolding raised_to
raised_cases d row col r = go (eqb r row) refl (ltb row (length d.cols)) refl
  where
    go : (b : Bool) → eqb r row ≡ b → (i : Bool) → ltb row (length d.cols) ≡ i → KeptOrRaised d row col r
    go false e i f = inl (raised_other d row col r (eqb-false r row e))
    go true e false f = inl (ap (λ (l : List ℕ). get_or l r 0) (set_out d.cols row _ (ltb-false row _ f)))
    go true e true f = let q = eqb-true r row e in inr (q, rw q (raised_row d row col (ltb-true row _ f)))

pub raised_lowers_nothing : (d : DepSet) (row col : ℕ) → AtMost d (raised_to d row col)
raised_lowers_nothing d row col r = ⊎_elim (λ e. omega (arith, e)) (λ e. omega (arith, e.1)) (raised_cases d row col r)

pub raised_fits : (n : ℕ) (d : DepSet) (row col : ℕ) → row < n → col < 32 → set_fits n d ≡ true → set_fits n (raised_to d row col) ≡ true
unfolding set_fits
raised_fits n d row col l m h = all_each (row_fits n (raised_to d row col)) 7 (λ r i. keep r (all_at (row_fits n d) 7 h r i) (raised_cases d row col r))
  where
    raised_ok : dep_fits n row (column col) ≡ true
    raised_ok = rw (lt-ltb row n l, lt-ltb col 32 m)

    keep : (r : ℕ) → dep_fits n r (in_row d r) ≡ true → KeptOrRaised d row col r → dep_fits n r (in_row (raised_to d row col) r) ≡ true
    keep r f (inl e) = rw e f
    keep r f (inr (q, e)) = rw e (max_fits n r (number d r) (suc col) f (rw q raised_ok))

-- twice to one column is once
pub raised_twice : (d : DepSet) (row col : ℕ) → raised_to (raised_to d row col) row col ≡ raised_to d row col
unfolding raised_to
raised_twice d row col = go (ltb row (length d.cols)) refl
  where
    go : (i : Bool) → ltb row (length d.cols) ≡ i → raised_to (raised_to d row col) row col ≡ raised_to d row col
    go true f =
        let e : max (number (raised_to d row col) row) (suc col) ≡ max (number d row) (suc col) = omega (arith, raised_row d row col (ltb-true row _ f)) in
        ap set_of (set-set d.cols row _ _ ∙ ap (set d.cols row) e)
    go false f = ap (λ (x : DepSet). raised_to x row col) (ap set_of (set_out d.cols row _ (ltb-false row _ f)))

-- ---- equality of two sets

pub same_sets : (a b : DepSet) → length a.cols ≡ 7 → length b.cols ≡ 7 → same_set a b ≡ true → a ≡ b
unfolding same_set
same_sets a b la lb h =
    ap set_of
    (ext_get_or 0 a.cols b.cols (omega arith) (λ i l. eqb-true (number a i) (number b i) (all_at (same_row a b) 7 h i (omega arith))))

pub same_itself : (a : DepSet) → same_set a a ≡ true
unfolding same_set
same_itself a = all_each (same_row a a) 7 (λ row l. eq-eqb (number a row) (number a row) refl)

-- it says what `==` of the columns says
pub same_pointwise : (a b : DepSet) → length a.cols ≡ 7 → length b.cols ≡ 7 → pointwise eqb a.cols b.cols ≡ same_set a b
same_pointwise a b la lb =
    let d = bytes_eq-Decides a.cols b.cols in
    both_ways (pointwise eqb a.cols b.cols) (same_set a b) (λ h. ap (λ (l : List ℕ). same_set a (set_of l)) (sym (d.0 h)) ∙ same_itself a) (λ h. d.1 (ap (λ (x : DepSet). x.cols) (same_sets a b la lb h)))

-- so it is an equivalence, whatever the lengths
pub sym_sets : (a b : DepSet) → same_set a b ≡ true → same_set b a ≡ true
unfolding same_set
sym_sets a b h = all_each (same_row b a) 7 (λ row l. eq-eqb (number b row) (number a row) (sym (eqb-true (number a row) (number b row) (all_at (same_row a b) 7 h row l))))

pub trans_sets : (a b d : DepSet) → same_set a b ≡ true → same_set b d ≡ true → same_set a d ≡ true
unfolding same_set
trans_sets a b d h k =
    all_each (same_row a d) 7 (λ row l. eq-eqb (number a row) (number d row) (eqb-true (number a row) (number b row) (all_at (same_row a b) 7 h row l) ∙ eqb-true (number b row) (number d row) (all_at (same_row b d) 7 k row l)))
