-- Laws of the key columns: identify is the least set above the columns of each key named; refresh raises one row of each put key, and nothing else.
use mathlib.Core.Path.{◌≡◌, refl, ap, ◌∙◌}
use mathlib.Core.List.Memᴰ
use mathlib.Core.List.{List, [], ◌∷◌, map, foldl, Memᴰ}
use mathlib.Core.Logic.{◌⊎◌, inl, inr, ⊎_elim}
use mathlib.Core.Bool.{Bool, true, false}
use Prim.Native.Nat.{ℕ, ◌<◌}
use native.Mathlib.Omega.{arith}
use borrow.Author.Tests.{ltb-true, ltb-false, eqb-true, eqb-false}
use lib.Dec.{ltb, eqb}
use lib.ListN.{length, replicate, length-set, get_or-eq_default}
use lib.Seq.{set_out, get_or-set_same, get_or-set_other}
use Rattle.deps.specs.Sets.{set_of, number, empty_set, set_fits, union_of, raised_to, AtMost}
use Rattle.deps.specs.Batches.{named_keys}
use Rattle.deps.specs.declared.sets.DepSet.{DepSet}
use Rattle.deps.specs.declared.batches.Batch.{Batch}
use Rattle.keys.specs.Columns.{keys_of, empty_keys, columns_of, key_fits, keys_fit, join_key, identify_of, put_keys, raise_key, refreshed_by}
use Rattle.keys.specs.declared.columns.Keys.{Keys}
use Rattle.base.proofs.Lists.{replicate_at, fold_keeps}
use Rattle.base.proofs.Loops.{all_at, all_each}
use Rattle.deps.proofs.SetLaws.{union_left, union_right, union_least, at_most_trans, empty_least, empty_fits, union_fits, raised_other, raised_lowers_nothing, raised_fits, raised_twice}

-- ---- identify

module _ (k : Keys) where
  above : (d : DepSet) (l : List ℕ) → AtMost d (foldl (join_key k) d l)
  above d l =
      fold_keeps (λ (s : DepSet). AtMost d s) (join_key k) (λ s key h. at_most_trans d s (join_key k s key) h (union_left s (columns_of k key))) l d (λ row. omega arith)

  above_each : (l : List ℕ) (d : DepSet) (key : ℕ) → Memᴰ key l → AtMost (columns_of k key) (foldl (join_key k) d l)
  above_each [] d key m = absurd (Memᴰ.not-nil m)
  above_each (q ∷ l) d key m =
      ⊎_elim
      (λ (e : key ≡ q). at_most_trans (columns_of k key) (join_key k d q) (foldl (join_key k) (join_key k d q) l) (rw e (union_right d (columns_of k q))) (above (join_key k d q) l))
      (λ (t : Memᴰ key l). above_each l (join_key k d q) key t)
      (Memᴰ.cases_cons m)

  least_above : (l : List ℕ) (d e : DepSet) → AtMost d e → ((key : ℕ) → Memᴰ key l → AtMost (columns_of k key) e) → AtMost (foldl (join_key k) d l) e
  least_above [] d e h each = h
  least_above (q ∷ l) d e h each =
      least_above l (join_key k d q) e (union_least d (columns_of k q) e h (each q (Memᴰ.head refl))) (λ key m. each key (Memᴰ.tail m))

  -- the union over the keys named
  pub identify_union : (b : Batch) → identify_of k b ≡ foldl union_of empty_set (map (columns_of k) (named_keys b))
  unfolding identify_of
  identify_union b = over (named_keys b) empty_set
    where
      over : (l : List ℕ) (d : DepSet) → foldl (join_key k) d l ≡ foldl union_of d (map (columns_of k) l)
      over [] d = refl
      over (key ∷ l) d = over l (join_key k d key)

  -- which has the columns of each, and nothing that they do not ask for
  pub identify_each : (b : Batch) (key : ℕ) → Memᴰ key (named_keys b) → AtMost (columns_of k key) (identify_of k b)
  unfolding identify_of
  identify_each b key m = above_each (named_keys b) empty_set key m

  pub identify_least : (b : Batch) (d : DepSet) → ((key : ℕ) → Memᴰ key (named_keys b) → AtMost (columns_of k key) d) → AtMost (identify_of k b) d
  unfolding identify_of
  identify_least b d each = least_above (named_keys b) empty_set d (empty_least d) each

  pub columns_fit : (n : ℕ) → length k.cols ≡ 256 → keys_fit n k ≡ true → (key : ℕ) → set_fits n (columns_of k key) ≡ true
  unfolding keys_fit
  columns_fit n l h key = go (ltb key 256) refl
    where
      go : (b : Bool) → ltb key 256 ≡ b → set_fits n (columns_of k key) ≡ true
      go true e = all_at (key_fits n k) 256 h key (ltb-true key 256 e)
      go false e = rw (get_or-eq_default k.cols (replicate 7 0) {n = key} (omega (arith, ltb-false key 256 e))) (empty_fits n)

  pub identify_fits : (n : ℕ) (b : Batch) → length k.cols ≡ 256 → keys_fit n k ≡ true → set_fits n (identify_of k b) ≡ true
  unfolding identify_of
  identify_fits n b l h =
      fold_keeps (λ (d : DepSet). set_fits n d ≡ true) (join_key k) (λ d key f. union_fits n d (columns_of k key) f (columns_fit n l h key)) (named_keys b) empty_set (empty_fits n)

-- ---- refresh

module _ (row col : ℕ) where
  abbrev raise_all : Keys → List ℕ → Keys
  raise_all k keys = foldl (raise_key row col) k keys

  abbrev Raised : Keys → Keys → ℕ → Type 0
  Raised k r key = columns_of r key ≡ raised_to (columns_of k key) row col

  abbrev Kept : Keys → Keys → ℕ → Type 0
  Kept k r key = columns_of r key ≡ columns_of k key

  pub length_raise : (keys : List ℕ) (k : Keys) → length (raise_all k keys).cols ≡ length k.cols
  length_raise [] k = refl
  length_raise (key ∷ keys) k = length_raise keys (raise_key row col k key) ∙ simp length-set

  one_own : (k : Keys) (key : ℕ) → key < length k.cols → Raised k (raise_key row col k key) key
  one_own k key l = ap set_of (get_or-set_same k.cols key _ (replicate 7 0) l)

  one_other : (k : Keys) (q key : ℕ) → (key ≡ q → ⊥) → Kept k (raise_key row col k q) key
  one_other k q key h = ap set_of (get_or-set_other k.cols q key _ (replicate 7 0) h)

  one_either : (k : Keys) (q key : ℕ) → Kept k (raise_key row col k q) key ⊎ Raised k (raise_key row col k q) key
  one_either k q key = go (eqb key q) refl (ltb q (length k.cols)) refl
    where
      go : (b : Bool) → eqb key q ≡ b → (i : Bool) → ltb q (length k.cols) ≡ i → Kept k (raise_key row col k q) key ⊎ Raised k (raise_key row col k q) key
      go false e i f = inl (one_other k q key (eqb-false key q e))
      go true e false f = inl (ap (λ (l : List (List ℕ)). columns_of (keys_of l) key) (set_out k.cols q _ (ltb-false q _ f)))
      go true e true f = let s = eqb-true key q e in inr (rw s (one_own k q (ltb-true q _ f)))

  -- a key that is raised once, and before or after it once more or not, is raised
  then_raised : (k s r : Keys) (key : ℕ) → Kept k s key ⊎ Raised k s key → Raised s r key → Raised k r key
  then_raised k s r key (inl e) f = f ∙ ap (λ (d : DepSet). raised_to d row col) e
  then_raised k s r key (inr e) f = f ∙ ap (λ (d : DepSet). raised_to d row col) e ∙ raised_twice (columns_of k key) row col

  raised_then : (k s r : Keys) (key : ℕ) → Raised k s key → Kept s r key ⊎ Raised s r key → Raised k r key
  raised_then k s r key e (inl f) = f ∙ e
  raised_then k s r key e (inr f) = then_raised k s r key (inr e) f

  either : (keys : List ℕ) (k : Keys) (key : ℕ) → Kept k (raise_all k keys) key ⊎ Raised k (raise_all k keys) key
  either [] k key = inl refl
  either (q ∷ keys) k key = join (raise_key row col k q) (raise_all (raise_key row col k q) keys) (one_either k q key) (either keys (raise_key row col k q) key)
    where
      join : (s r : Keys) → Kept k s key ⊎ Raised k s key → Kept s r key ⊎ Raised s r key → Kept k r key ⊎ Raised k r key
      join s r (inl e) (inl f) = inl (f ∙ e)
      join s r (inl e) (inr f) = inr (then_raised k s r key (inl e) f)
      join s r (inr e) x = inr (raised_then k s r key e x)

  own : (keys : List ℕ) (k : Keys) (key : ℕ) → key < length k.cols → Memᴰ key keys → Raised k (raise_all k keys) key
  own [] k key l m = absurd (Memᴰ.not-nil m)
  own (q ∷ keys) k key l m =
      ⊎_elim
      (λ (e : key ≡ q). raised_then k (raise_key row col k q) (raise_all (raise_key row col k q) keys) key (rw e (one_own k q (rw e at l))) (either keys (raise_key row col k q) key))
      (λ (t : Memᴰ key keys). then_raised k (raise_key row col k q) (raise_all (raise_key row col k q) keys) key (one_either k q key) (own keys (raise_key row col k q) key (simp length-set l) t))
      (Memᴰ.cases_cons m)

  other : (keys : List ℕ) (k : Keys) (key : ℕ) → (Memᴰ key keys → ⊥) → Kept k (raise_all k keys) key
  other [] k key out = refl
  other (q ∷ keys) k key out = other keys (raise_key row col k q) key (λ m. out (Memᴰ.tail m)) ∙ one_other k q key (λ e. out (Memᴰ.head e))

  -- each put key is raised in the slot's row, any other key kept
  pub refresh_put_key : (k : Keys) (b : Batch) (key : ℕ) → key < length k.cols → Memᴰ key (put_keys b) → columns_of (refreshed_by k row col b) key ≡ raised_to (columns_of k key) row col
  unfolding refreshed_by
  refresh_put_key k b key l m = own (put_keys b) k key l m

  pub refresh_other_key : (k : Keys) (b : Batch) (key : ℕ) → (Memᴰ key (put_keys b) → ⊥) → columns_of (refreshed_by k row col b) key ≡ columns_of k key
  unfolding refreshed_by
  refresh_other_key k b key out = other (put_keys b) k key out

  pub refresh_other_row : (k : Keys) (b : Batch) (key r : ℕ) → (r ≡ row → ⊥) → number (columns_of (refreshed_by k row col b) key) r ≡ number (columns_of k key) r
  unfolding refreshed_by
  refresh_other_row k b key r out =
      ⊎_elim
      (λ e. ap (λ (d : DepSet). number d r) e)
      (λ e. ap (λ (d : DepSet). number d r) e ∙ raised_other (columns_of k key) row col r out)
      (either (put_keys b) k key)

  pub refresh_lowers_nothing : (k : Keys) (b : Batch) (key : ℕ) → AtMost (columns_of k key) (columns_of (refreshed_by k row col b) key)
  unfolding refreshed_by
  refresh_lowers_nothing k b key =
      ⊎_elim
      (λ e r. omega (arith, ap (λ (d : DepSet). number d r) e))
      (λ e r. omega (arith, ap (λ (d : DepSet). number d r) e, raised_lowers_nothing (columns_of k key) row col r))
      (either (put_keys b) k key)

  pub refresh_fits : (n : ℕ) (k : Keys) (b : Batch) → row < n → col < 32 → keys_fit n k ≡ true → keys_fit n (refreshed_by k row col b) ≡ true
  unfolding keys_fit refreshed_by
  refresh_fits n k b l m h =
      all_each (key_fits n (refreshed_by k row col b)) 256
      (λ key i. ⊎_elim
      (λ e. ap (set_fits n) e ∙ all_at (key_fits n k) 256 h key i)
      (λ e. ap (set_fits n) e ∙ raised_fits n (columns_of k key) row col l m (all_at (key_fits n k) 256 h key i))
      (either (put_keys b) k key))

-- ---- no column for any key

pub empty_columns : (key : ℕ) → columns_of empty_keys key ≡ empty_set
empty_columns key = ap set_of (replicate_at 256 key (replicate 7 0))

pub empty_keys_fit : (n : ℕ) → keys_fit n empty_keys ≡ true
unfolding keys_fit
empty_keys_fit n = all_each (key_fits n empty_keys) 256 (λ key l. ap (set_fits n) (empty_columns key) ∙ empty_fits n)
