-- What a loop has shown so far, law by law: a test of all below a bound, a count, an array filled from the front, a fold over a batch's requests.
use mathlib.Core.Path.{◌≡◌, refl, ap, sym, ◌∙◌}
use mathlib.Core.List.{List, [], ◌∷◌, ◌++◌, append_assoc, append-nil, foldl, foldl-append, flat_map}
use mathlib.Core.Bool.{Bool, true, false, cond, ◌&&◌, and-false, true≢false}
use mathlib.Core.Logic.{⊎_elim}
use Prim.Native.Nat.{ℕ, suc, zero, ◌+◌, ◌<◌, ◌≤◌, max}
use native.Mathlib.Nat.{eq-or-lt_of_le, le_of_suc-le-suc}
use native.Mathlib.Numerals.{add-one}
use native.Mathlib.Decide.{dec_lt}
use native.Mathlib.Omega.{arith}
use lib.ListN.{length, get_or, take, drop, set, drop_of_length-le, length-append, get_or-append}
use lib.Seq.{take_all, take-suc, drop-cons, length-take-le, append_snoc, set_at, set-get_or, get_or_at}
use Rattle.base.specs.Below.{all_below, count_below, greatest_below, list_below}

-- ---- a test of all below a bound

pub both_true : (x y : Bool) → (x && y) ≡ true → (x ≡ true) × (y ≡ true)
both_true true y e = (refl, e)
both_true false y e = absurd (true≢false (sym e))

pub all_none : (p : ℕ → Bool) → all_below 0 p ≡ true
unfolding all_below
all_none p = refl

pub all_more : (p : ℕ → Bool) (i : ℕ) → all_below i p ≡ true → p i ≡ true → all_below (i + 1) p ≡ true
unfolding all_below
all_more p i e h = rw (add-one, e, h)

-- one that fails
pub all_not : (p : ℕ → Bool) (n i : ℕ) → i < n → p i ≡ false → all_below n p ≡ false
unfolding all_below
all_not p zero i l h = absurd (omega arith)
all_not p (suc n) i l h =
    ⊎_elim
    (λ (e : i ≡ n). rw (← e, h, and-false))
    (λ (k : i < n). rw (all_not p n i k h))
    (eq-or-lt_of_le (le_of_suc-le-suc l))

-- what a test that passes at all of them says of each, and the other way
pub all_at : (p : ℕ → Bool) (n : ℕ) → all_below n p ≡ true → (i : ℕ) → i < n → p i ≡ true
all_at p n h i l = go (p i) refl
  where
    go : (b : Bool) → p i ≡ b → p i ≡ true
    go true e = e
    go false e = absurd (true≢false (sym h ∙ all_not p n i l e))

pub all_each : (p : ℕ → Bool) (n : ℕ) → ((i : ℕ) → i < n → p i ≡ true) → all_below n p ≡ true
unfolding all_below
all_each p zero h = refl
all_each p (suc n) h = rw (all_each p n (λ i l. h i (omega arith)), h n (omega arith))

-- where not all pass, one fails
pub some_fails : (p : ℕ → Bool) (n : ℕ) → all_below n p ≡ false → (i : ℕ) × (i < n) × (p i ≡ false)
unfolding all_below
some_fails p zero h = absurd (true≢false h)
some_fails p (suc n) h = go (some_fails p n) (all_below n p) refl (p n) refl h
  where
    go : (all_below n p ≡ false → (i : ℕ) × (i < n) × (p i ≡ false)) → (a : Bool) → all_below n p ≡ a → (b : Bool) → p n ≡ b → (a && b) ≡ false → (i : ℕ) × (i < suc n) × (p i ≡ false)
    go ih false e b f k = let s = ih e in (s.0, omega (arith, s.1), s.2)
    go ih true e false f k = (n, omega arith, f)
    go ih true e true f k = absurd (true≢false k)

-- ---- how many pass, and the greatest

pub count_none : (p : ℕ → Bool) → 0 ≡ count_below 0 p
unfolding count_below
count_none p = refl

pub count_in : (p : ℕ → Bool) (i k : ℕ) → p i ≡ true → k ≡ count_below i p → k + 1 ≡ count_below (i + 1) p
unfolding count_below
count_in p i k h e = rw (add-one k, add-one i, h, e)

pub count_out : (p : ℕ → Bool) (i k : ℕ) → p i ≡ false → k ≡ count_below i p → k ≡ count_below (i + 1) p
unfolding count_below
count_out p i k h e = rw (add-one, h, e)

pub count_same : (p q : ℕ → Bool) (n : ℕ) → ((i : ℕ) → i < n → p i ≡ q i) → count_below n p ≡ count_below n q
unfolding count_below
count_same p q zero h = refl
count_same p q (suc n) h = rw (h n (omega arith), count_same p q n (λ i l. h i (omega arith)))

pub count_less : (p q : ℕ → Bool) (n : ℕ) → ((i : ℕ) → i < n → p i ≡ true → q i ≡ true) → count_below n p ≤ count_below n q
unfolding count_below
count_less p q zero h = omega arith
count_less p q (suc n) h = go (p n) refl (q n) refl (count_less p q n (λ i l. h i (omega arith)))
  where
    go : (a : Bool) → p n ≡ a → (b : Bool) → q n ≡ b → count_below n p ≤ count_below n q → cond a (suc (count_below n p)) (count_below n p) ≤ cond b (suc (count_below n q)) (count_below n q)
    go true e true f k = omega arith
    go true e false f k = absurd (true≢false (sym (h n (omega arith) e) ∙ f))
    go false e true f k = omega arith
    go false e false f k = k

-- two tests that no number passes both of, each no weaker than a third, together count no more than it
pub count_parts : (p q r : ℕ → Bool) (n : ℕ) → ((i : ℕ) → i < n → p i ≡ true → (r i ≡ true) × (q i ≡ false)) → ((i : ℕ) → i < n → q i ≡ true → r i ≡ true) → count_below n p + count_below n q ≤ count_below n r
unfolding count_below
count_parts p q r zero f g = omega arith
count_parts p q r (suc n) f g =
    go (p n) refl (q n) refl (r n) refl (count_parts p q r n (λ i l. f i (omega arith)) (λ i l. g i (omega arith)))
  where
    go : (a : Bool) → p n ≡ a → (b : Bool) → q n ≡ b → (c : Bool) → r n ≡ c → count_below n p + count_below n q ≤ count_below n r
        → cond a (suc (count_below n p)) (count_below n p) + cond b (suc (count_below n q)) (count_below n q) ≤ cond c (suc (count_below n r)) (count_below n r)
    go true e true k c d i = absurd (true≢false (sym k ∙ (f n (omega arith) e).1))
    go true e false k true d i = omega arith
    go true e false k false d i = absurd (true≢false (sym (f n (omega arith) e).0 ∙ d))
    go false e true k true d i = omega arith
    go false e true k false d i = absurd (true≢false (sym (g n (omega arith) k) ∙ d))
    go false e false k true d i = omega arith
    go false e false k false d i = i

pub count_at_most : (p : ℕ → Bool) (n : ℕ) → count_below n p ≤ n
unfolding count_below
count_at_most p zero = omega arith
count_at_most p (suc n) = go (p n) (count_at_most p n)
  where
    go : (b : Bool) → count_below n p ≤ n → cond b (suc (count_below n p)) (count_below n p) ≤ suc n
    go true h = omega arith
    go false h = omega arith

pub greatest_none : (f : ℕ → ℕ) → 0 ≡ greatest_below 0 f
unfolding greatest_below
greatest_none f = refl

pub greatest_more : (f : ℕ → ℕ) (i k m : ℕ) → k ≡ greatest_below i f → m ≡ max k (f i) → m ≡ greatest_below (i + 1) f
unfolding greatest_below
greatest_more f i k m e h = rw (add-one, h, e)

pub greatest_at : (f : ℕ → ℕ) (n i : ℕ) → i < n → f i ≤ greatest_below n f
unfolding greatest_below
greatest_at f zero i l = absurd (omega arith)
greatest_at f (suc n) i l =
    ⊎_elim
    (λ (e : i ≡ n). rw e (omega arith))
    (λ (k : i < n). omega (arith, greatest_at f n i k))
    (eq-or-lt_of_le (le_of_suc-le-suc l))

pub greatest_at_most : (f : ℕ → ℕ) (b n : ℕ) → ((i : ℕ) → i < n → f i ≤ b) → greatest_below n f ≤ b
unfolding greatest_below
greatest_at_most f b zero h = omega arith
greatest_at_most f b (suc n) h = omega (arith, greatest_at_most f b n (λ i l. h i (omega arith)), h n (omega arith))

-- what is below the greatest is below one of them
pub greatest_from : (f : ℕ → ℕ) (n c : ℕ) → c < greatest_below n f → (i : ℕ) × (i < n) × (c < f i)
unfolding greatest_below
greatest_from f zero c h = absurd (omega arith)
greatest_from f (suc n) c h = elim (dec_lt c (f n)) [
  | yes lt ↦ (n, omega arith, lt)
  | no ge ↦ let w = greatest_from f n c (omega arith) in (w.0, omega (arith, w.1), w.2)
]

-- ---- a list of what the numbers below a bound give

pub length_below : {A : Type 0} (n : ℕ) (f : ℕ → A) → length (list_below n f) ≡ n
unfolding list_below
length_below zero f = refl
length_below (suc n) f = rw (length-append, length_below n f) (omega arith)

pub below_at_lem : {A : Type 0} (n : ℕ) (f : ℕ → A) (i : ℕ) (a : A) → i < n → get_or (list_below n f) i a ≡ f i
unfolding list_below
below_at_lem zero f i a l = absurd (omega arith)
below_at_lem {A} (suc n) f i a l =
    ⊎_elim
    (λ (e : i ≡ n). rw e (get_or_at (list_below n f) (f n) [] a n (length_below n f)))
    (λ (k : i < n). get_or-append (list_below n f) (f n ∷ []) a i (omega (arith, length_below n f)) ∙ below_at_lem n f i a k)
    (eq-or-lt_of_le (le_of_suc-le-suc l))

pub below_same : {A : Type 0} (n : ℕ) (f g : ℕ → A) → ((i : ℕ) → i < n → f i ≡ g i) → list_below n f ≡ list_below n g
unfolding list_below
below_same zero f g h = refl
below_same (suc n) f g h = rw (h n (omega arith), below_same n f g (λ i l. h i (omega arith)))

-- ---- an array filled from the front

-- the first i elements of z, then d's own
abbrev pub mix : {A : Type 0} → List A → List A → ℕ → List A
mix z d i = take i z ++ drop i d

module _ {A : Type 0} (z d : List A) (e : length z ≡ length d) where
  front : (i : ℕ) → i ≤ length d → length (take i z) ≡ i
  front i l = length-take-le i z (omega arith)

  pub mix_more : (i : ℕ) (a : A) → i < length d → set (mix z d i) i (get_or z i a) ≡ mix z d (i + 1)
  mix_more i a l =
      rw (add-one, drop-cons d i a l, set_at (take i z) (get_or d i a) (drop (suc i) d) (get_or z i a) i (front i (omega arith)), take-suc z i a (omega arith), append_snoc)

  -- the element that the next turn looks at is still d's
  pub mix_next : (i : ℕ) (a : A) → i < length d → get_or (mix z d i) i a ≡ get_or d i a
  mix_next i a l = rw (drop-cons d i a l, get_or_at (take i z) (get_or d i a) (drop (suc i) d) a i (front i (omega arith)))

  -- an element that stays as it was
  pub mix_keep : (i : ℕ) (a : A) → i < length d → get_or z i a ≡ get_or d i a → mix z d i ≡ mix z d (i + 1)
  mix_keep i a l h =
      sym (set-get_or (mix z d i) i a) ∙ ap (λ (x : A). set (mix z d i) i x) (mix_next i a l ∙ sym h) ∙ mix_more i a l

  pub mix_all : (i : ℕ) → length d ≤ i → mix z d i ≡ z
  mix_all i l = rw (take_all i z (omega arith), drop_of_length-le d l, append-nil)

-- an array that a loop fills with what each number gives
module _ {A : Type 0} (n : ℕ) (f : ℕ → A) (d : List A) (e : length d ≡ n) where
  as_long : length (list_below n f) ≡ length d
  as_long = length_below n f ∙ sym e

  pub fill_more : (i : ℕ) (v : A) → i < n → v ≡ f i → set (mix (list_below n f) d i) i v ≡ mix (list_below n f) d (i + 1)
  fill_more i v l h =
      ap (λ (x : A). set (mix (list_below n f) d i) i x) (h ∙ sym (below_at_lem n f i v l)) ∙ mix_more (list_below n f) d as_long i v (omega arith)

  pub fill_keep : (i : ℕ) (a : A) → i < n → get_or d i a ≡ f i → mix (list_below n f) d i ≡ mix (list_below n f) d (i + 1)
  fill_keep i a l h = mix_keep (list_below n f) d as_long i a (omega arith) (below_at_lem n f i a l ∙ sym h)

  pub fill_all : (i : ℕ) → n ≤ i → mix (list_below n f) d i ≡ list_below n f
  fill_all i l = mix_all (list_below n f) d as_long i (omega arith)

-- ---- a fold over what each element of a list's front gives, element by element

module _ {A B S : Type 0} (f : S → B → S) (g : A → List B) (s : S) (l : List A) where
  -- the state after the first i elements
  abbrev pub folded : ℕ → S
  folded i = foldl f s (flat_map g (take i l))

  pub fold_none : s ≡ folded 0
  unfolding flat_map
  fold_none = refl

  flat_append : (k m : List A) → flat_map g (k ++ m) ≡ flat_map g k ++ flat_map g m
  unfolding flat_map
  flat_append [] m = refl
  flat_append (x ∷ k) m = ap (λ (r : List B). g x ++ r) (flat_append k m) ∙ sym (append_assoc (g x) (flat_map g k) (flat_map g m))

  pub fold_more : (i : ℕ) (a : A) → i < length l → {t u : S} → t ≡ folded i → u ≡ foldl f t (g (get_or l i a)) → u ≡ folded (i + 1)
  unfolding flat_map
  fold_more i a h {t} {u} before turn =
      turn
      ∙ ap (λ (x : S). foldl f x (g (get_or l i a))) before
      ∙ sym (rw (add-one, take-suc l i a, flat_append (take i l) (get_or l i a ∷ []), append-nil (g (get_or l i a)), foldl-append f s (flat_map g (take i l)) (g (get_or l i a))))
