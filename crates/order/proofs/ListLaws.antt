-- Laws of marks and lists of slots.
use mathlib.Core.Path.{◌≡◌, refl, sym, ap, ◌∙◌, subst}
use mathlib.Core.Bool.{Bool, true, false}
use mathlib.Core.List.{List, [], ◌∷◌, ◌++◌}
use mathlib.Core.Logic.{◌⊎◌, inl, inr, ⊎_elim}
use Prim.Native.Nat.{ℕ, zero, suc, ◌+◌, ◌≤◌, ◌<◌}
use native.Mathlib.Nat.{not-suc-le-zero}
use native.Mathlib.Decide.{ℕ_discrete}
use native.Mathlib.Omega.{arith}
use lib.ListN.{get_or, set, length, length-set}
use lib.Seq.{ext_get_or, get_or-set_other}
use Rattle.order.specs.Listed.{On, how_many, Has, first, later, Once, none, more, Precedes, now_then, both_later}
use Rattle.order.specs.Rule.{without}

pub clash : {A : Type 0} (b : Bool) → b ≡ true → b ≡ false → A
clash b t f = let z : ◌≡◌ {A = ℕ} 0 1 = cc in absurd (omega arith)

pub split : (b : Bool) → (b ≡ true) ⊎ (b ≡ false)
split true = inl refl
split false = inr refl

-- ---- marks

pub fewer : (s : List Bool) (i : ℕ) → get_or s i false ≡ true → suc (how_many (set s i false)) ≡ how_many s
unfolding how_many
fewer [] i e = clash false e refl
fewer (true ∷ s) zero e = refl
fewer (false ∷ s) zero e = clash false e refl
fewer (true ∷ s) (suc i) e = ap suc (fewer s i e)
fewer (false ∷ s) (suc i) e = fewer s i e

pub none_marked : (s : List Bool) → ((i : ℕ) → On s i → ⊥) → how_many s ≡ 0
unfolding how_many
none_marked [] h = refl
none_marked (true ∷ s) h = absurd (h 0 refl)
none_marked (false ∷ s) h = none_marked s (λ i. h (suc i))

pub at_most : (s : List Bool) → how_many s ≤ length s
unfolding how_many
at_most [] = omega arith
at_most (true ∷ s) = omega (arith, at_most s)
at_most (false ∷ s) = omega (arith, at_most s)

pub on_short : (s : List Bool) (i : ℕ) → get_or s i false ≡ true → i < length s
on_short [] i e = clash false e refl
on_short (x ∷ s) zero e = omega arith
on_short (x ∷ s) (suc i) e = omega (arith, on_short s i e)

off_same : (s : List Bool) (i : ℕ) → get_or (set s i false) i false ≡ false
off_same [] i = refl
off_same (x ∷ s) zero = refl
off_same (x ∷ s) (suc i) = off_same s i

-- what is marked after the mark of k is taken off is another, and was marked
pub still_other : (s : List Bool) (k j : ℕ) → On (set s k false) j → j ≡ k → ⊥
still_other s k j on e = clash (get_or (set s k false) k false) (subst (On (set s k false)) e on) (off_same s k)

pub still_on : (s : List Bool) (k j : ℕ) → On (set s k false) j → On s j
still_on s k j on = rw (get_or-set_other s k j false false (still_other s k j on)) at on

-- ---- lists

pub has_none : (j : ℕ) → Has j [] → ⊥
has_none j h = elim h [ ]

pub has_cases : {A : Type 0} (j k : ℕ) (L : List ℕ) → Has j (k ∷ L) → (j ≡ k → A) → (Has j L → A) → A
has_cases j k L (first e) f g = f e
has_cases j k L (later h) f g = g h

-- a slot is in the list or not
pub has_or : (k : ℕ) (L : List ℕ) → Has k L ⊎ (Has k L → ⊥)
has_or k [] = inr (has_none k)
has_or k (x ∷ L) = elim (ℕ_discrete k x) [
  | yes e ↦ inl (first e)
  | no ne ↦ ⊎_elim (λ h. inl (later h)) (λ n. inr (λ h. has_cases k x L h ne n)) (has_or k L)
]

pub has_at : (B : List ℕ) (x : ℕ) → x < length B → Has (get_or B x 0) B
has_at [] x lt = absurd (not-suc-le-zero lt)
has_at (k ∷ B) zero lt = first refl
has_at (k ∷ B) (suc x) lt = later (has_at B x (omega arith))

pub at_has : (k : ℕ) (B : List ℕ) → Has k B → (x : ℕ) × (x < length B) × (get_or B x 0 ≡ k)
at_has k [] h = absurd (has_none k h)
at_has k (b ∷ B) h = has_cases k b B h
    (λ e. (0, omega arith, sym e))
    (λ l. let w = at_has k B l in (suc w.0, omega (arith, w.1), w.2))

-- ---- one list after another

-- what is in the first list is in both together
pub has_left : (k : ℕ) (A B : List ℕ) → Has k A → Has k (A ++ B)
has_left k [] B h = absurd (has_none k h)
has_left k (a ∷ A) B h = has_cases k a A h first (λ l. later (has_left k A B l))

-- and what is in the second
pub has_right : (k : ℕ) (A B : List ℕ) → Has k B → Has k (A ++ B)
has_right k [] B h = h
has_right k (a ∷ A) B h = later (has_right k A B h)

-- what is in both together is in one of them
pub has_either : (k : ℕ) (A B : List ℕ) → Has k (A ++ B) → Has k A ⊎ Has k B
has_either k [] B h = inr h
has_either k (a ∷ A) B h = has_cases k a (A ++ B) h
    (λ e. inl (first e))
    (λ l. ⊎_elim (λ x. inl (later x)) (λ y. inr y) (has_either k A B l))

-- two lists that share no slot, and hold none twice, hold none twice together
pub once_both : (A B : List ℕ) → Once A → Once B → ((k : ℕ) → Has k A → Has k B → ⊥) → Once (A ++ B)
once_both [] B a b apart = b
once_both (k ∷ A) B (more n a) b apart = more
    (λ h. ⊎_elim n (apart k (first refl)) (has_either k A B h))
    (once_both A B a b (λ x p q. apart x (later p) q))

-- the first is not among the rest
pub once_head : (k : ℕ) (L : List ℕ) → Once (k ∷ L) → Has k L → ⊥
once_head k L (more n o) = n

-- where no slot is twice in two lists together, none is twice in either, nor in both
pub once_parts : (A B : List ℕ) → Once (A ++ B) → Once A × Once B × ((k : ℕ) → Has k A → Has k B → ⊥)
once_parts [] B o = (none, o, λ k h g. has_none k h)
once_parts (a ∷ A) B (more n o) =
    let w = once_parts A B o in (
      more (λ h. n (has_left a A B h)) w.0,
      w.1,
      λ k h g. has_cases k a A h (λ e. n (has_right a A B (subst (λ (x : ℕ). Has x B) e g))) (λ l. w.2 k l g),
    )

-- ---- one before another

-- the one that stands first is the first of the list, or both are in the rest
pub precedes_cases : {A : Type 0} (i j k : ℕ) (L : List ℕ) → Precedes i j (k ∷ L) → (i ≡ k → Has j L → A) → (Precedes i j L → A) → A
precedes_cases i j k L (now_then e h) f g = f e h
precedes_cases i j k L (both_later p) f g = g p

-- in an empty list none stands before another
pub precedes_none : (i j : ℕ) → Precedes i j [] → ⊥
precedes_none i j p = elim p [ ]

-- both are in the list
pub precedes_has : (i j : ℕ) (L : List ℕ) → Precedes i j L → Has i L × Has j L
precedes_has i j [] p = absurd (precedes_none i j p)
precedes_has i j (k ∷ L) p = precedes_cases i j k L p
    (λ e h. (first e, later h))
    (λ q. let w = precedes_has i j L q in (later w.0, later w.1))

-- both in the first list
pub precedes_left : (i j : ℕ) (A B : List ℕ) → Precedes i j A → Precedes i j (A ++ B)
precedes_left i j [] B p = absurd (precedes_none i j p)
precedes_left i j (k ∷ A) B p = precedes_cases i j k A p
    (λ e h. now_then e (has_left j A B h))
    (λ q. both_later (precedes_left i j A B q))

-- both in the second list
pub precedes_right : (i j : ℕ) (A B : List ℕ) → Precedes i j B → Precedes i j (A ++ B)
precedes_right i j [] B p = p
precedes_right i j (k ∷ A) B p = both_later (precedes_right i j A B p)

-- one in the first list, the other in the second
pub precedes_across : (i j : ℕ) (A B : List ℕ) → Has i A → Has j B → Precedes i j (A ++ B)
precedes_across i j [] B h g = absurd (has_none i h)
precedes_across i j (k ∷ A) B h g = has_cases i k A h
    (λ e. now_then e (has_right j A B g))
    (λ l. both_later (precedes_across i j A B l g))

-- both in the first list, one in each, or both in the second
pub precedes_either : (i j : ℕ) (A B : List ℕ) → Precedes i j (A ++ B) → Precedes i j A ⊎ ((Has i A × Has j B) ⊎ Precedes i j B)
precedes_either i j [] B p = inr (inr p)
precedes_either i j (k ∷ A) B p = precedes_cases i j k (A ++ B) p
    (λ e h. ⊎_elim (λ x. inl (now_then e x)) (λ y. inr (inl (first e, y))) (has_either j A B h))
    (λ q. ⊎_elim
    (λ x. inl (both_later x))
    (λ w. ⊎_elim (λ x. inr (inl (later x.0, x.1))) (λ y. inr (inr y)) w)
    (precedes_either i j A B q))

-- where the one that stands first is not in the first list, both are in the second
pub precedes_second : (i j : ℕ) (A B : List ℕ) → (Has i A → ⊥) → Precedes i j (A ++ B) → Precedes i j B
precedes_second i j A B n p = ⊎_elim
    (λ x. absurd (n (precedes_has i j A x).0))
    (λ w. ⊎_elim (λ x. absurd (n x.0)) (λ y. y) w)
    (precedes_either i j A B p)

-- where no slot is twice in the list, not each of two stands before the other
pub precedes_one_way : (i j : ℕ) (L : List ℕ) → Once L → Precedes i j L → Precedes j i L → ⊥
precedes_one_way i j [] o p q = precedes_none i j p
precedes_one_way i j (k ∷ L) (more n o) p q = precedes_cases j i k L q
    (λ e h. n (subst (λ (x : ℕ). Has x L) e (precedes_cases i j k L p (λ f g. g) (λ w. (precedes_has i j L w).1))))
    (λ w. precedes_cases i j k L p
    (λ e h. n (subst (λ (x : ℕ). Has x L) e (precedes_has j i L w).1))
    (λ u. precedes_one_way i j L o u w))

-- ---- the marks without those of a list

pub without_length : (S : List Bool) (B : List ℕ) → length (without S B) ≡ length S
without_length S [] = refl
without_length S (k ∷ B) = without_length (set S k false) B ∙ length-set S k false

pub without_was : (S : List Bool) (B : List ℕ) (x : ℕ) → On (without S B) x → (On S x) × (Has x B → ⊥)
without_was S [] x on = (on, has_none x)
without_was S (k ∷ B) x on =
    let w = without_was (set S k false) B x on in (
      still_on S k x w.0,
      λ h. has_cases x k B h (still_other S k x w.0) w.1,
    )

pub without_still : (S : List Bool) (B : List ℕ) (x : ℕ) → On S x → (Has x B → ⊥) → On (without S B) x
without_still S [] x on n = on
without_still S (k ∷ B) x on n = without_still (set S k false) B x
    (get_or-set_other S k x false false (λ e. n (first e)) ∙ on)
    (λ h. n (later h))

bool_same : (a b : Bool) → (a ≡ true → b ≡ true) → (b ≡ true → a ≡ true) → a ≡ b
bool_same true b f g = sym (f refl)
bool_same false true f g = clash false (g refl) refl
bool_same false false f g = refl

pub marks_same : (S T : List Bool) → length S ≡ length T → ((k : ℕ) → On S k → On T k) → ((k : ℕ) → On T k → On S k) → S ≡ T
marks_same S T len f g = ext_get_or false S T len (λ k lt. bool_same (get_or S k false) (get_or T k false) (f k) (g k))

-- the marks are fewer by as many as the list holds
pub without_count : (S : List Bool) (B : List ℕ) → Once B → ((x : ℕ) → Has x B → On S x) → how_many (without S B) + length B ≡ how_many S
without_count S [] o on = omega arith
without_count S (k ∷ B) (more n o) on =
    let rest = without_count (set S k false) B o
    (λ x h. get_or-set_other S k x false false (λ e. n (subst (λ (y : ℕ). Has y B) e h)) ∙ on x (later h)) in
    omega (arith, rest, fewer S k (on k (first refl)))
