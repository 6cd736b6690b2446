-- Numbers of a trace: what is written is read as it was, what is read is written back the same, and what is refused is no number.
use mathlib.Core.Path.{◌≡◌, refl, ap, sym, ◌∙◌}
use mathlib.Core.List.{List, [], ◌∷◌, ◌++◌}
use mathlib.Core.Bool.{Bool, true, false, cond, ◌&&◌}
use mathlib.Core.Logic.{◌↔◌}
use Prim.Native.Nat.{ℕ, zero, suc, ◌+◌, ◌*◌, ◌%◌, ◌/◌, ◌<◌, ◌≤◌, ◌^◌}
use native.Mathlib.Nat.{pow-succ'}
use native.Mathlib.Decide.{dec_lt}
use native.Mathlib.Omega.{arith}
use borrow.Author.Tests.{lt-ltb, le-ltb, le-leb, leb-true, ltb-true, ltb-false}
use lib.Dec.{ltb, leb}
use lib.ListN.{length, get_or, take, drop, take-append-drop, length-append}
use lib.Seq.{length-take-le, take_all}
use Rattle.base.proofs.Loops.{both_true}
use Rattle.groups.specs.Numbers.{Bytes, Groups, whole, cut_off, none, low_group, last_group, later_in, number_in, bytes_in, bytes_of}
use Rattle.groups.proofs.StepLaws.{value_of, later_below}

-- ---- the bytes of a number: the last group, and one before others

in_last : (left v : ℕ) → v < 128 → bytes_in (suc left) v ≡ v ∷ []
unfolding bytes_in
in_last left v l = rw (lt-ltb v 128 l)

in_more : (left v : ℕ) → 128 ≤ v → bytes_in (suc left) v ≡ (128 + v % 128) ∷ bytes_in left (v / 128)
unfolding bytes_in
in_more left v l = rw (le-ltb v 128 l)

in_some : (left v : ℕ) → 1 ≤ length (bytes_in (suc left) v)
in_some left v = elim (dec_lt v 128) [
  | yes l ↦ rw (in_last left v l) (omega arith)
  | no m ↦ rw (in_more left v (omega arith)) (omega arith)
]

in_few : (left v : ℕ) → length (bytes_in left v) ≤ left
unfolding bytes_in
in_few zero v = omega arith
in_few (suc left) v = elim (dec_lt v 128) [
  | yes l ↦ rw (lt-ltb v 128 l) (omega arith)
  | no m ↦ rw (le-ltb v 128 (omega arith)) (omega (arith, in_few left (v / 128)))
]

-- a number takes at least one byte
pub some_bytes : (v : ℕ) → 1 ≤ length (bytes_of v)
unfolding bytes_of
some_bytes v = in_some 9 v

-- and at most ten
pub few_bytes : (v : ℕ) → length (bytes_of v) ≤ 10
unfolding bytes_of
few_bytes v = in_few 10 v

-- ---- what was written is read as it was

-- a group with its high bit set, and what is above it
splits : (v : ℕ) → 128 * (v / 128) + (128 + v % 128) % 128 ≡ v
splits v = omega arith

later_back : (left v : ℕ) (rest : List ℕ) → 1 ≤ v → v < 2 * 128 ^ left
    → later_in left (bytes_in (suc left) v ++ rest) ≡ whole v (length (bytes_in (suc left) v))
unfolding later_in
later_back zero v rest p h = rw (in_last 0 v (omega arith), le-leb 1 v p, le-leb v 1 (omega arith))
later_back (suc left) v rest p h = elim (dec_lt v 128) [
  | yes l ↦ rw (in_last (suc left) v l, lt-ltb v 128 l, le-leb 1 v p, le-leb v 127 (omega arith))
  | no m ↦
      let k : v < 2 * (128 * 128 ^ left) = rw pow-succ' at h in
      rw (in_more (suc left) v (omega arith), le-ltb (128 + v % 128) 128 (omega arith), later_back left (v / 128) rest (omega arith) (omega arith), splits v)
]

-- whatever follows it
pub read_back : (v : ℕ) (rest : List ℕ) → v < 2 ^ 64 → number_in (bytes_of v ++ rest) ≡ whole v (length (bytes_of v))
unfolding number_in bytes_of
read_back v rest h = elim (dec_lt v 128) [
  | yes l ↦ rw (in_last 9 v l, lt-ltb v 128 l)
  | no m ↦
      rw (in_more 9 v (omega arith), le-ltb (128 + v % 128) 128 (omega arith), later_back 8 (v / 128) rest (omega arith) (omega arith), splits v)
]

-- ---- what is read is written back the same

-- what reading so many bytes as a number says of the bytes and the number
record Back (left : ℕ) (l : List ℕ) (v k : ℕ) : Type 0 where
  same : take k l ≡ bytes_in left v
  held : k ≤ length l

back_last : (left b : ℕ) (l : List ℕ) (v k : ℕ) → b < 128 → whole b 1 ≡ whole v k → Back (suc left) (b ∷ l) v k
back_last left b l v k h e =
    let f : v ≡ b = cc in
    let g : k ≡ 1 = cc in
    record { same = rw (f, g, in_last left b h); held = omega arith }

back_more : (left b : ℕ) (l : List ℕ) (v k w j : ℕ) → 128 ≤ b → b < 256 → 1 ≤ w → Back left l w j → low_group b (whole w j) ≡ whole v k
    → Back (suc left) (b ∷ l) v k
back_more left b l v k w j m n p q e =
    let f : v ≡ 128 * w + b % 128 = cc in
    let g : k ≡ suc j = cc in
    let d : v / 128 ≡ w = omega arith in
    let r : 128 + v % 128 ≡ b = omega arith in
    record { same = rw (g, in_more left v (omega arith), d, r, q.same); held = omega arith }

-- the last of several
last_is : (most b v k : ℕ) → last_group most b ≡ whole v k → (1 ≤ b) × (b ≤ most) × (whole b 1 ≡ whole v k)
last_is most b v k = go (leb 1 b && leb b most) refl
  where
    go : (x : Bool) → (leb 1 b && leb b most) ≡ x → cond x (whole b 1) none ≡ whole v k → (1 ≤ b) × (b ≤ most) × (whole b 1 ≡ whole v k)
    go true e f = let t = both_true (leb 1 b) (leb b most) e in (leb-true 1 b t.0, leb-true b most t.1, f)
    go false e f = let z : ◌≡◌ {A = ℕ} 0 1 = cc in absurd (omega arith)

later_forth : (left : ℕ) (l : List ℕ) (v k : ℕ) → Bytes l → later_in left l ≡ whole v k → (1 ≤ v) × Back (suc left) l v k
unfolding later_in
later_forth left [] v k y e = let z : ◌≡◌ {A = ℕ} 0 1 = cc in absurd (omega arith)
later_forth zero (b ∷ l) v k y e =
    let s = last_is 1 b v k e in
    let f : v ≡ b = cc s.2 in
    (omega (arith, s.0), back_last 0 b l v k (omega (arith, s.1)) s.2)
later_forth (suc left) (b ∷ l) v k y e = go (ltb b 128) refl (later_in left l) (later_forth left l) e
  where
    go : (x : Bool) → ltb b 128 ≡ x → (g : Groups) → ((w j : ℕ) → Bytes l → g ≡ whole w j → (1 ≤ w) × Back (suc left) l w j)
        → cond x (last_group 127 b) (low_group b g) ≡ whole v k → (1 ≤ v) × Back (suc (suc left)) (b ∷ l) v k
    go true t g ih f =
        let s = last_is 127 b v k f in
        let q : v ≡ b = cc s.2 in
        (omega (arith, s.0), back_last (suc left) b l v k (omega (arith, s.1)) s.2)
    go false t (whole w j) ih f =
        let q = ih w j (λ i. y (suc i)) refl in
        let r : v ≡ 128 * w + b % 128 = cc in
        (omega (arith, q.0), back_more (suc left) b l v k w j (ltb-false b 128 t) (y 0) q.0 q.1 f)
    go false t cut_off ih f = let z : ◌≡◌ {A = ℕ} 0 1 = cc in absurd (omega arith)
    go false t none ih f = let z : ◌≡◌ {A = ℕ} 0 1 = cc in absurd (omega arith)

number_forth : (l : List ℕ) (v k : ℕ) → Bytes l → number_in l ≡ whole v k → (v < 2 ^ 64) × Back 10 l v k
unfolding number_in
number_forth [] v k y e = let z : ◌≡◌ {A = ℕ} 0 1 = cc in absurd (omega arith)
number_forth (b ∷ l) v k y e = go (ltb b 128) refl (later_in 8 l) refl e
  where
    go : (x : Bool) → ltb b 128 ≡ x → (g : Groups) → later_in 8 l ≡ g → cond x (whole b 1) (low_group b g) ≡ whole v k → (v < 2 ^ 64) × Back 10 (b ∷ l) v k
    go true t g h f = let m = ltb-true b 128 t in let r : v ≡ b = cc in (omega arith, back_last 9 b l v k m f)
    go false t (whole w j) h f =
        let q = later_forth 8 l w j (λ i. y (suc i)) h in
        let r : v ≡ 128 * w + b % 128 = cc in
        (omega (arith, later_below 8 l, ap value_of h), back_more 9 b l v k w j (ltb-false b 128 t) (y 0) q.0 q.1 f)
    go false t cut_off h f = let z : ◌≡◌ {A = ℕ} 0 1 = cc in absurd (omega arith)
    go false t none h f = let z : ◌≡◌ {A = ℕ} 0 1 = cc in absurd (omega arith)

-- the bytes that were read are those of the number, which has at most 64 bits
pub write_back : (l : List ℕ) (v k : ℕ) → Bytes l → number_in l ≡ whole v k → (take k l ≡ bytes_of v) × (v < 2 ^ 64) × (k ≤ length l)
unfolding bytes_of
write_back l v k y e = let q = number_forth l v k y e in (q.1.same, q.0, q.1.held)

-- a list's front: how long it is, and what follows it
pub front_is : (l bytes : List ℕ) (k : ℕ) → take k l ≡ bytes → k ≤ length l → (length bytes ≡ k) × (l ≡ bytes ++ drop k l)
front_is l bytes k e h = (
  sym (ap length e) ∙ length-take-le k l h,
  sym (take-append-drop k l) ∙ ap (λ (x : List ℕ). x ++ drop k l) e,
)

-- a number is read exactly where its bytes stand
pub number_exactly : (l : List ℕ) (v k : ℕ) → Bytes l → (number_in l ≡ whole v k) ↔ ((take k l ≡ bytes_of v) × (v < 2 ^ 64) × (k ≤ length l))
number_exactly l v k y = (
  write_back l v k y,
  λ f.
      let s = front_is l (bytes_of v) k f.0 f.2 in
      ap number_in s.1 ∙ read_back v (drop k l) f.1 ∙ ap (whole v) s.0,
)

-- ---- what is refused

-- each byte has its high bit set
abbrev pub High : List ℕ → Type 0
High l = (i : ℕ) → i < length l → 128 ≤ get_or l i 0

high_more : (b : ℕ) (l : List ℕ) → 128 ≤ b → High l → High (b ∷ l)
high_more b l m h zero p = m
high_more b l m h (suc i) p = h i (omega arith)

low_cut : (b : ℕ) (g : Groups) → low_group b g ≡ cut_off → g ≡ cut_off
low_cut b (whole w j) e = let z : ◌≡◌ {A = ℕ} 0 1 = cc in absurd (omega arith)
low_cut b cut_off e = refl
low_cut b none e = e

last_not_cut : (most b : ℕ) → last_group most b ≡ cut_off → ⊥
last_not_cut most b = go (leb 1 b && leb b most)
  where
    go : (x : Bool) → cond x (whole b 1) none ≡ cut_off → ⊥
    go true e = let z : ◌≡◌ {A = ℕ} 0 1 = cc in omega arith
    go false e = let z : ◌≡◌ {A = ℕ} 0 1 = cc in omega arith

later_cut_off : (left : ℕ) (l : List ℕ) → later_in left l ≡ cut_off → (length l ≤ left) × High l
unfolding later_in
later_cut_off left [] e = (omega arith, λ i p. absurd (omega arith))
later_cut_off zero (b ∷ l) e = absurd (last_not_cut 1 b e)
later_cut_off (suc left) (b ∷ l) e = go (later_cut_off left l) (ltb b 128) refl e
  where
    go : (later_in left l ≡ cut_off → (length l ≤ left) × High l) → (x : Bool) → ltb b 128 ≡ x → cond x (last_group 127 b) (low_group b (later_in left l)) ≡ cut_off → (length (b ∷ l) ≤ suc left) × High (b ∷ l)
    go ih true t f = absurd (last_not_cut 127 b f)
    go ih false t f =
        let q = ih (low_cut b (later_in left l) f) in
        (omega (arith, q.0), high_more b l (ltb-false b 128 t) q.1)

cut_off_later : (left : ℕ) (l : List ℕ) → length l ≤ left → High l → later_in left l ≡ cut_off
unfolding later_in
cut_off_later left [] n h = refl
cut_off_later zero (b ∷ l) n h = absurd (omega arith)
cut_off_later (suc left) (b ∷ l) n h =
    rw (le-ltb b 128 (h 0 (omega arith)), cut_off_later left l (omega arith) (λ i p. h (suc i) (omega arith)))

number_cut_off : (l : List ℕ) → number_in l ≡ cut_off → (length l < 10) × High l
unfolding number_in
number_cut_off [] e = (omega arith, λ i p. absurd (omega arith))
number_cut_off (b ∷ l) e = go (ltb b 128) refl e
  where
    go : (x : Bool) → ltb b 128 ≡ x → cond x (whole b 1) (low_group b (later_in 8 l)) ≡ cut_off → (length (b ∷ l) < 10) × High (b ∷ l)
    go true t f = let z : ◌≡◌ {A = ℕ} 0 1 = cc in absurd (omega arith)
    go false t f =
        let q = later_cut_off 8 l (low_cut b (later_in 8 l) f) in
        (omega (arith, q.0), high_more b l (ltb-false b 128 t) q.1)

cut_off_number : (l : List ℕ) → length l < 10 → High l → number_in l ≡ cut_off
unfolding number_in
cut_off_number [] n h = refl
cut_off_number (b ∷ l) n h = rw (le-ltb b 128 (h 0 (omega arith)), cut_off_later 8 l (omega arith) (λ i p. h (suc i) (omega arith)))

-- the bytes end inside a number exactly where there are fewer than ten, each with its high bit set
pub cut_exactly : (l : List ℕ) → (number_in l ≡ cut_off) ↔ ((length l < 10) × High l)
cut_exactly l = (number_cut_off l, λ f. cut_off_number l f.0 f.1)

-- where a number's bytes stand nothing is refused
pub not_refused : (l : List ℕ) (v : ℕ) (rest : List ℕ) → v < 2 ^ 64 → l ≡ bytes_of v ++ rest → (number_in l ≡ cut_off → ⊥) × (number_in l ≡ none → ⊥)
not_refused l v rest h e =
    let f : number_in l ≡ whole v (length (bytes_of v)) = ap number_in e ∙ read_back v rest h in (
      λ g. let z : ◌≡◌ {A = ℕ} 0 1 = cc in omega arith,
      λ g. let z : ◌≡◌ {A = ℕ} 0 1 = cc in omega arith,
    )

-- no number begins so: the bytes neither begin with those of one nor end inside
pub none_exactly : (l : List ℕ) → Bytes l
    → (number_in l ≡ none) ↔ (((v : ℕ) (rest : List ℕ) → v < 2 ^ 64 → l ≡ bytes_of v ++ rest → ⊥) × (((length l < 10) × High l) → ⊥))
none_exactly l y = (
  λ e. (
    λ v rest h f. (not_refused l v rest h f).1 e,
    λ f. let g = cut_off_number l f.0 f.1 in let z : ◌≡◌ {A = ℕ} 0 1 = cc in omega arith,
  ),
  λ f. go f.0 f.1 (number_in l) refl,
)
  where
    go : ((v : ℕ) (rest : List ℕ) → v < 2 ^ 64 → l ≡ bytes_of v ++ rest → ⊥) → (((length l < 10) × High l) → ⊥) → (g : Groups) → number_in l ≡ g → number_in l ≡ none
    go a b (whole v k) e =
        let q = write_back l v k y e in
        absurd (a v (drop k l) q.1 (front_is l (bytes_of v) k q.0 q.2).1)
    go a b cut_off e = absurd (b (number_cut_off l e))
    go a b none e = e

-- a last group of 1 after bytes with their high bits set ends a number
later_ended : (left : ℕ) (l : List ℕ) → length l ≤ left → High l → (v : ℕ) × (later_in left (l ++ (1 ∷ [])) ≡ whole v (suc (length l)))
unfolding later_in
later_ended zero [] n h = (1, refl)
later_ended (suc left) [] n h = (1, refl)
later_ended zero (b ∷ l) n h = absurd (omega arith)
later_ended (suc left) (b ∷ l) n h =
    let r = later_ended left l (omega arith) (λ i p. h (suc i) (omega arith)) in
    (128 * r.0 + b % 128, rw (le-ltb b 128 (h 0 (omega arith)), r.1))

number_ended : (l : List ℕ) → length l < 10 → High l → (v : ℕ) × (number_in (l ++ (1 ∷ [])) ≡ whole v (suc (length l)))
unfolding number_in
number_ended [] n h = (1, refl)
number_ended (b ∷ l) n h =
    let r = later_ended 8 l (omega arith) (λ i p. h (suc i) (omega arith)) in
    (128 * r.0 + b % 128, rw (le-ltb b 128 (h 0 (omega arith)), r.1))

bytes_more : (l : List ℕ) → Bytes l → Bytes (l ++ (1 ∷ []))
bytes_more [] y zero = omega arith
bytes_more [] y (suc i) = omega arith
bytes_more (b ∷ l) y zero = y 0
bytes_more (b ∷ l) y (suc i) = bytes_more l (λ j. y (suc j)) i

-- bytes that end inside a number are indeed the front of one, and not all of it
pub cut_front : (l : List ℕ) → Bytes l → number_in l ≡ cut_off → (v : ℕ) × (v < 2 ^ 64) × (bytes_of v ≡ l ++ (1 ∷ []))
cut_front l y e =
    let f = number_cut_off l e in
    let r = number_ended l f.0 f.1 in
    let q = write_back (l ++ (1 ∷ [])) r.0 (suc (length l)) (bytes_more l y) r.1 in
    (r.0, q.1, sym q.0 ∙ take_all (suc (length l)) (l ++ (1 ∷ [])) (simp length-append (omega arith)))
