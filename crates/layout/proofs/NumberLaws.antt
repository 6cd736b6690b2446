-- Numbers in bytes: what is written is as long as it should be and reads back, and what one turn of the loops over bytes does.
use mathlib.Core.Path.{◌≡◌, refl, ap}
use mathlib.Core.List.{List, [], ◌∷◌, ◌++◌}
use Prim.Native.Nat.{ℕ, suc, zero, ◌+◌, ◌*◌, ◌<◌, ◌/◌, ◌^◌}
use native.Mathlib.Numerals.{add-one}
use native.Mathlib.Nat.{mod-add-div, pow-succ', div-div-eq-div-mul}
use native.Mathlib.Omega.{arith}
use lib.ListN.{length, get_or, drop}
use lib.Seq.{drop-nil}
use Rattle.std.specs.Int.{w16, w64, from_le_bytes, to_le_bytes}
use Rattle.layout.specs.Numbers.{number_of, number_bytes, word_of, word_bytes, short_of, short_bytes, byte_of}
use Rattle.layout.specs.Each.{each_at}

pub number_back : (k v : ℕ) (r : List ℕ) → v < 256 ^ k → number_of k (number_bytes k v ++ r) ≡ v
unfolding number_of number_bytes
number_back zero v r h = omega arith
number_back (suc k) v r h =
    let p : v < 256 * 256 ^ k = rw pow-succ' at h in
    let q : v / 256 < 256 ^ k = omega arith in
    let e = number_back k (v / 256) r q in
    rw e (mod-add-div v 256)

pub word_back : (v : ℕ) (r : List ℕ) → v < 256 ^ 8 → word_of (word_bytes v ++ r) ≡ v
word_back v r h = number_back 8 v r h

pub short_back : (v : ℕ) (r : List ℕ) → v < 256 ^ 2 → short_of (short_bytes v ++ r) ≡ v
short_back v r h = number_back 2 v r h

pub number_length : (k v : ℕ) → length (number_bytes k v) ≡ k
unfolding number_bytes
number_length zero v = refl
number_length (suc k) v = ap suc (number_length k (v / 256))

pub word_length : (v : ℕ) → length (word_bytes v) ≡ 8
word_length v = number_length 8 v

pub short_length : (v : ℕ) → length (short_bytes v) ≡ 2
short_length v = number_length 2 v

-- ---- reading from the highest byte down

pub number_step : (k at : ℕ) (l : List ℕ) → number_of (suc k) (drop at l) ≡ get_or l at 0 + 256 * number_of k (drop (suc at) l)
unfolding number_of
number_step zero at [] = rw drop-nil
number_step (suc k) at [] = rw drop-nil
number_step k zero (b ∷ l) = refl
number_step k (suc at) (b ∷ l) = number_step k at l

-- a word is std's number of eight bytes, low byte first, and its bytes are those that std splits it into
pub word_made : (l b : List ℕ) (at : ℕ) → b ≡ each_at byte_of 1 8 (drop at l) → from_le_bytes w64 b ≡ word_of (drop at l)
unfolding each_at number_of
word_made l b at e =
    let step = λ (k : ℕ) (m : List ℕ). number_step k 0 m in
    let d = drop at l in
    let d₁ = drop 1 d in
    let d₂ = drop 1 d₁ in
    let d₃ = drop 1 d₂ in
    let d₄ = drop 1 d₃ in
    let d₅ = drop 1 d₄ in
    let d₆ = drop 1 d₅ in
    let d₇ = drop 1 d₆ in
    rw e (omega (arith, step 7 d, step 6 d₁, step 5 d₂, step 4 d₃, step 3 d₄, step 2 d₅, step 1 d₆, step 0 d₇))

pub word_split : (v : ℕ) → to_le_bytes w64 v ≡ word_bytes v
unfolding number_bytes
word_split v =
    simp div-div-eq-div-mul

-- ---- two bytes

pub short_made : (l : List ℕ) (at : ℕ) → from_le_bytes w16 (get_or l at 0 ∷ get_or l (at + 1) 0 ∷ []) ≡ short_of (drop at l)
unfolding number_of
short_made l at = rw (number_step 1 at l, number_step 0 (suc at) l, add-one) (omega arith)

pub short_split : (v : ℕ) → to_le_bytes w16 v ≡ short_bytes v
unfolding number_bytes
short_split v = refl
