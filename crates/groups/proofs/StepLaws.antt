-- The number at a place, byte by byte, as it is read and written.
use mathlib.Core.Path.{◌≡◌, refl, ap, ◌∙◌}
use mathlib.Core.List.{List, [], ◌∷◌}
use mathlib.Core.Bool.{Bool, true, false, cond, ◌&&◌}
use Prim.Native.Nat.{ℕ, zero, suc, ◌+◌, ◌*◌, ◌-◌, ◌%◌, ◌/◌, ◌<◌, ◌≤◌, ◌^◌}
use native.Mathlib.Nat.{pow-succ', pow-le-pow_right}
use native.Mathlib.Numerals.{add-one}
use native.Mathlib.Omega.{arith}
use borrow.Author.Tests.{lt-ltb, le-ltb, leb-true, ne_eqb}
use lib.Dec.{ltb, leb}
use lib.ListN.{length, get_or, drop, set, drop_of_length-le}
use lib.Seq.{drop-cons, sets}
use Rattle.base.proofs.Loops.{both_true}
use Rattle.base.specs.Refusals.{cut}
use Rattle.groups.specs.Numbers.{Groups, whole, cut_off, none, low_group, last_group, later_in, number_in, number_at, stopped, read, landed, joined, bytes_in}
use Rattle.groups.specs.Numbers.{Number}

-- ---- 64 bits are enough

abbrev pub value_of : Groups → ℕ
value_of (whole v k) = v
value_of cut_off = 0
value_of none = 0

power_some : (k : ℕ) → 1 ≤ 128 ^ k
power_some k = pow-le-pow_right {n = 128} (omega arith) {i = 0} {j = k} (omega arith)

last_below : (most b m : ℕ) → most < m → value_of (last_group most b) < m
last_below most b m l = go (leb 1 b && leb b most) refl
  where
    go : (x : Bool) → (leb 1 b && leb b most) ≡ x → value_of (cond x (whole b 1) none) < m
    go true e = omega (arith, leb-true b most (both_true (leb 1 b) (leb b most) e).1)
    go false e = omega arith

pub later_below : (left : ℕ) (l : List ℕ) → value_of (later_in left l) < 2 * 128 ^ left
unfolding later_in
later_below zero [] = omega arith
later_below zero (b ∷ l) = last_below 1 b 2 (omega arith)
later_below (suc left) [] = omega (arith, power_some (suc left))
later_below (suc left) (b ∷ l) = rw pow-succ' (go (ltb b 128) (later_in left l) (later_below left l))
  where
    go : (x : Bool) (g : Groups) → value_of g < 2 * 128 ^ left → value_of (cond x (last_group 127 b) (low_group b g)) < 2 * (128 * 128 ^ left)
    go true g h = last_below 127 b (2 * (128 * 128 ^ left)) (omega (arith, power_some left))
    go false (whole v k) h = omega arith
    go false cut_off h = omega (arith, power_some left)
    go false none h = omega (arith, power_some left)

landed_value : (at : ℕ) (g : Groups) → (landed at g).value ≡ value_of g
landed_value at (whole v k) = refl
landed_value at cut_off = refl
landed_value at none = refl

-- so one group more still fits
pub later_room : (x : Number) (at left : ℕ) (l : List ℕ) → left ≤ 8 → x ≡ landed at (later_in left l) → x.value < 2 ^ 57
later_room x at left l h e =
    let m : 128 ^ left ≤ 128 ^ 8 = pow-le-pow_right (omega arith) h in
    omega (arith, later_below left l, ap (λ (y : Number). y.value) e ∙ landed_value at (later_in left l))

-- ---- one byte

pub joins : (b at : ℕ) (g : Groups) → joined b (landed (at + 1) g) ≡ landed at (low_group b g)
joins b at (whole v k) = let e : at + 1 + k ≡ at + suc k = omega arith in rw e
joins b at cut_off = refl
joins b at none = refl

-- a refusal after a byte is that of the number
pub joins_stopped : (b k : ℕ) → 0 < k → joined b (stopped k) ≡ stopped k
joins_stopped b k h = rw (ne_eqb k 0 (λ e. omega arith))

module _ (s : List ℕ) (at : ℕ) where
  pub later_cut : (left : ℕ) → length s ≤ at → stopped cut ≡ landed at (later_in left (drop at s))
  unfolding later_in
  later_cut zero h = rw (drop_of_length-le s h)
  later_cut (suc left) h = rw (drop_of_length-le s h)

  pub number_cut : length s ≤ at → stopped cut ≡ number_at s at
  unfolding number_at number_in
  number_cut h = rw (drop_of_length-le s h)

  module _ (b : ℕ) (h : at < length s) (e : b ≡ get_or s at 0) where
    pub later_tenth : landed at (last_group 1 b) ≡ landed at (later_in 0 (drop at s))
    unfolding later_in
    later_tenth = rw (drop-cons s at 0 h, ← e)

    pub later_last : (left : ℕ) → 0 < left → b < 128 → landed at (last_group 127 b) ≡ landed at (later_in left (drop at s))
    unfolding later_in
    later_last zero p l = elim p [ ]
    later_last (suc left) p l = rw (drop-cons s at 0 h, ← e, lt-ltb b 128 l)

    pub later_more : (left : ℕ) → 0 < left → 128 ≤ b → (x : Number) → x ≡ landed (at + 1) (later_in (left - 1) (drop (at + 1) s))
        → joined b x ≡ landed at (later_in left (drop at s))
    unfolding later_in
    later_more zero p l x f = elim p [ ]
    later_more (suc left) p l x f =
        let g : suc left - 1 ≡ left = omega arith in
        rw (f, g, joins b at (later_in left (drop (at + 1) s)), add-one at, drop-cons s at 0 h, ← e, le-ltb b 128 l)

    pub number_one : b < 128 → read b (at + 1) ≡ number_at s at
    unfolding number_at number_in
    number_one l = rw (drop-cons s at 0 h, ← e, lt-ltb b 128 l)

    pub number_more : 128 ≤ b → (x : Number) → x ≡ landed (at + 1) (later_in 8 (drop (at + 1) s)) → joined b x ≡ number_at s at
    unfolding number_at number_in
    number_more l x f = rw (f, joins b at (later_in 8 (drop (at + 1) s)), add-one at, drop-cons s at 0 h, ← e, le-ltb b 128 l)

-- ---- one byte written

pub put_last : (l : List ℕ) (at left v : ℕ) → 0 < left → v < 128 → set l at v ≡ sets l at (bytes_in left v)
unfolding bytes_in
put_last l at zero v p h = elim p [ ]
put_last l at (suc left) v p h = rw (lt-ltb v 128 h)

pub put_more : (l : List ℕ) (at left v : ℕ) → 0 < left → 128 ≤ v
    → sets (set l at (v % 128 + 128)) (at + 1) (bytes_in (left - 1) (v / 128)) ≡ sets l at (bytes_in left v)
unfolding bytes_in
put_more l at zero v p h = elim p [ ]
put_more l at (suc left) v p h =
    let g : suc left - 1 ≡ left = omega arith in
    let k : v % 128 + 128 ≡ 128 + v % 128 = omega arith in
    rw (g, k, add-one at, le-ltb v 128 h)

pub end_last : (at left v : ℕ) → 0 < left → v < 128 → at + 1 ≡ at + length (bytes_in left v)
unfolding bytes_in
end_last at zero v p h = elim p [ ]
end_last at (suc left) v p h = rw (lt-ltb v 128 h)

pub end_more : (at left v : ℕ) → 0 < left → 128 ≤ v → at + 1 + length (bytes_in (left - 1) (v / 128)) ≡ at + length (bytes_in left v)
unfolding bytes_in
end_more at zero v p h = elim p [ ]
end_more at (suc left) v p h =
    let g : suc left - 1 ≡ left = omega arith in
    rw (g, le-ltb v 128 h) (omega arith)

pub put_none : (l : List ℕ) (at left v : ℕ) → left ≡ 0 → (at ≡ at + length (bytes_in left v)) × (l ≡ sets l at (bytes_in left v))
unfolding bytes_in
put_none l at zero v e = (omega arith, refl)
put_none l at (suc left) v e = absurd (omega arith)
