-- Numbers in decimal: the last digit apart, how many digits, that they are digits, the first no 0, and that they read back.
use mathlib.Core.Path.{◌≡◌, refl, ap, sym, ◌∙◌}
use mathlib.Core.List.{List, [], ◌∷◌, ◌++◌}
use mathlib.Core.Bool.{Bool, true, false, cond}
use Prim.Native.Nat.{ℕ, zero, suc, ◌+◌, ◌*◌, ◌-◌, ◌<◌, ◌≤◌, ◌/◌, ◌%◌, ◌^◌}
use native.Mathlib.Nat.{pow-succ'}
use native.Mathlib.Decide.{dec_lt}
use native.Mathlib.Omega.{arith}
use borrow.Author.Tests.{lt-ltb, le-ltb, ltb-true, ltb-false}
use lib.Dec.{ltb}
use lib.ListN.{length, get_or, length-append, get_or-append}
use lib.Seq.{get_or_at}
use Rattle.lines.specs.Decimal.{digits_in, digits_of}

-- one digit, or the higher ones and the last
digits_cases : (P : List ℕ → Type 0) (k n : ℕ) → (n < 10 → P ((48 + n) ∷ [])) → (10 ≤ n → P (digits_in k (n / 10) ++ ((48 + n % 10) ∷ []))) → P (digits_in (suc k) n)
unfolding digits_in
digits_cases P k n one further = go (ltb n 10) refl
  where
    go : (b : Bool) → ltb n 10 ≡ b → P (cond b ((48 + n) ∷ []) (digits_in k (n / 10) ++ ((48 + n % 10) ∷ [])))
    go true e = one (ltb-true n 10 e)
    go false e = further (ltb-false n 10 e)

-- ---- a digit of room more changes nothing

digits_one : (k n : ℕ) → n < 10 → digits_in (suc k) n ≡ (48 + n) ∷ []
unfolding digits_in
digits_one k n h = rw (lt-ltb n 10 h)

digits_further : (k n : ℕ) → 10 ≤ n → digits_in (suc k) n ≡ digits_in k (n / 10) ++ ((48 + n % 10) ∷ [])
unfolding digits_in
digits_further k n h = rw (le-ltb n 10 h)

digits_enough : (k n : ℕ) → n < 10 ^ suc k → digits_in (suc (suc k)) n ≡ digits_in (suc k) n
digits_enough zero n h = digits_one 1 n (omega arith) ∙ sym (digits_one 0 n (omega arith))
digits_enough (suc k) n h =
    let p : n < 10 * 10 ^ suc k = rw pow-succ' at h in
    let e = digits_enough k (n / 10) (omega arith) in
    digits_cases (λ l. l ≡ digits_in (suc (suc k)) n) (suc (suc k)) n
    (λ l. sym (digits_one (suc k) n l))
    (λ l. rw e (sym (digits_further (suc k) n l)))

-- ---- of a number of 64 bits

pub digits_last : (n : ℕ) → n < 2 ^ 64 → 10 ≤ n → digits_of n ≡ digits_of (n / 10) ++ ((48 + n % 10) ∷ [])
unfolding digits_of
digits_last n h l = rw (digits_enough 18 (n / 10) (omega arith)) (digits_further 19 n l)

pub digits_single : (n : ℕ) → n < 10 → digits_of n ≡ (48 + n) ∷ []
unfolding digits_of
digits_single n h = digits_one 19 n h

-- ---- how many

digits_short : (j k n : ℕ) → n < 10 ^ suc k → length (digits_in j n) ≤ suc k
unfolding digits_in
digits_short zero k n h = omega arith
digits_short (suc j) zero n h = rw (digits_one j n (omega arith)) (omega arith)
digits_short (suc j) (suc k) n h =
    let p : n < 10 * 10 ^ suc k = rw pow-succ' at h in
    let e = digits_short j k (n / 10) (omega arith) in
    digits_cases (λ l. length l ≤ suc (suc k)) j n (λ l. omega arith) (λ l. simp length-append (omega arith))

-- a number below a power of ten has no more digits than that
pub digits_at_most : (k n : ℕ) → n < 10 ^ suc k → length (digits_of n) ≤ suc k
unfolding digits_of
digits_at_most k n h = digits_short 20 k n h

digits_in_lem : (k n : ℕ) → length (digits_in k n) ≤ k
unfolding digits_in
digits_in_lem zero n = omega arith
digits_in_lem (suc k) n = go (ltb n 10) (digits_in_lem k (n / 10))
  where
    go : (b : Bool) → length (digits_in k (n / 10)) ≤ k → length (cond b ((48 + n) ∷ []) (digits_in k (n / 10) ++ ((48 + n % 10) ∷ []))) ≤ suc k
    go true h = omega arith
    go false h = rw length-append (omega arith)

pub digits_twenty : (n : ℕ) → length (digits_of n) ≤ 20
unfolding digits_of
digits_twenty n = digits_in_lem 20 n

-- ---- digits, the first no 0

abbrev pub is_digit : ℕ → Type 0
is_digit d = (48 ≤ d) × (d ≤ 57)

-- so for each of a list's, and for one more
one_more : (l : List ℕ) (x : ℕ) → ((i : ℕ) → i < length l → is_digit (get_or l i 0)) → is_digit x → (i : ℕ) → i < length (l ++ (x ∷ [])) → is_digit (get_or (l ++ (x ∷ [])) i 0)
one_more l x each h i m = elim (dec_lt i (length l)) [
  | yes k ↦ rw (get_or-append l (x ∷ []) 0 i k) (each i k)
  | no k ↦ rw (get_or_at l x [] 0 i (omega (arith, length-append l (x ∷ [])))) h
]

digit_in : (k n i : ℕ) → i < length (digits_in k n) → is_digit (get_or (digits_in k n) i 0)
unfolding digits_in
digit_in zero n i l = absurd (omega arith)
digit_in (suc k) n i l =
    digits_cases (λ d. i < length d → is_digit (get_or d i 0)) k n
    (λ one m. let e : i ≡ 0 = omega arith in rw e (omega arith, omega arith))
    (λ _ m. one_more (digits_in k (n / 10)) (48 + n % 10) (digit_in k (n / 10)) (omega arith, omega arith) i m)
    l

pub digits_are : (n i : ℕ) → i < length (digits_of n) → is_digit (get_or (digits_of n) i 0)
unfolding digits_of
digits_are n i l = digit_in 20 n i l

digits_some : (k n : ℕ) → 0 < length (digits_in (suc k) n)
digits_some k n = digits_cases (λ l. 0 < length l) k n (λ _. omega arith) (λ _. simp length-append (omega arith))

first_in_lem : (k n : ℕ) → n < 10 ^ suc k → 0 < n → 48 < get_or (digits_in (suc k) n) 0 0
first_in_lem zero n h p = rw (digits_one 0 n (omega arith)) (omega arith)
first_in_lem (suc k) n h p =
    let q : n < 10 * 10 ^ suc k = rw pow-succ' at h in
    digits_cases (λ l. 48 < get_or l 0 0) (suc k) n
    (λ _. omega arith)
    (λ l. rw (get_or-append (digits_in (suc k) (n / 10)) ((48 + n % 10) ∷ []) 0 0 (digits_some k (n / 10))) (first_in_lem k (n / 10) (omega arith) (omega arith)))

pub no_leading_zero : (n : ℕ) → n < 2 ^ 64 → 0 < n → 48 < get_or (digits_of n) 0 0
unfolding digits_of
no_leading_zero n h p = first_in_lem 19 n (omega arith) p

-- ---- read back

-- the number that digits stand for after one that was read already
unfoldable pub value_after : ℕ → List ℕ → ℕ
value_after read [] = read
value_after read (d ∷ l) = value_after (10 * read + (d - 48)) l

abbrev pub value_of : List ℕ → ℕ
value_of l = value_after 0 l

value_append : (read : ℕ) (l : List ℕ) (d : ℕ) → value_after read (l ++ (d ∷ [])) ≡ 10 * value_after read l + (d - 48)
unfolding value_after
value_append read [] d = refl
value_append read (x ∷ l) d = value_append (10 * read + (x - 48)) l d

value_in : (k n : ℕ) → n < 10 ^ suc k → value_of (digits_in (suc k) n) ≡ n
unfolding value_after
value_in zero n h = rw (digits_one 0 n (omega arith)) (omega arith)
value_in (suc k) n h =
    let p : n < 10 * 10 ^ suc k = rw pow-succ' at h in
    let e = value_in k (n / 10) (omega arith) in
    digits_cases (λ l. value_of l ≡ n) (suc k) n (λ l. omega arith)
    (λ l. value_append 0 (digits_in (suc k) (n / 10)) (48 + n % 10) ∙ rw e (omega arith))

-- so two numbers never print the same
pub digits_value : (n : ℕ) → n < 2 ^ 64 → value_of (digits_of n) ≡ n
unfolding digits_of
digits_value n h = value_in 19 n (omega arith)

pub digits_differ : (m n : ℕ) → m < 2 ^ 64 → n < 2 ^ 64 → digits_of m ≡ digits_of n → m ≡ n
digits_differ m n h k e = sym (digits_value m h) ∙ ap value_of e ∙ digits_value n k
