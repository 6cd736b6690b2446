-- Numbers of a trace: groups of seven bits, low group first, high bit set on all but the last, shortest form, at most 64 bits.
use Rattle.std.specs.Prelude.{List, [], ◌∷◌, cond, ◌&&◌, ltb, leb, eqb, drop, get_or, ℕ, zero, suc, ◌+◌, ◌*◌, ◌/◌, ◌%◌, ◌<◌}
use Rattle.base.specs.Refusals.{cut, unreadable}

-- ---- the bytes of a number

-- in at most so many groups
unfoldable pub bytes_in : ℕ → ℕ → List ℕ
bytes_in zero number = []
bytes_in (suc left) number = cond (ltb number 128) (number ∷ []) ((128 + number % 128) ∷ bytes_in left (number / 128))

-- ten hold every number of 64 bits
unfoldable pub bytes_of : ℕ → List ℕ
bytes_of number = bytes_in 10 number

-- ---- the number at the front of bytes

-- each element is a byte
abbrev pub Bytes : List ℕ → Type 0
Bytes l = (i : ℕ) → get_or l i 0 < 256

-- a number, and how many bytes it takes; the bytes end inside one; no number begins so
pub data Groups : Type 0 where
  whole : ℕ → ℕ → Groups
  cut_off : Groups
  none : Groups

-- seven bits below the groups after them
abbrev pub low_group : ℕ → Groups → Groups
low_group b (whole v k) = whole (128 * v + b % 128) (suc k)
low_group b cut_off = cut_off
low_group b none = none

-- the last of several groups is not 0, which would not be the shortest form
abbrev pub last_group : ℕ → ℕ → Groups
last_group most b = cond (leb 1 b && leb b most) (whole b 1) none

-- after a byte with its high bit set; so many groups may follow the next, and where none may it is 1, for 64 bits
unfoldable pub later_in : ℕ → List ℕ → Groups
later_in left [] = cut_off
later_in zero (b ∷ l) = last_group 1 b
later_in (suc left) (b ∷ l) = cond (ltb b 128) (last_group 127 b) (low_group b (later_in left l))

unfoldable pub number_in : List ℕ → Groups
number_in [] = cut_off
number_in (b ∷ l) = cond (ltb b 128) (whole b 1) (low_group b (later_in 8 l))

-- ---- the number at a place of a trace

-- the place of the next byte; or the refusal that was met, of which 0 is none, and then no place
pub record Cursor : Type 0 where
  pub at : ℕ
  pub refusal : ℕ

-- what was read, and what is next; with a refusal it is 0
pub record Number : Type 0 where
  pub value : ℕ
  pub cursor : Cursor

abbrev pub read : ℕ → ℕ → Number
read value next = record { value = value; cursor = record { at = next; refusal = 0 } }

abbrev pub stopped : ℕ → Number
stopped refusal = record { value = 0; cursor = record { at = 0; refusal = refusal } }

abbrev pub landed : ℕ → Groups → Number
landed at (whole v k) = read v (at + k)
landed at cut_off = stopped cut
landed at none = stopped unreadable

unfoldable pub number_at : List ℕ → ℕ → Number
number_at s at = landed at (number_in (drop at s))

-- seven bits below what was read after them
abbrev pub joined : ℕ → Number → Number
joined b x = cond (eqb x.cursor.refusal 0) (read (128 * x.value + b % 128) x.cursor.at) x
