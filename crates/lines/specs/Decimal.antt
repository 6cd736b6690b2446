-- Numbers in decimal.
use Rattle.std.specs.Prelude.{List, [], ◌∷◌, ◌++◌, cond, ℕ, zero, suc, ◌+◌, ◌/◌, ◌%◌, ltb}

-- at most k digits, the highest first: `0` is 48
unfoldable pub digits_in : ℕ → ℕ → List ℕ
digits_in zero n = []
digits_in (suc k) n = cond (ltb n 10) ((48 + n) ∷ []) (digits_in k (n / 10) ++ ((48 + n % 10) ∷ []))

-- no number of 64 bits has more than 20
unfoldable pub digits_of : ℕ → List ℕ
digits_of n = digits_in 20 n

-- after a space, two numbers and a mark between them
unfoldable pub pair_text : ℕ → ℕ → ℕ → List ℕ
pair_text a mark b = 32 ∷ (digits_of a ++ (mark ∷ digits_of b))
