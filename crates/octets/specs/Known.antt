-- Bytes below a bound, at places one step apart.
use Rattle.std.specs.Prelude.{List, Bool, ℕ, ◌*◌, ltb, get_or}
use Rattle.base.specs.Below.{all_below}

abbrev pub below_at : ℕ → ℕ → List ℕ → ℕ → Bool
below_at step bound l i = ltb (get_or l (step * i) 0) bound

-- the bytes at 0, step, .., step * (count - 1)
unfoldable pub each_below : ℕ → ℕ → ℕ → List ℕ → Bool
each_below count step bound l = all_below count (below_at step bound l)
