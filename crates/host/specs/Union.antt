-- The union on slices: seven bytes each.
use Rattle.std.specs.Prelude.{List, Bool, cond, ◌&&◌, ℕ}
use Rattle.deps.specs.Sets.{union_of}
use Rattle.layout.specs.Numbers.{lay}
use Rattle.octets.specs.Sets.{set_at, set_bytes}
use Rattle.calls.specs.Calls.{short, enough}
use Rattle.deciding.specs.Codes.{done}

unfoldable pub union_long : List ℕ → List ℕ → List ℕ → Bool
union_long a b out = enough 7 a && (enough 7 b && enough 7 out)

abbrev pub union_code : List ℕ → List ℕ → List ℕ → ℕ
union_code a b out = cond (union_long a b out) done short

abbrev pub union_bytes : List ℕ → List ℕ → List ℕ → List ℕ
union_bytes a b out = cond (union_long a b out) (lay out 0 (set_bytes (union_of (set_at a) (set_at b)))) out
