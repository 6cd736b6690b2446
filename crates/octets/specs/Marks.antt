-- Marks and statuses by their bytes, and the marks of seven replicas.
use Rattle.std.specs.Prelude.{List, Bool, cond, not, ℕ, eqb}
use Rattle.base.specs.declared.status.Status.{Status}
use Rattle.base.specs.declared.status.Status.TheVariants.{Null, PreAccepting, Accepting, Committed, Executed}
use Rattle.layout.specs.Numbers.{byte_of}
use Rattle.layout.specs.Each.{each_at}

-- marked by any byte but 0
abbrev pub mark_of : ℕ → Bool
mark_of b = not (eqb b 0)

-- a status's byte is its place in the order; every other byte is read as null
abbrev pub status_of : ℕ → Status
status_of b = cond (eqb b 1) PreAccepting (cond (eqb b 2) Accepting (cond (eqb b 3) Committed (cond (eqb b 4) Executed Null)))

abbrev pub mark_at : List ℕ → Bool
mark_at l = mark_of (byte_of l)

abbrev pub status_at : List ℕ → Status
status_at l = status_of (byte_of l)

unfoldable pub marks_at : List ℕ → List Bool
marks_at l = each_at mark_at 1 7 l
