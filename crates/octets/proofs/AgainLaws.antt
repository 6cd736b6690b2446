-- A set that is read, written again in its place, leaves the bytes as they were.
use mathlib.Core.Path.{◌≡◌, refl, ◌∙◌}
use mathlib.Core.List.{List}
use Prim.Native.Nat.{ℕ, ◌+◌, ◌*◌}
use lib.ListN.{drop}
use Rattle.layout.specs.Numbers.{byte_of, lay}
use Rattle.layout.proofs.EachLaws.{each_is}
use Rattle.layout.proofs.AgainLaws.{byte_again, first_past, each_again}
use Rattle.octets.specs.Sets.{rows_at, set_at, row_byte, set_bytes}

pub set_again : (l : List ℕ) (p : ℕ) → l ≡ lay l p (set_bytes (set_at (drop p l)))
unfolding rows_at set_bytes
set_again l p =
    each_again (row_byte (set_at (drop p l))) 1 (λ row. refl) l p 7
    (λ i q. byte_again l (p + 1 * i) _ (each_is byte_of 1 7 i (drop p l) 0 q ∙ first_past l p (1 * i)))
