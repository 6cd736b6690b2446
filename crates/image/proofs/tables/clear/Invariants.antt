-- `image::tables::clear` meets its contract: the slots passed so far are written again, those to come are as they were.
use mathlib.Core.Path.{◌≡◌}
use mathlib.Core.List.{List}
use Prim.Native.Nat.{ℕ}
use lib.ListN.{length, drop}
use Rattle.layout.specs.Numbers.{lay}
use Rattle.layout.specs.Each.{each_bytes}
use Rattle.image.specs.Tables.{slots_at, slot_in}
use Rattle.image.proofs.tables.clear.Given as goal

-- the bytes of the slots that are read, those below i
abbrev pub written : List ℕ → ℕ → List ℕ
written l i = each_bytes (slot_in (slots_at (drop 1810 l))) i

abbrev pub invariant-loop-i : goal.invariant-loop-i
invariant-loop-i l = (length l.image ≡ length l.initial.image) × (l.image ≡ lay l.initial.image 1810 (written l.initial.image l.i))
