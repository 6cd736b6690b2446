-- `image::tables::put_slots` meets its contract: the slots passed so far are laid.
use mathlib.Core.Path.{◌≡◌}
use lib.ListN.{length}
use Rattle.layout.specs.Numbers.{lay}
use Rattle.layout.specs.Each.{each_bytes}
use Rattle.image.specs.Tables.{slot_in}
use Rattle.image.proofs.tables.put_slots.Given as goal

abbrev pub invariant-loop-i : goal.invariant-loop-i
invariant-loop-i l = (length l.out ≡ length l.initial.out) × (l.out ≡ lay l.initial.out l.at (each_bytes (slot_in l.fn.slots) l.i))
