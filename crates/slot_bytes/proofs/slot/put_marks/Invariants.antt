-- `slot_bytes::slot::put_marks` meets its contract: the marks passed so far are laid.
use mathlib.Core.Path.{◌≡◌}
use lib.ListN.{length}
use Rattle.layout.specs.Numbers.{lay}
use Rattle.layout.specs.Each.{each_bytes}
use Rattle.slot_bytes.specs.Slot.{mark_in}
use Rattle.slot_bytes.proofs.slot.put_marks.Given as goal

abbrev pub invariant-loop-i : goal.invariant-loop-i
invariant-loop-i l = (length l.out ≡ length l.initial.out) × (l.out ≡ lay l.initial.out l.at (each_bytes (mark_in l.fn.marks) l.i))
