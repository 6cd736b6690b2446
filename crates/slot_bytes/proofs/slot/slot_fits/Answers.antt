-- `slot_bytes::slot::slot_fits` meets its contract: each test in its turn, and then the marks.
-- each part from the slice's first byte on
use Rattle.std.proofs.Common.{rules}
use mathlib.Core.Path.{◌≡◌}
use mathlib.Core.List.{List}
use mathlib.Core.Bool.{◌&&◌}
use Prim.Native.Nat.{ℕ, ◌+◌}
use lib.Dec.{leb}
use lib.ListN.{get_or, drop}
use lib.Seq.{drop-drop, get_or-drop}
use Rattle.base.specs.Marks.{marks_fit}
use Rattle.deps.specs.Sets.{set_fits}
use Rattle.deps.specs.Batches.{batch_fits}
use Rattle.slots.specs.Slot.{slot_fits}
use Rattle.layout.specs.Batches.{batch_at}
use Rattle.octets.specs.Sets.{set_at}
use Rattle.octets.specs.Marks.{marks_at}
use Rattle.slot_bytes.specs.Slot.{slot_at}
use Rattle.slot_bytes.proofs.slot.slot_fits.Goals as goal

fits_are : (s : List ℕ) (at n : ℕ)
    → slot_fits n (slot_at (drop at s)) ≡ (leb (get_or s (at + 1) 0) n && (set_fits n (set_at (drop (at + 26) s)) && (batch_fits (batch_at (drop (at + 33) s)) && marks_fit n (marks_at (drop (at + 3) s)))))
unfolding slot_fits slot_at
fits_are s at n = simp (get_or-drop, drop-drop)

pub returns-then-batch_fits : goal.returns-then-batch_fits
returns-then-batch_fits c = rw (fits_are c.args.s.now c.args.at c.args.n) (search rules)

pub returns-else-batch_fits : goal.returns-else-batch_fits
returns-else-batch_fits c = rw (fits_are c.args.s.now c.args.at c.args.n) (search rules)
