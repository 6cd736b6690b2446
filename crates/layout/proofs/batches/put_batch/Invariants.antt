-- `layout::batches::put_batch` meets its contract: the count, and after it the requests passed so far are laid.
use mathlib.Core.Path.{◌≡◌}
use Prim.Native.Nat.{◌+◌}
use lib.ListN.{length}
use Rattle.layout.specs.Numbers.{lay}
use Rattle.layout.specs.Each.{each_bytes}
use Rattle.layout.specs.Batches.{request_in}
use Rattle.layout.proofs.batches.put_batch.Given as goal

abbrev pub invariant-loop-i : goal.invariant-loop-i
invariant-loop-i l = (length l.out ≡ length l.initial.out) × (l.out ≡ lay l.initial.out (l.at + 1) (each_bytes (request_in l.fn.b) l.i))
