-- `image::rows::put_rows` meets its contract: the rows passed so far are laid.
use mathlib.Core.Path.{◌≡◌}
use lib.ListN.{length}
use Rattle.layout.specs.Numbers.{lay}
use Rattle.layout.specs.Each.{each_bytes}
use Rattle.image.specs.Tables.{row_in}
use Rattle.image.proofs.rows.put_rows.Given as goal

abbrev pub invariant-loop-i : goal.invariant-loop-i
invariant-loop-i l = (length l.out ≡ length l.initial.out) × (l.out ≡ lay l.initial.out l.at (each_bytes (row_in l.fn.rows) l.i))
