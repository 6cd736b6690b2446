-- `image::rows::put_keys` meets its contract: the keys passed so far are laid.
use mathlib.Core.Path.{◌≡◌}
use lib.ListN.{length}
use Rattle.keys.specs.Columns.{keys_of}
use Rattle.layout.specs.Numbers.{lay}
use Rattle.layout.specs.Each.{each_bytes}
use Rattle.image.specs.Tables.{columns_in}
use Rattle.image.proofs.rows.put_keys.Given as goal

abbrev pub invariant-loop-key : goal.invariant-loop-key
invariant-loop-key l = (length l.out ≡ length l.initial.out) × (l.out ≡ lay l.initial.out l.at (each_bytes (columns_in (keys_of l.cols-items)) l.key))
