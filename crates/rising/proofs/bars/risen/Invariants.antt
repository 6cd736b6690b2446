-- `rising::bars::risen` meets its contract: from the bar on, column by column.
use mathlib.Core.Path.{◌≡◌}
use Prim.Native.Nat.{◌≤◌}
use Rattle.table.specs.Table.{len_of}
use Rattle.rising.specs.Bars.{risen_bar}
use Rattle.rising.proofs.RisenLaws.{search_from}
use Rattle.rising.proofs.bars.risen.Given as goal

abbrev pub invariant-loop-col : goal.invariant-loop-col
invariant-loop-col l = (l.col ≤ len_of l.table l.row) × (risen_bar l.table l.row ≡ search_from l.table l.row l.col)
