-- From column 0 on, column by column.
use mathlib.Core.Path.{◌≡◌}
use Rattle.lines.specs.Bars.{run_bar}
use Rattle.lines.proofs.BarLaws.{run_from}
use Rattle.lines.proofs.bars.run_bar.Given as goal

abbrev pub invariant-loop-col : goal.invariant-loop-col
invariant-loop-col l = run_bar l.table l.row ≡ run_from l.table l.row l.col
