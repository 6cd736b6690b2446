use mathlib.Core.List.{flat_map}
use lib.ListN.{take}
use Rattle.base.specs.Below.{list_below}
use Rattle.lines.specs.Bars.{bar_text}
use Rattle.lines.specs.Text.{Wrote}
use Rattle.lines.proofs.text.Text.put_rows.Given as goal

abbrev pub invariant-loop-row : goal.invariant-loop-row
invariant-loop-row l = Wrote l.initial.self l.self (flat_map (bar_text l.table) (take l.row (list_below l.table.config.n (λ row. row))))
