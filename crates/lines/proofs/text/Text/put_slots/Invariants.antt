use mathlib.Core.List.{flat_map}
use lib.ListN.{take}
use Rattle.lines.specs.Line.{slot_text}
use Rattle.lines.specs.Text.{Wrote}
use Rattle.lines.proofs.text.Text.put_slots.Given as goal

abbrev pub invariant-loop-entry : goal.invariant-loop-entry
invariant-loop-entry l = Wrote l.initial.self l.self (flat_map slot_text (take l.entry-index l.ran))
