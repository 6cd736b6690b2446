use Rattle.groups.proofs.ToldLaws.{ReadTo}
use Rattle.groups.proofs.cursor.Cursor.numbers.Given as goal

abbrev pub invariant-loop-value : goal.invariant-loop-value
invariant-loop-value g l = ReadTo g.row.N l.initial.self l.value-items l.value-index l.self
