-- The line of an event: its number, its answer, the slots run.
use mathlib.Core.List.{List, [], ◌∷◌, ◌++◌, flat_map}
use Rattle.std.specs.Prelude.{ℕ, ◌/◌, ◌%◌}
use Rattle.base.specs.declared.answer.Answer.{Answer}
use Rattle.lines.specs.Decimal.{digits_of, pair_text}
use Rattle.lines.specs.Words.{answer_text}

-- an order entry is 32 * row + column: after a space ROW.COLUMN
abbrev pub slot_text : ℕ → List ℕ
slot_text e = pair_text (e / 32) 46 (e % 32)

unfoldable pub slots_text : List ℕ → List ℕ
slots_text ran = flat_map slot_text ran

-- one space between words, and a newline
unfoldable pub line_text : ℕ → Answer → List ℕ → List ℕ
line_text number answer ran = digits_of number ++ (32 ∷ (answer_text answer ++ (slots_text ran ++ (10 ∷ []))))
