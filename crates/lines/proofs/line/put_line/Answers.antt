-- Five pieces.
use Rattle.std.proofs.Common.{rules}
use mathlib.Core.List.{[], ◌∷◌}
use Rattle.lines.specs.Decimal.{digits_of}
use Rattle.lines.specs.Words.{answer_text}
use Rattle.lines.specs.Line.{slots_text, line_text}
use Rattle.lines.proofs.Writing.{first_fits, left_fits, then}
use Rattle.lines.proofs.line.put_line.Goals as goal

pub put_number-requires : goal.put_number-requires
unfolding line_text
put_number-requires c =
    let a = c.args in
    first_fits (record { bytes = a.text; at = a.at }) (digits_of a.number) _ c.requires

pub put_byte-requires : goal.put_byte-requires
unfolding line_text
put_byte-requires c = first_fits c.put_number.new.self (32 ∷ []) _ (left_fits c.put_number.ensures _ c.requires)

pub put_answer-requires : goal.put_answer-requires
unfolding line_text
put_answer-requires c =
    let r₁ = left_fits c.put_number.ensures _ c.requires in
    first_fits c.put_byte.new.self (answer_text c.args.answer) _ (left_fits c.put_byte.ensures _ r₁)

pub put_slots-requires : goal.put_slots-requires
unfolding line_text
put_slots-requires c =
    let r₁ = left_fits c.put_number.ensures _ c.requires in
    let r₂ = left_fits c.put_byte.ensures _ r₁ in
    first_fits c.put_answer.new.self (slots_text c.args.ran.now) _ (left_fits c.put_answer.ensures _ r₂)

pub put_byte-requires-2 : goal.put_byte-requires-2
unfolding line_text
put_byte-requires-2 c =
    let r₁ = left_fits c.put_number.ensures _ c.requires in
    let r₂ = left_fits c.put_byte.ensures _ r₁ in
    left_fits c.put_slots.ensures _ (left_fits c.put_answer.ensures _ r₂)

pub returns-clause-value : goal.returns-clause-value
unfolding line_text
returns-clause-value c =
    (then c.put_number.ensures (then c.put_byte.ensures (then c.put_answer.ensures (then c.put_slots.ensures c.put_byte-2.ensures)))).at

pub returns-clause-text_after : goal.returns-clause-text_after
unfolding line_text
returns-clause-text_after c =
    let w = then c.put_number.ensures (then c.put_byte.ensures (then c.put_answer.ensures (then c.put_slots.ensures c.put_byte-2.ensures))) in
    search rules
