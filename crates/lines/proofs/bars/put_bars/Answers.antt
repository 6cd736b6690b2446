-- The word, the rows, the newline.
use Rattle.std.proofs.Common.{rules}
use mathlib.Core.List.{[], ◌∷◌}
use Rattle.lines.specs.Bars.{rows_text, bars_text}
use Rattle.lines.proofs.Writing.{first_fits, left_fits, then}
use Rattle.lines.proofs.bars.put_bars.Goals as goal

pub put_word-requires : goal.put_word-requires
unfolding bars_text
put_word-requires c =
    let a = c.args in
    first_fits (record { bytes = a.text; at = a.at }) (98 ∷ 97 ∷ 114 ∷ 115 ∷ []) _ c.requires.table_in_bounds

pub put_rows-requires-clause-room : goal.put_rows-requires-clause-room
unfolding bars_text
put_rows-requires-clause-room c =
    first_fits c.put_word.new.self (rows_text c.args.table) _ (left_fits c.put_word.ensures _ c.requires.table_in_bounds)

pub put_byte-requires : goal.put_byte-requires
unfolding bars_text
put_byte-requires c = left_fits c.put_rows.ensures _ (left_fits c.put_word.ensures _ c.requires.table_in_bounds)

pub returns-clause-value : goal.returns-clause-value
unfolding bars_text
returns-clause-value c = (then c.put_word.ensures (then c.put_rows.ensures c.put_byte.ensures)).at

pub returns-clause-text_after : goal.returns-clause-text_after
unfolding bars_text
returns-clause-text_after c =
    let w = then c.put_word.ensures (then c.put_rows.ensures c.put_byte.ensures) in
    search rules
