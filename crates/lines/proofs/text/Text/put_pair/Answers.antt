-- Four pieces.
use mathlib.Core.List.{[], ◌∷◌}
use Rattle.lines.specs.Decimal.{digits_of, pair_text}
use Rattle.lines.proofs.Writing.{first_fits, left_fits, then}
use Rattle.lines.proofs.text.Text.put_pair.Goals as goal

pub put_byte-requires : goal.put_byte-requires
unfolding pair_text
put_byte-requires c = first_fits c.args.self.now (32 ∷ []) _ c.requires

pub put_number-requires : goal.put_number-requires
unfolding pair_text
put_number-requires c =
    let r₁ = left_fits c.put_byte.ensures _ c.requires in
    first_fits c.put_byte.new.self (digits_of c.args.first) _ r₁

pub put_byte-requires-2 : goal.put_byte-requires-2
unfolding pair_text
put_byte-requires-2 c =
    let r₁ = left_fits c.put_byte.ensures _ c.requires in
    first_fits c.put_number.new.self (c.args.mark ∷ []) _ (left_fits c.put_number.ensures _ r₁)

pub put_number-requires-2 : goal.put_number-requires-2
unfolding pair_text
put_number-requires-2 c =
    let r₁ = left_fits c.put_byte.ensures _ c.requires in
    left_fits c.put_byte-2.ensures _ (left_fits c.put_number.ensures _ r₁)

pub returns : goal.returns
unfolding pair_text
returns c = then c.put_byte.ensures (then c.put_number.ensures (then c.put_byte-2.ensures c.put_number-2.ensures))
