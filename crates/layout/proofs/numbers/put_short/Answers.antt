-- `layout::numbers::put_short` meets its contract: two bytes, low byte first.
use mathlib.Core.Path.{◌∙◌}
use Rattle.layout.proofs.NumberLaws.{short_split, short_length}
use Rattle.layout.proofs.Laying.{lay_range}
use Rattle.layout.proofs.numbers.put_short.Goals as goal

pub returns : goal.returns
returns c =
    let a = c.args in
    lay_range a.out.now a.at 2 _ _ (c.copy_from_slice.ensures.after ∙ c.to_le_bytes.ensures ∙ short_split a.v) (short_length a.v) c.requires
