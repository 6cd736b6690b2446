-- `layout::numbers::put_word` meets its contract: eight bytes, low byte first.
use mathlib.Core.Path.{◌∙◌}
use Rattle.layout.proofs.NumberLaws.{word_split, word_length}
use Rattle.layout.proofs.Laying.{lay_range}
use Rattle.layout.proofs.numbers.put_word.Goals as goal

pub returns : goal.returns
returns c =
    let a = c.args in
    lay_range a.out.now a.at 8 _ _ (c.copy_from_slice.ensures.after ∙ c.to_le_bytes.ensures ∙ word_split a.v) (word_length a.v) c.requires
