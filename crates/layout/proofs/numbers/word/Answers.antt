-- `layout::numbers::word` meets its contract: eight bytes, low byte first.
use Rattle.std.proofs.Common.{rules}
use mathlib.Core.Path.{◌∙◌}
use Rattle.layout.proofs.NumberLaws.{word_made}
use Rattle.layout.proofs.EachLaws.{made_of_bytes}
use Rattle.layout.proofs.numbers.word.Goals as goal

pub returns : goal.returns
returns c =
    let a = c.args in
    c.from_le_bytes.ensures ∙ word_made a.s.now _ a.at (made_of_bytes _ (λ b. b) a.at a.s.now _ (λ i y q h. search rules) 8 _ 0 c.from_fn.ensures.items)
