-- `layout::numbers::short` meets its contract: two bytes, low byte first.
use mathlib.Core.Path.{◌∙◌}
use Rattle.layout.proofs.NumberLaws.{short_made}
use Rattle.layout.proofs.numbers.short.Goals as goal

pub returns : goal.returns
returns c = c.from_le_bytes.ensures ∙ short_made c.args.s.now c.args.at
