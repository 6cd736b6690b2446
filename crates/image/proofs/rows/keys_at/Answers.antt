-- `image::rows::keys_at` meets its contract: each key's columns are read at their place.
use Rattle.std.proofs.Common.{rules}
use mathlib.Core.Path.{ap, ◌∙◌}
use mathlib.Core.List.{[]}
use Rattle.keys.specs.Columns.{keys_of}
use Rattle.octets.specs.Sets.{rows_at}
use Rattle.layout.proofs.EachLaws.{made_is}
use Rattle.image.specs.Tables.{keys_at}
use Rattle.image.proofs.rows.keys_at.Goals as goal

pub returns : goal.returns
unfolding keys_at
returns c = c.of.ensures ∙ ap keys_of (made_is _ rows_at 7 c.args.at c.args.s.now _ (λ i y q h. search rules) 256 _ [] c.from_fn.ensures.items)
