-- `image::rows::rows_at` meets its contract: each row is read at its place.
use Rattle.std.proofs.Common.{rules}
use Rattle.octets.specs.Sets.{rows_at}
use Rattle.layout.proofs.EachLaws.{made_of_bytes}
use Rattle.image.proofs.rows.rows_at.Goals as goal

pub returns : goal.returns
unfolding rows_at
returns c = made_of_bytes _ (λ b. b) c.args.at c.args.s.now _ (λ i y q h. search rules) 7 _ 0 c.from_fn.ensures.items
