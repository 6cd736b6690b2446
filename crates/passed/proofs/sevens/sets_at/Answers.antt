-- `passed::sevens::sets_at` meets its contract: each set is read at its place.
use Rattle.std.proofs.Common.{rules, []}
use Rattle.octets.specs.Sets.{rows_at}
use Rattle.layout.proofs.EachLaws.{made_is}
use Rattle.passed.specs.Sevens.{sets_at}
use Rattle.passed.proofs.sevens.sets_at.Goals as goal

pub returns : goal.returns
unfolding sets_at
returns c = made_is _ rows_at 7 c.args.at c.args.s.now _ (λ i y q h. search rules) 7 _ [] c.from_fn.ensures.items
