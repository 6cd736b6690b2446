-- `passed::sevens::statuses_at` meets its contract: each status is read at its place.
use Rattle.std.proofs.Common.{rules}
use Rattle.base.specs.declared.status.Status.TheVariants.{Null}
use Rattle.octets.specs.Marks.{status_of}
use Rattle.layout.proofs.EachLaws.{made_of_bytes}
use Rattle.passed.specs.Sevens.{statuses_at}
use Rattle.passed.proofs.sevens.statuses_at.Goals as goal

pub returns : goal.returns
unfolding statuses_at
returns c = made_of_bytes _ status_of c.args.at c.args.s.now _ (λ i y q h. search rules) 7 _ Null c.from_fn.ensures.items
