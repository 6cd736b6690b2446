-- `octets::marks::marks_at` meets its contract: each mark is read at its place.
use Rattle.std.proofs.Common.{rules}
use mathlib.Core.Bool.{false}
use Rattle.octets.specs.Marks.{mark_of, marks_at}
use Rattle.layout.proofs.EachLaws.{made_of_bytes}
use Rattle.octets.proofs.marks.marks_at.Goals as goal

pub returns : goal.returns
unfolding marks_at
returns c = made_of_bytes _ mark_of c.args.at c.args.s.now _ (λ i y q h. search rules) 7 _ false c.from_fn.ensures.items
