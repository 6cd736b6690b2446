-- `leads::search::reach`: what is seen in the end is the least set that the search can end with.
use native.Mathlib.Omega.{arith}
use Rattle.leads.proofs.LeastLaws.{search_is}
use Rattle.leads.proofs.search.reach.Goals as goal

pub returns : goal.returns
returns c =
    search_is c.args.deps.now c.requires.valid c.args.row c.args.col c.args.from.cols c.visit.new.seen (omega arith) (omega arith) c.visit.array_long c.requires.start c.visit.ensures
