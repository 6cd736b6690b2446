-- `order::heads::first_head` meets its contract: the search begins with nothing seen.
use Rattle.leads.proofs.LeastLaws.{start_none}
use Rattle.order.proofs.heads.first_head.Goals as goal

pub moved-requires-clause-start : goal.moved-requires-clause-start
moved-requires-clause-start c = start_none c.args.deps.now c.requires.valid c.args.row
