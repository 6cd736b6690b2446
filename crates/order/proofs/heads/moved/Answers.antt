-- `order::heads::moved` meets its contract.
use native.Mathlib.Omega.{arith}
use Rattle.order.proofs.HeadLaws.{moved_on}
use Rattle.order.proofs.heads.moved.Goals as goal

pub returns-in-Some : goal.returns-in-Some
returns-in-Some c =
    let a = c.args in
    moved_on a.deps.now a.todo.now c.requires.valid a.row a.from c.in-Some.col c.reach-reach.result.cols (omega arith) c.in-Some.ensures.0 c.in-Some.ensures.1 c.reach-reach.ensures
