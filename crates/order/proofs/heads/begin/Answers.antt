-- `order::heads::begin` meets its contract: each row's head is found.
use borrow.Author.Rules.{rules}
use Rattle.order.specs.Heads.{blank_head, HeadAt}
use Rattle.order.proofs.MadeLaws.{each_made}
use Rattle.order.proofs.heads.begin.Goals as goal

pub returns : goal.returns
returns c =
    let a = c.args in
    record { each = each_made _ _ c.from_fn.result blank_head (λ row head. HeadAt a.deps.now a.todo.now row 0 head.col head.reach.cols) (λ x y q k. search rules) 7 c.from_fn.ensures.items }
