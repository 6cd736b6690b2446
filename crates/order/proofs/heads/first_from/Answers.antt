-- `order::heads::first_from` meets its contract: the columns are gone through until one is marked.
use mathlib.Core.Path.{◌≡◌}
use mathlib.Core.Bool.{true, false}
use Prim.Native.Nat.{◌+◌, ◌*◌}
use borrow.Author.Rules.{rules}
use Rattle.std.proofs.lemmas.Iterator.{first_from_Range}
use Rattle.base.specs.Marks.{marked}
use Rattle.order.proofs.HeadLaws.{found_first}
use Rattle.order.proofs.heads.first_from.Goals as goal

pub returns : goal.returns
returns c =
    let a = c.args in
    found_first a.todo.now a.row a.from c.find.result c.requires.from_bound
    (first_from_Range _ _ _ c.find.result (λ x. marked a.todo.now (32 * a.row + x) ≡ true) (λ x. marked a.todo.now (32 * a.row + x) ≡ false) c.find.ensures.ran (λ x q k. search rules) (λ x q k. search rules))
