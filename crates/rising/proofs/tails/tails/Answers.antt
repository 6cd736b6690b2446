-- `rising::tails::tails` meets its contract: what is found in each row.
use mathlib.Core.Path.{◌≡◌}
use borrow.Author.Rules.{rules}
use Rattle.std.specs.Prelude.{None, option_to_list}
use Rattle.rising.specs.Committed.{tail_in}
use Rattle.order.proofs.MadeLaws.{each_made}
use Rattle.rising.proofs.tails.tails.Goals as goal

pub returns : goal.returns
returns c = each_made _ _ c.from_fn.result None (λ row found. option_to_list found ≡ tail_in c.args.table row) (λ x y q k. search rules) 7 c.from_fn.ensures.items
