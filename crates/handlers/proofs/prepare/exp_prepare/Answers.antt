-- `handlers::prepare::exp_prepare` meets its contract: the change that was decided on the table's view, made of the table.
use mathlib.Core.Path.{◌≡◌, sym, ◌∙◌}
use lib.ListN.{length}
use borrow.Author.Rules.{rules}
use Rattle.deps.specs.Batches.{no_op}
use Rattle.handlers.proofs.prepare.exp_prepare.Goals as goal

pub apply-requires : goal.apply-requires
apply-requires c = (c.answered.ensures no_op).inside

pub returns : goal.returns
returns c =
    let l : length c.args.table.lens ≡ 7 = search rules in
    c.apply.ensures ∙ (c.answered.ensures no_op).same c.args.table l (sym c.look_plain.ensures)
