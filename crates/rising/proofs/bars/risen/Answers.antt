-- `rising::bars::risen` meets its contract: from the bar on, column by column.
use mathlib.Core.Path.{sym, ◌∙◌}
use native.Mathlib.Omega.{arith}
use Rattle.bounds.proofs.BoundLaws.{table_fits_each}
use Rattle.rising.proofs.RisenLaws.{search_begins, search_stops, search_goes, search_ends}
use Rattle.rising.proofs.bars.risen.Goals as goal

pub loop-col-init : goal.loop-col-init
loop-col-init c = ((table_fits_each c.args.table c.requires.table_value).bars_fit c.args.row c.requires.row_bound, search_begins c.args.table c.args.row)

pub returns-then-rank : goal.returns-then-rank
returns-then-rank c = sym (c.loop-col.invariant.1 ∙ search_stops c.args.table c.args.row c.loop-col.col c.loop-col-test.true (omega (arith, c.rank.ensures, c.rank-in-loop-col.ensures)))

pub loop-col-preserved : goal.loop-col-preserved
loop-col-preserved c = (omega arith, c.loop-col.invariant.1 ∙ search_goes c.args.table c.args.row c.loop-col.col c.loop-col-test.true (omega (arith, c.rank.ensures, c.rank-in-loop-col.ensures)))

pub returns : goal.returns
returns c = sym (c.loop-col.invariant.1 ∙ search_ends c.args.table c.args.row c.loop-col.col (omega arith) ∙ omega arith)
