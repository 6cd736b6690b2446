-- The rows are the list of the numbers below n.
use mathlib.Core.List.{List, flat_map}
use Prim.Native.Nat.{ℕ, ◌<◌}
use native.Mathlib.Omega.{arith}
use Rattle.base.specs.Below.{list_below}
use Rattle.base.proofs.Loops.{length_below, below_at_lem}
use Rattle.bounds.proofs.BoundLaws.{table_fits_each}
use Rattle.lines.specs.Bars.{bar_text, rows_text}
use Rattle.lines.proofs.Writing.{begun, each_fits, each_more, each_done}
use Rattle.lines.proofs.text.Text.put_rows.Goals as goal

abbrev rows : ℕ → List ℕ
rows n = list_below n (λ row. row)

pub loop-row-init : goal.loop-row-init
unfolding flat_map
loop-row-init c = begun c.args.self.now

pub put_bar-requires-clause-row_bound : goal.put_bar-requires-clause-row_bound
put_bar-requires-clause-row_bound c = omega (arith, (table_fits_each c.args.table c.requires.table_value).config_fits.seven)

pub put_bar-requires-clause-room : goal.put_bar-requires-clause-room
unfolding rows_text
put_bar-requires-clause-room c =
    let t = c.args.table in
    let o = c.loop-row in
    let h : o.row < t.config.n = omega arith in
    let fits = each_fits (bar_text t) (rows t.config.n) o.row o.invariant (omega (arith, length_below t.config.n (λ (row : ℕ). row))) c.requires.room in
    rw (below_at_lem t.config.n (λ row. row) o.row 0 h) at fits

pub loop-row-preserved : goal.loop-row-preserved
loop-row-preserved c =
    let t = c.args.table in
    let o = c.loop-row in
    let h : o.row < t.config.n = omega arith in
    each_more (bar_text t) (rows t.config.n) o.row o.invariant (omega (arith, length_below t.config.n (λ (row : ℕ). row)))
    (rw (below_at_lem t.config.n (λ row. row) o.row 0 h) c.put_bar.ensures)

pub returns : goal.returns
unfolding rows_text
returns c =
    let t = c.args.table in
    let o = c.loop-row in
    each_done (bar_text t) (rows t.config.n) o.row o.invariant (omega (arith, length_below t.config.n (λ (row : ℕ). row)))
