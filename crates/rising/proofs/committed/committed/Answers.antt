-- `rising::committed::committed` meets its contract: another column, a bar that stays, a bar that rises.
use mathlib.Core.Path.{ap, ◌∙◌}
use Prim.Native.Nat.{◌+◌, ◌-◌}
use native.Mathlib.Omega.{arith}
use lib.Seq.{sets}
use Rattle.bounds.specs.Bounds.{table_fits}
use Rattle.attempts.specs.Attempt.{unrun}
use Rattle.rising.specs.Attempts.{Attempts, ran_from}
use Rattle.rising.proofs.CommittedLaws.{other_column, bar_stays, bar_rises, tail_column, raised_keeps, bar_unrun}
use Rattle.rising.proofs.committed.committed.Goals as goal

pub returns-then-at-bar : goal.returns-then-at-bar
returns-then-at-bar c =
    let w = other_column c.args.table c.args.at c.args.order.now c.if-at-bar.true in
    record { result = w.0; list = w.1 }

pub returns-then-risen-bar : goal.returns-then-risen-bar
returns-then-risen-bar c =
    let w = bar_stays c.args.table c.args.at c.args.order.now c.if-at-bar.false (omega (arith, c.risen-risen.ensures, c.if-risen-bar.true)) in
    record { result = w.0; list = w.1 }

pub raise-requires-clause-col_bound : goal.raise-requires-clause-col_bound
raise-requires-clause-col_bound c =
    let low = tail_column c.args.table c.args.at.row c.requires.table_value c.requires.row_bound (omega (arith, c.risen-risen.ensures, c.if-risen-bar.false)) in
    omega (arith, low, c.risen-risen.ensures)

pub attempt_below-requires : goal.attempt_below-requires
attempt_below-requires c =
    let a = c.args in
    let r = c.risen-risen in
    let low = tail_column a.table a.at.row c.requires.table_value c.requires.row_bound (omega (arith, r.ensures, c.if-risen-bar.false)) in
    record {
      table_value = ap table_fits c.raise.ensures ∙ raised_keeps a.table a.at.row c.requires.table_value c.requires.row_bound r.result r.ensures (omega (arith, c.if-risen-bar.false));
      row_bound = c.requires.row_bound;
      col_bound = omega (arith, low, r.ensures);
      table_in_bounds = omega (arith, c.requires.table_in_bounds, ap unrun c.raise.ensures ∙ bar_unrun a.table a.at.row (r.result - 1 + 1));
    }

pub returns : goal.returns
returns c =
    let b = c.attempt_below in
    let e = bar_rises c.args.table c.args.at c.args.order.now c.if-at-bar.false c.risen-risen.result c.risen-risen.ensures (omega (arith, c.if-risen-bar.false)) c.raise.result c.raise.ensures in
    record { result = b.ensures.result ∙ ap (ran_from 0) e; list = b.ensures.list ∙ ap (λ (x : Attempts). sets c.args.order.now 0 x.wrote) e }
