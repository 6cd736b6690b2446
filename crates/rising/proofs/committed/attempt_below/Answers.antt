-- `rising::committed::attempt_below` meets its contract: one attempt and, unless it is NotYet, each row's.
use mathlib.Core.Path.{sym, ◌∙◌}
use mathlib.Core.List.{[], ◌∷◌}
use native.Mathlib.Omega.{arith}
use Rattle.rising.proofs.AttemptsLaws.{InRows, written_fits, written_room}
use Rattle.rising.proofs.CommittedLaws.{first_written, first_answer, below_waits, below_goes}
use Rattle.rising.proofs.committed.attempt_below.Goals as goal

pub returns-then-is_not_yet : goal.returns-then-is_not_yet
returns-then-is_not_yet c =
    let a = c.args in
    let f = c.attempt_from-tried in
    let first = first_written a.table a.tail f.result f.ensures.result a.order.now _ f.ensures.list in
    let w = below_waits a.table a.tail a.order.now _ _ first (sym (c.is_not_yet.ensures ∙ first_answer a.table a.tail f.result f.ensures.result) ∙ c.if-is_not_yet.true) in
    record { result = w.ran_is; list = w.list_is }

pub attempt_tails-requires : goal.attempt_tails-requires
attempt_tails-requires c =
    let a = c.args in
    let f = c.attempt_from-tried in
    let first = first_written a.table a.tail f.result f.ensures.result a.order.now _ f.ensures.list in
    let i : InRows (a.tail ∷ []) = (c.requires.row_bound, c.requires.col_bound, tt) in
    record {
      table_value = written_fits a.table a.order.now 0 (a.tail ∷ []) _ _ c.requires.table_value i first;
      table_in_bounds = written_room a.table a.order.now 0 (a.tail ∷ []) _ _ c.requires.table_value i first (omega arith);
    }

pub returns : goal.returns
returns c =
    let a = c.args in
    let f = c.attempt_from-tried in
    let first = first_written a.table a.tail f.result f.ensures.result a.order.now _ f.ensures.list in
    let e = sym (c.is_not_yet.ensures ∙ first_answer a.table a.tail f.result f.ensures.result) ∙ c.if-is_not_yet.false in
    let w = below_goes a.table a.tail a.order.now _ _ first e _ _ (record { ran_is = c.attempt_tails.ensures.result; list_is = c.attempt_tails.ensures.list }) in
    record { result = w.ran_is; list = w.list_is }
