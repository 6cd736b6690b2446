-- `rising::tails::attempt_tails` meets its contract: the rows so far, one after the other.
use mathlib.Core.Path.{◌≡◌, sym, ◌∙◌}
use mathlib.Core.List.{[], ◌∷◌, append-nil}
use native.Mathlib.Omega.{arith}
use lib.ListN.{get_or}
use Rattle.std.specs.Prelude.{None, option_to_list}
use Rattle.rising.specs.Committed.{tail_in, tails_below}
use Rattle.rising.proofs.AttemptsLaws.{written_more, written_fits, written_room}
use Rattle.rising.proofs.TailLaws.{tails_begin, tails_in_rows, tails_next}
use Rattle.rising.proofs.tails.attempt_tails.Goals as goal
use Rattle.rising.proofs.tails.attempt_tails.Goals.{In-Some, in-Some, in_default}

pub loop-tail-init : goal.loop-tail-init
loop-tail-init c = tails_begin c.args.table c.args.order.now c.args.from

pub attempt_tail-ran-requires-clause-table_value : goal.attempt_tail-ran-requires-clause-table_value
attempt_tail-ran-requires-clause-table_value c =
    let l = c.loop-tail in
    written_fits c.args.table c.args.order.now c.args.from (tails_below c.args.table l.tail-index) l.ran l.order c.requires.table_value (tails_in_rows c.args.table l.tail-index (omega arith)) l.invariant

pub attempt_tail-ran-requires-clause-table_in_bounds : goal.attempt_tail-ran-requires-clause-table_in_bounds
attempt_tail-ran-requires-clause-table_in_bounds c =
    let l = c.loop-tail in
    written_room c.args.table c.args.order.now c.args.from (tails_below c.args.table l.tail-index) l.ran l.order c.requires.table_value (tails_in_rows c.args.table l.tail-index (omega arith)) l.invariant c.requires.table_in_bounds

pub loop-tail-preserved : goal.loop-tail-preserved
loop-tail-preserved c =
    let a = c.args in
    let l = c.loop-tail in
    let row = l.tail-index in
    let found : option_to_list (get_or c.tails-tail-items.result row None) ≡ tail_in a.table row = c.tails-tail-items.ensures row (omega arith) in
    elim c.match-tail.branch [
      | in-Some w ↦
          let one : w.in-Some.at ∷ [] ≡ tail_in a.table row = rw w.in-Some.is at found in
          let f = w.attempt_tail-ran in
          let more = written_more a.table a.order.now a.from (tails_below a.table row) (w.in-Some.at ∷ []) l.ran f.result l.order f.new.order l.invariant (record { ran_is = f.ensures.result; list_is = f.ensures.list }) in
          rw (w.ran-is, w.order-is) (rw (tails_next a.table row (w.in-Some.at ∷ []) one) at more)
      | in_default w ↦
          let none : [] ≡ tail_in a.table row = rw w.in_default.is at found in
          rw (w.ran-is, w.order-is) (rw (sym (append-nil (tails_below a.table row)) ∙ tails_next a.table row [] none) at l.invariant)
    ]
