-- `logged::logged::logged` meets its contract: refused, or by what was logged.
use mathlib.Core.Path.{◌≡◌, sym, ◌∙◌}
use mathlib.Core.Bool.{true}
use native.Mathlib.Omega.{arith}
use lib.ListN.{length}
use borrow.Author.Rules.{rules}
use Rattle.deps.specs.Batches.{no_op}
use Rattle.outcomes.proofs.RefusalLaws.{number_some}
use Rattle.changes.specs.Change.{Seven}
use Rattle.changes.proofs.ViewLaws.{seven_seen, lead_seen, lead_inside}
use Rattle.logged.specs.Refusal.{logged_refusal}
use Rattle.logged.specs.declared.replies.Reply.TheVariants.{PreAccept, Accept}
use Rattle.logged.proofs.RefusedLaws.{short_first, then_slot}
use Rattle.logged.proofs.EntryLaws.{entry_refused, entry_replied, entry_committed, entry_fits, entry_row, entry_room}
use Rattle.logged.proofs.logged.logged.Goals as goal
use Rattle.logged.proofs.logged.logged.Goals.{In_default}

pub returns-then-order-lt-ENTRIES : goal.returns-then-order-lt-ENTRIES
returns-then-order-lt-ENTRIES c =
    let a = c.args in
    let m = entry_refused a.table a.at a.status a.order.now _ (c.number.ensures ∙ sym (short_first a.table a.at _ c.if-order-lt-ENTRIES.true)) (omega arith) _ c.refused.ensures in
    record { result = c.into.ensures ∙ m.0; list = m.1 }

pub returns-in-Err : goal.returns-in-Err
returns-in-Err c =
    let a = c.args in
    let seen = lead_seen a.table a.at no_op _ (sym c.look_plain-view.ensures) ∙ sym (then_slot a.table a.at (length a.order.now) c.if-order-lt-ENTRIES.false) in
    let m = entry_refused a.table a.at a.status a.order.now _ (c.number-in-Err.ensures ∙ c.in-Err.ensures ∙ seen) (omega (arith, number_some c.in-Err.refusal)) _ c.refused-in-Err.ensures in
    record { result = c.into-in-Err.ensures ∙ m.0; list = m.1 }

-- ---- not refused

module _ (c : In_default) where
  passed : logged_refusal c.args.table c.args.at (length c.args.order.now) ≡ 0
  passed = then_slot c.args.table c.args.at _ c.if-order-lt-ENTRIES.false ∙ sym (c.in_default.ensures ∙ lead_seen c.args.table c.args.at no_op _ (sym c.look_plain-view.ensures))

  seven : Seven c.look_plain-view.result
  seven = rw c.look_plain-view.ensures (seven_seen _ _ _)

  held : c.look_plain-view.result.held ≡ true
  held = (lead_inside c.look_plain-view.result seven c.args.at (sym c.in_default.ensures)).1

  lens : length c.args.table.lens ≡ 7
  lens = search rules

pub replied-requires : goal.replied-requires
replied-requires c = let d = (goal.at.replied-requires c).In_default in record { seven = seven d; held_value = held d }

pub replied-requires-in-Accepting : goal.replied-requires-in-Accepting
replied-requires-in-Accepting c = let d = (goal.at.replied-requires-in-Accepting c).In_default in record { seven = seven d; held_value = held d }

pub committed-ran-requires : goal.committed-ran-requires
committed-ran-requires c =
    let a = c.args in
    let none = passed (goal.at.committed-ran-requires c).In_default in
    record {
      table_value = entry_fits a.table a.at a.status a.order.now none;
      row_bound = entry_row a.table a.at a.status a.order.now none;
      table_in_bounds = entry_room a.table a.at a.status a.order.now none;
    }

pub returns-in-PreAccepting : goal.returns-in-PreAccepting
returns-in-PreAccepting c =
    let a = c.args in
    let d = (goal.at.returns-in-PreAccepting c).In_default in
    let m = entry_replied a.table a.at a.status a.order.now (passed d) PreAccept c.in-PreAccepting.is _ (c.apply.ensures ∙ c.replied.ensures.same a.table (lens d) (sym c.look_plain-view.ensures)) in
    record { result = c.into-in-PreAccepting.ensures ∙ m.0; list = m.1 }

pub returns-in-Accepting : goal.returns-in-Accepting
returns-in-Accepting c =
    let a = c.args in
    let d = (goal.at.returns-in-Accepting c).In_default in
    let m = entry_replied a.table a.at a.status a.order.now (passed d) Accept c.in-Accepting.is _ (c.apply-in-Accepting.ensures ∙ c.replied-in-Accepting.ensures.same a.table (lens d) (sym c.look_plain-view.ensures)) in
    record { result = c.into-in-Accepting.ensures ∙ m.0; list = m.1 }

pub returns-in-Committed : goal.returns-in-Committed
returns-in-Committed c =
    let a = c.args in
    let none = passed (goal.at.returns-in-Committed c).In_default in
    let m = entry_committed a.table a.at a.status a.order.now none c.in-Committed.is c.committed-ran.result c.done.result _ c.committed-ran.ensures.result c.done.ensures c.committed-ran.ensures.list in
    record { result = m.0; list = m.1 }
