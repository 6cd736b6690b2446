-- `handlers::replies::reply` meets its contract: refused, ignored where the slot does not heed it, or a mark.
use mathlib.Core.Path.{sym}
use borrow.Author.Tests.{not-true, not-false}
use Rattle.base.proofs.Tests.{passed, failed}
use Rattle.changes.proofs.ViewLaws.{message_inside}
use Rattle.handlers.proofs.DecidedLaws.{reply_refused, reply_not_held, reply_not_heeded, reply_heeded}
use Rattle.handlers.proofs.replies.reply.Goals as goal
use Rattle.handlers.proofs.replies.reply.Goals.{then-not-view-via-then-not-view, then-not-view-via-else-not-view+then-not-heeds}

pub returns-in-Err : goal.returns-in-Err
returns-in-Err c = rw (c.refused.ensures, c.number.ensures) (reply_refused c.args.view c.args.message c.in-Err.refusal c.in-Err.ensures)

pub heeds-requires : goal.heeds-requires
heeds-requires c = (message_inside c.args.view c.requires c.args.message (sym c.in_default.ensures)).0

pub returns-then-not-view : goal.returns-then-not-view
returns-then-not-view c =
    let a = c.args in
    let none = sym c.in_default.ensures in
    rw c.ignored.ensures
    (elim c.then-not-view.branch [
      | then-not-view-via-then-not-view w ↦ reply_not_held a.view a.message none (not-true a.view.held w.if-not-view.true)
      | then-not-view-via-else-not-view+then-not-heeds w ↦ reply_not_heeded a.view a.message none (not-false a.view.held w.if-not-view.false) (failed w.heeds.ensures w.if-not-heeds.true)
    ])

pub mark-requires : goal.mark-requires
mark-requires c = (message_inside c.args.view c.requires c.args.message (sym c.in_default.ensures)).0

pub returns : goal.returns
returns c =
    let a = c.args in
    rw (c.marked.ensures, c.mark.ensures)
    (reply_heeded a.view a.message (sym c.in_default.ensures) (not-false a.view.held c.if-not-view.false) c.requires (passed c.heeds.ensures c.if-not-heeds.false))
