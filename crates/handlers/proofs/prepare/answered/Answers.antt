-- `handlers::prepare::answered` meets its contract: refused; or the ballot decides.
use mathlib.Core.Path.{sym}
use Rattle.changes.proofs.ViewLaws.{message_inside}
use Rattle.handlers.proofs.DecidedLaws.{prepare_refused, prepare_not_greater, prepare_greater}
use Rattle.handlers.proofs.prepare.answered.Goals as goal

pub returns-in-Err : goal.returns-in-Err
returns-in-Err c = rw (c.refused.ensures, c.number.ensures) (prepare_refused c.args.view c.args.message c.in-Err.refusal c.in-Err.ensures)

pub returns-then-message-slot : goal.returns-then-message-slot
returns-then-message-slot c =
    rw c.ignored.ensures (prepare_not_greater c.args.view c.args.message (sym c.in_default.ensures) c.requires c.if-message-slot.true)

pub hear-requires : goal.hear-requires
hear-requires c = (message_inside c.args.view c.requires c.args.message (sym c.in_default.ensures)).0

pub returns : goal.returns
returns c =
    rw (c.one.ensures, c.hear.ensures, c.of.ensures)
    (prepare_greater c.args.view c.args.message (sym c.in_default.ensures) c.requires c.if-message-slot.false)
