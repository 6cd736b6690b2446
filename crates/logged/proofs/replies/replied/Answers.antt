-- `logged::replies::replied` meets its contract: by the slot's lead and by what was logged.
use borrow.Author.Tests.{not-true, not-false}
use Rattle.logged.proofs.ReplyLaws.{note_replies, source_replies}
use Rattle.logged.proofs.replies.replied.Goals as goal

pub returns-then-not-view : goal.returns-then-not-view
returns-then-not-view c = rw c.to_source.ensures (source_replies c.args.view c.args.at c.requires.held_value c.args.reply (not-true c.args.view.slot.led c.if-not-view.true))

pub returns-in-PreAccept : goal.returns-in-PreAccept
returns-in-PreAccept c = rw (c.in-PreAccept.is, c.put_out.ensures) (note_replies c.args.view c.args.at c.requires.held_value (not-false c.args.view.slot.led c.if-not-view.false))
