-- `calls::calls::decide` meets its contract: one case for each handler.
use Rattle.calls.proofs.calls.decide.Goals as goal

pub returns-in-AcceptReply : goal.returns-in-AcceptReply
returns-in-AcceptReply c = rw c.in-AcceptReply.is (c.reply.ensures _)

pub returns-in-ExpPrepare : goal.returns-in-ExpPrepare
returns-in-ExpPrepare c = rw c.in-ExpPrepare.is (c.answered.ensures _)

pub returns-in-Lead : goal.returns-in-Lead
returns-in-Lead c = rw c.in-Lead.is (c.led.ensures _)
