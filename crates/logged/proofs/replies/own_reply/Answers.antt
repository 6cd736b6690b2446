-- `logged::replies::own_reply` meets its contract: done with what the reply leaves and puts out.
use Rattle.logged.proofs.ReplyLaws.{own_replies}
use Rattle.logged.proofs.replies.own_reply.Goals as goal

pub returns : goal.returns
returns c = own_replies c.args.view c.args.at c.requires.held_value c.requires.led_value c.reply.result c.reply.ensures
