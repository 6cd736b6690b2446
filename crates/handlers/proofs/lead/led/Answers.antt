-- `handlers::lead::led` meets its contract: refused, or the slot is led.
use mathlib.Core.Path.{sym}
use Rattle.handlers.proofs.DecidedLaws.{lead_refused, lead_leading}
use Rattle.handlers.proofs.lead.led.Goals as goal

pub returns-in-Err : goal.returns-in-Err
returns-in-Err c = rw (c.refused.ensures, c.number.ensures) (lead_refused c.args.view c.args.at c.in-Err.refusal c.in-Err.ensures)

pub returns : goal.returns
returns c = rw c.lead.ensures (lead_leading c.args.view c.args.at c.requires (sym c.in_default.ensures))
