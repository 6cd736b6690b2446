use Rattle.groups.proofs.ToldLaws.{number_read}
use Rattle.groups.proofs.cursor.Cursor.number.Goals as goal

pub returns-in-Ok : goal.returns-in-Ok
returns-in-Ok c = number_read c.args.self.now c.in_ok-at.at c.in_ok-at.was c.in-Ok.number.value c.in-Ok.number.next c.in-Ok.ensures
