use native.Mathlib.Omega.{arith}
use Rattle.trace.proofs.GoingLaws.{refusal_room}
use Rattle.trace.proofs.turn.stop.Goals as goal

pub put_line-end-requires : goal.put_line-end-requires
put_line-end-requires c = omega (arith, refusal_room c.args.run c.number-number.result)
