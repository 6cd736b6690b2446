use mathlib.Core.List.{[]}
use native.Mathlib.Omega.{arith}
use Rattle.base.specs.declared.answer.Answer.TheVariants.{Refused}
use Rattle.lines.proofs.RoomLaws.{line_room}
use Rattle.trace.proofs.run.refuse.Goals as goal

pub put_line-end-requires : goal.put_line-end-requires
put_line-end-requires c = omega (arith, line_room 0 (Refused c.number-number.result) [] (λ i l. absurd (omega arith)))
