use mathlib.Core.Path.{◌∙◌}
use native.Mathlib.Omega.{arith}
use Rattle.groups.proofs.StepLaws.{put_none, put_last, put_more, end_last, end_more}
use Rattle.groups.proofs.numbers.+put_groups.Goals as goal

pub returns-then-left-eq0-clause-place : goal.returns-then-left-eq0-clause-place
returns-then-left-eq0-clause-place t c = (put_none c.args.out.now c.args.at c.args.left c.args.number c.if-left-eq0.true).0

pub returns-then-left-eq0-clause-bytes : goal.returns-then-left-eq0-clause-bytes
returns-then-left-eq0-clause-bytes t c = (put_none c.args.out.now c.args.at c.args.left c.args.number c.if-left-eq0.true).1

pub returns-then-number-lt128-clause-place : goal.returns-then-number-lt128-clause-place
returns-then-number-lt128-clause-place t c = end_last c.args.at c.args.left c.args.number (omega arith) (omega arith)

pub returns-then-number-lt128-clause-bytes : goal.returns-then-number-lt128-clause-bytes
returns-then-number-lt128-clause-bytes t c = put_last c.args.out.now c.args.at c.args.left c.args.number (omega arith) (omega arith)

pub returns-clause-place : goal.returns-clause-place
returns-clause-place t c = c.put_groups.ensures.place ∙ end_more c.args.at c.args.left c.args.number (omega arith) (omega arith)

pub returns-clause-bytes : goal.returns-clause-bytes
returns-clause-bytes t c = c.put_groups.ensures.bytes ∙ put_more c.args.out.now c.args.at c.args.left c.args.number (omega arith) (omega arith)
