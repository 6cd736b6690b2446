-- `deciding::fast::decided` meets its contract: refused for a byte without meaning, else as decided on what is read.
use Rattle.base.proofs.Tests.{passed, failed}
use Rattle.deciding.specs.Fast.{fast_decided}
use Rattle.deciding.proofs.fast.decided.Goals as goal

pub returns-then-not-is_known : goal.returns-then-not-is_known
unfolding fast_decided
returns-then-not-is_known c = rw (failed c.is_known.ensures c.if-not-is_known.true) c.unknown.ensures

pub returns : goal.returns
unfolding fast_decided
returns c =
    rw (passed c.is_known.ensures c.if-not-is_known.false)
    (rw (c.marks_at.ensures, c.words_at.ensures, c.sets_at.ensures, c.marks_at-2.ensures) at c.decision.ensures)
