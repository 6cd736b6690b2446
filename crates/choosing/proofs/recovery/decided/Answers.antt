-- `choosing::recovery::decided` meets its contract: refused for a byte without meaning, else as the rule chooses on what is read.
use Rattle.base.proofs.Tests.{passed, failed}
use Rattle.choosing.specs.Recovery.{choice_decided}
use Rattle.choosing.proofs.recovery.decided.Goals as goal

pub returns-then-not-is_known : goal.returns-then-not-is_known
unfolding choice_decided
returns-then-not-is_known c = rw (failed c.is_known.ensures c.if-not-is_known.true) c.unknown.ensures

pub returns : goal.returns
unfolding choice_decided
returns c =
    rw (passed c.is_known.ensures c.if-not-is_known.false)
    (rw (c.marks_at.ensures, c.marks_at-2.ensures, c.statuses_at.ensures, c.entries.ensures, c.words_at.ensures, c.sets_at.ensures, c.batches_at.ensures) at c.choice.ensures)
