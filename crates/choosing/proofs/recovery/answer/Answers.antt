-- `choosing::recovery::answer` meets its contract: a short slice is told first; else the answer to what is decided.
use mathlib.Core.Path.{◌≡◌}
use mathlib.Core.Bool.{false}
use borrow.Author.Tests.{le-leb, lt-leb}
use Rattle.choosing.specs.Recovery.{choice_long}
use Rattle.choosing.proofs.recovery.answer.Goals as goal
use Rattle.choosing.proofs.recovery.answer.Goals.{then-acks-lt7-via-then-acks-lt7, then-acks-lt7-via-else-acks-lt7+then-votes-lt882, then-acks-lt7-via-else-acks-lt7+else-votes-lt882+then-out-lt124}

pub returns-then-acks-lt7 : goal.returns-then-acks-lt7
unfolding choice_long
returns-then-acks-lt7 c =
    let a = c.args in
    let e : choice_long a.acks.now a.votes.now a.out.now ≡ false =
    elim c.then-acks-lt7.branch [
      | then-acks-lt7-via-then-acks-lt7 w ↦ rw (lt-leb _ _ w.if-acks-lt7.true)
      | then-acks-lt7-via-else-acks-lt7+then-votes-lt882 w ↦ rw (le-leb _ _ w.if-acks-lt7.false, lt-leb _ _ w.if-votes-lt882.true)
      | then-acks-lt7-via-else-acks-lt7+else-votes-lt882+then-out-lt124 w ↦ rw (le-leb _ _ w.if-acks-lt7.false, le-leb _ _ w.if-votes-lt882.false, lt-leb _ _ w.if-out-lt124.true)
    ] in
    record { result = rw e; bytes = rw e }

pub returns : goal.returns
unfolding choice_long
returns c =
    let f = le-leb _ _ c.if-acks-lt7.false in
    let g = le-leb _ _ c.if-votes-lt882.false in
    let h = le-leb _ _ c.if-out-lt124.false in
    record { result = rw (f, g, h, ← c.decided.ensures) c.answered.ensures.result; bytes = rw (f, g, h, ← c.decided.ensures) c.answered.ensures.bytes }
