-- `deciding::fast::answer` meets its contract: a short slice is told first; else the answer to what is decided.
use mathlib.Core.Path.{◌≡◌}
use mathlib.Core.Bool.{false}
use borrow.Author.Tests.{le-leb, lt-leb}
use Rattle.deciding.specs.Fast.{fast_long}
use Rattle.deciding.proofs.fast.answer.Goals as goal
use Rattle.deciding.proofs.fast.answer.Goals.{then-replies-lt112-via-then-replies-lt112, then-replies-lt112-via-else-replies-lt112+then-silent-lt7, then-replies-lt112-via-else-replies-lt112+else-silent-lt7+then-out-lt15}

pub returns-then-replies-lt112 : goal.returns-then-replies-lt112
unfolding fast_long
returns-then-replies-lt112 c =
    let a = c.args in
    let e : fast_long a.replies.now a.silent.now a.out.now ≡ false =
    elim c.then-replies-lt112.branch [
      | then-replies-lt112-via-then-replies-lt112 w ↦ rw (lt-leb _ _ w.if-replies-lt112.true)
      | then-replies-lt112-via-else-replies-lt112+then-silent-lt7 w ↦ rw (le-leb _ _ w.if-replies-lt112.false, lt-leb _ _ w.if-silent-lt7.true)
      | then-replies-lt112-via-else-replies-lt112+else-silent-lt7+then-out-lt15 w ↦ rw (le-leb _ _ w.if-replies-lt112.false, le-leb _ _ w.if-silent-lt7.false, lt-leb _ _ w.if-out-lt15.true)
    ] in
    record { result = rw e; bytes = rw e }

pub returns : goal.returns
unfolding fast_long
returns c =
    let f = le-leb _ _ c.if-replies-lt112.false in
    let g = le-leb _ _ c.if-silent-lt7.false in
    let h = le-leb _ _ c.if-out-lt15.false in
    record { result = rw (f, g, h, ← c.decided.ensures) c.answered.ensures.result; bytes = rw (f, g, h, ← c.decided.ensures) c.answered.ensures.bytes }
