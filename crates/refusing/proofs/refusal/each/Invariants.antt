-- `refusing::refusal::each` meets its contract: every entry listed that was passed so far passes the test.
use Rattle.std.proofs.Common.{◌≡◌, ℕ, ◌<◌, Bool, true}
use Rattle.base.specs.Below.{all_below}
use Rattle.votes.specs.Contents.{said_by}
use Rattle.votes.specs.declared.contents.Contents.{Contents}
use Rattle.refusing.specs.Refusal.{listed_fits}
use Rattle.refusing.proofs.refusal.each.Given as goal

abbrev pub invariant-loop-r : goal.invariant-loop-r
invariant-loop-r g l =
    (test : Contents → Bool) → ((r : ℕ) (b : Bool) → r < 7 → goal.F-post g l.fits (said_by l.fn.entries r) b → b ≡ test (said_by l.fn.entries r))
    → all_below l.r (listed_fits test l.listed l.fn.entries) ≡ true
