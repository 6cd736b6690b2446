-- `deps::sets::DepSet::raised` meets its contract: one row stored; a row of 7 or more changes nothing.
use mathlib.Core.Path.{◌≡◌, ap, sym}
use native.Mathlib.Omega.{arith}
use native.Mathlib.Numerals.{add-one}
use lib.ListN.{length}
use lib.Seq.{set_out}
use Rattle.deps.specs.Sets.{raised_to, set_of}
use borrow.Author.Rules.{rules}
use Rattle.deps.proofs.sets.DepSet.raised.Goals as goal

pub returns-then-row-lt7 : goal.returns-then-row-lt7
unfolding raised_to
returns-then-row-lt7 c = rw (c.max.ensures, add-one)

pub returns-else-row-lt7 : goal.returns-else-row-lt7
unfolding raised_to
returns-else-row-lt7 c =
    let s = c.args.self.cols in
    let ls : length s ≡ 7 = search rules in
    ap set_of (sym (set_out s _ _ (omega arith)))
