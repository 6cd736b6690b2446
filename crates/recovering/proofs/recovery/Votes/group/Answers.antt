-- `recovering::recovery::Votes::group` meets its contract: each test that fails leaves nobody.
use mathlib.Core.Path.{ap, sym, ◌∙◌}
use native.Mathlib.Omega.{arith}
use Rattle.recovering.proofs.RecoveryLaws.{group_other_ballot, group_few, group_first}
use Rattle.recovering.proofs.recovery.Votes.group.Goals as goal

pub returns-then-prepare : goal.returns-then-prepare
returns-then-prepare c =
    let a = c.args in
    sym (group_other_ballot a.counts a.prepare a.self.now.voted a.self.now.statuses a.self.now.entries c.if-prepare.true)

pub returns-then-count-counts : goal.returns-then-count-counts
returns-then-count-counts c =
    let a = c.args in
    let n = rw c.such-such.ensures at c.count.ensures in
    sym (group_few a.counts a.prepare a.self.now.voted a.self.now.statuses a.self.now.entries c.if-prepare.false (omega (arith, n, c.if-count-counts.true)))

pub returns : goal.returns
returns c =
    let a = c.args in
    let n = rw c.such-such.ensures at c.count.ensures in
    let i = rw c.such-such.ensures at c.count_identical.ensures in
    ap (λ x. x.first) i ∙ sym (group_first a.counts a.prepare a.self.now.voted a.self.now.statuses a.self.now.entries c.if-prepare.false (omega (arith, n, c.if-count-counts.false)))
