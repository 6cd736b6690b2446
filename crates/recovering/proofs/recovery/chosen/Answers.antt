-- `recovering::recovery::chosen` meets its contract: each holder decides over what comes after it.
use mathlib.Core.Path.{sym, ◌∙◌}
use native.Mathlib.Omega.{arith}
use Rattle.std.proofs.Common.{rules}
use Rattle.base.specs.declared.status.Status.TheVariants as status
use Rattle.votes.specs.declared.answer.Decision.TheVariants as decision
use Rattle.recovering.proofs.RecoveryLaws.{vote_inside, group_inside, choice_few, choice_open}
use Rattle.recovering.proofs.recovery.chosen.Goals as goal

pub returns-then-count-config : goal.returns-then-count-config
returns-then-count-config c =
    let a = c.args in
    sym (choice_few a.counts a.config a.prepare a.acks a.votes.now.voted a.votes.now.statuses a.votes.now.entries (omega (arith, c.count.ensures)))

pub decides-over-requires-clause-inside : goal.decides-over-requires-clause-inside
decides-over-requires-clause-inside c = rw c.highest.ensures (vote_inside status.PreAccepting _ _)

pub decides-grouped-requires-clause-inside : goal.decides-grouped-requires-clause-inside
decides-grouped-requires-clause-inside c = rw c.group.ensures (group_inside c.args.counts _ _ _ _)

pub decides-accepting-requires-clause-inside : goal.decides-accepting-requires-clause-inside
decides-accepting-requires-clause-inside c = rw c.highest-2.ensures (vote_inside status.Accepting _ _)

pub decides-requires-clause-inside : goal.decides-requires-clause-inside
decides-requires-clause-inside c = rw c.highest-3.ensures (vote_inside status.Committed _ _)

pub returns : goal.returns
returns c =
    let a = c.args in
    let over = c.decides-over.ensures decision.PreAccepting (λ w d p. search rules) in
    let grouped = c.decides-grouped.ensures decision.Accepting (λ w d p. search rules) in
    let accepting = c.decides-accepting.ensures decision.Accepting (λ w d p. search rules) in
    c.decides.ensures decision.Committed (λ w d p. search rules)
    ∙ rw (accepting, grouped, over, c.highest.ensures, c.group.ensures, c.highest-2.ensures, c.highest-3.ensures) (sym (choice_open a.counts a.config a.prepare a.acks a.votes.now.voted a.votes.now.statuses a.votes.now.entries (omega (arith, c.count.ensures))))
