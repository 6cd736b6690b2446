-- `proposing::proposals::take` meets its contract: refused; or ballot and sequence decide.
use mathlib.Core.Path.{sym}
use Prim.Native.Nat.{◌<◌, ◌≤◌}
use native.Mathlib.Omega.{arith}
use Rattle.base.specs.Refusals.{sequence_limit}
use Rattle.changes.proofs.ViewLaws.{proposal_inside}
use Rattle.proposing.proofs.TakeLaws.{takes_refused, takes_ignored, takes_over, takes_stored}
use Rattle.proposing.proofs.proposals.take.Goals as goal

pub returns-in-Err : goal.returns-in-Err
returns-in-Err c =
    let a = c.args in
    rw (c.refused.ensures, c.number.ensures) (takes_refused a.phase a.view a.proposal c.in-Err.refusal c.in-Err.ensures)

pub returns-then-message-view : goal.returns-then-message-view
returns-then-message-view c =
    let a = c.args in
    rw c.ignored.ensures (takes_ignored a.phase a.view a.proposal c.requires (sym c.in_default.ensures) c.if-message-view.true)

pub returns-in_default-try_from : goal.returns-in_default-try_from
returns-in_default-try_from c =
    let a = c.args in
    let over : sequence_limit < c.values_for-values.result.seq = omega (arith, c.in_default-try_from.ensures) in
    rw (c.refused-in_default-try_from.ensures, c.number-in_default-try_from.ensures)
    (takes_over a.phase a.view a.proposal c.requires (sym c.in_default.ensures) c.if-message-view.false (rw c.values_for-values.ensures at over))

pub stored_for-stored-requires : goal.stored_for-stored-requires
stored_for-stored-requires c = (proposal_inside c.args.view c.requires c.args.proposal (sym c.in_default.ensures)).0

pub returns : goal.returns
returns c =
    let a = c.args in
    let fits : c.values_for-values.result.seq ≤ sequence_limit = omega (arith, c.in-Ok.ensures.0) in
    rw (c.one.ensures, c.of.ensures, c.stored_for-stored.ensures, c.in-Ok.ensures.1, c.values_for-values.ensures)
    (takes_stored a.phase a.view a.proposal c.requires (sym c.in_default.ensures) c.if-message-view.false (rw c.values_for-values.ensures at fits))
