-- `decisions::fast::slow` meets its contract: all replies so far are joined.
use mathlib.Core.Path.{◌∙◌}
use borrow.Author.Rules.{rules}
use Rattle.decisions.proofs.FastLaws.{joined_none, joined_in, joined_out}
use Rattle.decisions.proofs.fast.slow.Goals as goal
use Rattle.decisions.proofs.fast.slow.Goals.{else-replied-r, then-replied-r}

pub loop-r-init : goal.loop-r-init
loop-r-init c = (search rules, joined_none _ _)

pub loop-r-preserved : goal.loop-r-preserved
loop-r-preserved c =
    let a = c.args in
    elim c.if-replied-r.branch [
      | then-replied-r t ↦ (search rules, t.all-is ∙ t.join-all.ensures ∙ joined_in a.replied a.entries _ _ t.if-replied-r.true c.loop-r.invariant.1)
      | else-replied-r t ↦ (search rules, t.all-is ∙ joined_out a.replied a.entries _ _ t.if-replied-r.false c.loop-r.invariant.1)
    ]
