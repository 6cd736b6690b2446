-- `recovering::recovery::choice` meets its contract: refused by its number, else chosen by the rule's counts.
use mathlib.Core.Path.{sym, ◌∙◌}
use Rattle.base.proofs.ConfigLaws.{config_fits_each}
use Rattle.votes.proofs.AnswerLaws.{not_refused, refusal_stands}
use Rattle.refusing.proofs.RefusalLaws.{refusal_none}
use Rattle.recovering.specs.Recovery.{answer_by}
use Rattle.recovering.proofs.recovery.choice.Goals as goal

pub counts-requires : goal.counts-requires
counts-requires c = (config_fits_each c.args.config (refusal_none _ _ _ _ (sym c.in-Ok.ensures)).config).quorum

pub returns-in-Ok : goal.returns-in-Ok
unfolding answer_by
returns-in-Ok c =
    rw (← c.named-named.ensures) ((rw c.counts.ensures at c.chosen.ensures) ∙ sym (not_refused _ _ (sym c.in-Ok.ensures)))

pub returns-in-Err : goal.returns-in-Err
unfolding answer_by
returns-in-Err c = rw (← c.named-named.ensures, ← c.in-Err.ensures, c.number.ensures) (sym (refusal_stands _ _))
