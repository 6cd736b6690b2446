-- `decisions::fast::decision` meets its contract: refused by its number, else decided.
use mathlib.Core.Path.{sym, ◌∙◌}
use Rattle.base.proofs.Loops.{both_true}
use Rattle.votes.proofs.AnswerLaws.{not_refused, refusal_stands}
use Rattle.refusing.proofs.RefusalLaws.{refusal_none}
use Rattle.decisions.specs.Fast.{fast_answer}
use Rattle.decisions.proofs.fast.decision.Goals as goal

pub decided-requires : goal.decided-requires
decided-requires c =
    let w = refusal_none _ _ _ _ (sym c.in-Ok.ensures) in
    let m = both_true _ _ (sym c.both_fit-named.ensures ∙ w.replicas) in
    record { config_value = w.config; replied_value = m.0; silent_value = m.1 }

pub returns-in-Ok : goal.returns-in-Ok
unfolding fast_answer
returns-in-Ok c =
    rw (← c.both_fit-named.ensures, ← c.entries-entries.ensures) (c.decided.ensures ∙ sym (not_refused _ _ (sym c.in-Ok.ensures)))

pub returns-in-Err : goal.returns-in-Err
unfolding fast_answer
returns-in-Err c =
    rw (← c.both_fit-named.ensures, ← c.entries-entries.ensures, ← c.in-Err.ensures, c.number.ensures) (sym (refusal_stands _ _))
