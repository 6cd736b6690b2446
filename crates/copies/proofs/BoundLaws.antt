-- A table reached from an empty one by any events is within its bounds, so no entry refuses 1 in a run.
use mathlib.Core.Path.{◌≡◌, refl, sym, ◌∙◌}
use mathlib.Core.List.{List, [], ◌∷◌}
use mathlib.Core.Bool.{true, false, true≢false}
use Prim.Native.Nat.{ℕ}
use native.Mathlib.Omega.{arith}
use Rattle.base.specs.Config.{config_fits}
use Rattle.base.specs.Refusals.{outside_bounds}
use Rattle.base.specs.declared.answer.Answer.TheVariants.{Refused}
use Rattle.bounds.specs.Bounds.{table_fits}
use Rattle.bounds.proofs.OpenLaws.{empty_within}
use Rattle.table.specs.declared.place.Place.{Place}
use Rattle.table.specs.declared.table.Table.{Table}
use Rattle.outcomes.specs.declared.message.Message.{Message}
use Rattle.outcomes.specs.declared.message.Proposal.{Proposal}
use Rattle.proposing.specs.Proposals.{proposed}
use Rattle.proposing.specs.declared.proposals.Phase.{Phase}
use Rattle.handlers.specs.Replies.{accept_reply}
use Rattle.handlers.specs.Prepare.{exp_prepare}
use Rattle.handlers.specs.Lead.{lead_slot}
use Rattle.handlers.proofs.RefusedLaws as handlers
use Rattle.handlers.proofs.RefusedLaws.{MessageRefused, ContentsRefused, ProposalRefused, LeadRefused, answers_refused, proposed_exactly, reply_exactly, prepare_exactly, lead_exactly}
use Rattle.attempts.proofs.RefusedLaws as attempts
use Rattle.attempts.proofs.RefusedLaws.{AttemptRefused, attempt_exactly}
use Rattle.logged.proofs.RefusedLaws as logged
use Rattle.logged.proofs.RefusedLaws.{LoggedRefused, logged_exactly}
use Rattle.steps.specs.Calls.{Call, propose, reply, prepare, log, try, lead_at}
use Rattle.steps.specs.Step.{answer_to, after}
use Rattle.steps.proofs.KeepLaws.{Sized, empty_sized, step_sized, step_keeps}
use Rattle.copies.specs.Copies.{table_after_all, Copy, begun, ends}

-- ---- within the bounds

run_fits : (t : Table) (calls : List Call) → Sized t → table_fits t ≡ true → table_fits (table_after_all t calls) ≡ true
unfolding table_after_all
run_fits t [] s h = h
run_fits t (call ∷ calls) s h = run_fits (after t call) calls (step_sized t call s) (step_keeps t call s h)

pub copy_within : (c : Copy) → config_fits c.config ≡ true → table_fits (ends c) ≡ true
copy_within c f = run_fits (begun c) c.calls (empty_sized c.config) (empty_within c.config f)

-- ---- what is refused 1 is outside

message_outside : {t : Table} {m : Message} {k : ℕ} → MessageRefused t m k → k ≡ outside_bounds → table_fits t ≡ false
message_outside (handlers.outside h) e = h
message_outside (handlers.no_replica_lem h n) e = absurd (omega arith)
message_outside (handlers.no_column_lem h p r c) e = absurd (omega arith)

contents_outside : {t : Table} {p : Proposal} {k : ℕ} → ContentsRefused t p k → k ≡ outside_bounds → table_fits t ≡ false
contents_outside (handlers.bad_dependency_lem h d) e = absurd (omega arith)
contents_outside (handlers.bad_batch_lem h d b) e = absurd (omega arith)
contents_outside (handlers.over_limit_lem h d b s) e = absurd (omega arith)

proposal_outside : {phase : Phase} {t : Table} {p : Proposal} {k : ℕ} → ProposalRefused phase t p k → k ≡ outside_bounds → table_fits t ≡ false
proposal_outside (handlers.by_message r) e = message_outside r e
proposal_outside (handlers.by_contents r) e = contents_outside r e
proposal_outside (handlers.stored_over h b s) e = absurd (omega arith)

lead_outside : {t : Table} {at : Place} {k : ℕ} → LeadRefused t at k → k ≡ outside_bounds → table_fits t ≡ false
lead_outside (handlers.outside h) e = h
lead_outside (handlers.no_row h r) e = absurd (omega arith)
lead_outside (handlers.no_column_lem h r c) e = absurd (omega arith)
lead_outside (handlers.no_slot_lem p h) e = absurd (omega arith)

attempt_outside : {t : Table} {at : Place} {entries k : ℕ} → AttemptRefused t at entries k → k ≡ outside_bounds → table_fits t ≡ false
attempt_outside (attempts.short_order_lem l) e = absurd (omega arith)
attempt_outside (attempts.outside l h) e = h
attempt_outside (attempts.no_row l h r) e = absurd (omega arith)
attempt_outside (attempts.no_column_lem l h r c) e = absurd (omega arith)

logged_outside : {t : Table} {at : Place} {entries k : ℕ} → LoggedRefused t at entries k → k ≡ outside_bounds → table_fits t ≡ false
logged_outside (logged.short_order_lem l) e = absurd (omega arith)
logged_outside (logged.by_slot l r) e = lead_outside r e

step_outside : (t : Table) (call : Call) → answer_to t call ≡ Refused outside_bounds → table_fits t ≡ false
step_outside t (propose phase p) e = proposal_outside ((proposed_exactly phase t p 1).0 ((answers_refused t (proposed phase t p) 1).0 e)) refl
step_outside t (reply m) e = message_outside ((reply_exactly t m 1).0 ((answers_refused t (accept_reply t m) 1).0 e)) refl
step_outside t (prepare m) e = message_outside ((prepare_exactly t m 1).0 ((answers_refused t (exp_prepare t m) 1).0 e)) refl
step_outside t (log status at) e = logged_outside ((logged_exactly t at 224 status 1).0 e) refl
step_outside t (try at) e = attempt_outside ((attempt_exactly t at 224 1).0 e) refl
step_outside t (lead_at at) e = lead_outside ((lead_exactly t at 1).0 ((answers_refused t (lead_slot t at) 1).0 e)) refl

-- no event is refused 1 after any events on a table opened within the bounds
pub never_outside : (c : Copy) (call : Call) → config_fits c.config ≡ true → answer_to (ends c) call ≡ Refused outside_bounds → ⊥
never_outside c call f e = true≢false (sym (copy_within c f) ∙ step_outside (ends c) call e)
