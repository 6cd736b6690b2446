-- What an event does: answer, table, output, how many slots run, and the order list after it.
use Rattle.std.specs.Prelude.{List, [], ℕ, take, replicate}
use Rattle.base.specs.declared.answer.Answer.{Answer}
use Rattle.table.specs.declared.table.Table.{Table}
use Rattle.outcomes.specs.Outcome.{outcome, outcome_of}
use Rattle.outcomes.specs.declared.outcome.Outcome.{Outcome}
use Rattle.proposing.specs.Proposals.{proposed}
use Rattle.handlers.specs.Replies.{accept_reply}
use Rattle.handlers.specs.Prepare.{exp_prepare}
use Rattle.handlers.specs.Lead.{lead_slot}
use Rattle.attempts.specs.Attempt.{attempt_of, attempt_order}
use Rattle.attempts.specs.declared.attempt.Attempted.{Attempted}
use Rattle.logged.specs.Logged.{logged_of, logged_order}
use Rattle.logged.specs.declared.logged.LogOutcome.{LogOutcome}
use Rattle.steps.specs.Calls.{Call, propose, reply, prepare, log, try, lead_at}

-- a handler runs no slot
abbrev pub handled : Outcome → LogOutcome
handled o = record { outcome = o; ran = 0 }

-- an attempt puts nothing out
abbrev pub tried : Attempted → LogOutcome
tried a = record { outcome = outcome a.answer a.table []; ran = a.ran }

-- entries: how many the order list has
abbrev pub step_of : Table → Call → ℕ → LogOutcome
step_of t (propose phase p) entries = handled (outcome_of t (proposed phase t p))
step_of t (reply m) entries = handled (outcome_of t (accept_reply t m))
step_of t (prepare m) entries = handled (outcome_of t (exp_prepare t m))
step_of t (log status at) entries = logged_of t at status entries
step_of t (try at) entries = tried (attempt_of t at entries)
step_of t (lead_at at) entries = handled (outcome_of t (lead_slot t at))

abbrev pub step_order : Table → Call → List ℕ → List ℕ
step_order t (propose phase p) list = list
step_order t (reply m) list = list
step_order t (prepare m) list = list
step_order t (log status at) list = logged_order t at status list
step_order t (try at) list = attempt_order t at list
step_order t (lead_at at) list = list

-- ---- with a list of 224 entries

abbrev pub answer_to : Table → Call → Answer
answer_to t call = (step_of t call 224).outcome.answer

abbrev pub after : Table → Call → Table
after t call = (step_of t call 224).outcome.table

-- the slots run, in the order in which they ran: what is written to the list
abbrev pub slots_run : Table → Call → List ℕ
slots_run t call = take (step_of t call 224).ran (step_order t call (replicate 224 0))
