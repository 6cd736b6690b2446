-- A log event: answer, table, output and order list in every case.
use Rattle.std.specs.Prelude.{◌≡◌, List, [], ℕ, zero, suc, length}
use Rattle.std.proofs.lemmas.List.Edits.{sets}
use Rattle.base.specs.declared.answer.Answer.TheVariants.{Done}
use Rattle.deps.specs.Batches.{no_op}
use Rattle.table.specs.Table.{slot_of}
use Rattle.table.specs.declared.place.Place.{Place}
use Rattle.table.specs.declared.table.Table.{Table}
use Rattle.outcomes.specs.Outcome.{refused, outcome, outcome_of}
use Rattle.outcomes.specs.declared.outcome.Outcome.{Outcome}
use Rattle.changes.specs.View.{view_of}
use Rattle.changes.specs.Change.{Inside, changed}
use Rattle.changes.specs.declared.view.View.{View}
use Rattle.changes.specs.declared.change.Change.{Change}
use Rattle.logged.specs.Refusal.{logged_refusal}
use Rattle.logged.specs.Replies.{pre_accepting_out, on_accepting}
use Rattle.rising.specs.Committed.{on_committed}
use Rattle.base.specs.declared.log_status.LogStatus.{LogStatus}
use Rattle.base.specs.declared.log_status.LogStatus.TheVariants.{PreAccepting, Accepting, Committed}
use Rattle.logged.specs.declared.logged.LogOutcome.{LogOutcome}
use Rattle.logged.specs.declared.replies.Reply.{Reply}
use Rattle.logged.specs.declared.replies.Reply.TheVariants.{PreAccept, Accept}

abbrev pub none_run : Outcome → LogOutcome
none_run o = record { outcome = o; ran = 0 }

-- ---- one that is not refused: Done

abbrev pub outcome_on : LogStatus → Table → Place → Outcome
outcome_on PreAccepting t at = outcome Done t (pre_accepting_out at (slot_of t at))
outcome_on Accepting t at = on_accepting t at
outcome_on Committed t at = outcome Done (on_committed t at).table []

-- what is logged where only replies go out
abbrev pub reply_status : Reply → LogStatus
reply_status PreAccept = PreAccepting
reply_status Accept = Accepting

-- the change makes of every table that looks so what the log event makes of it
pub record RepliesWith (reply : Reply) (v : View) (at : Place) (c : Change) : Type 0 where
  pub inside : Inside c.extent at
  pub same : (t : Table) → length t.lens ≡ 7 → view_of t at no_op ≡ v → changed t at c ≡ outcome_on (reply_status reply) t at

-- the slots that it runs
abbrev pub entries_on : LogStatus → Table → Place → List ℕ
entries_on PreAccepting t at = []
entries_on Accepting t at = []
entries_on Committed t at = (on_committed t at).wrote

unfoldable pub logged_on : LogStatus → Table → Place → LogOutcome
logged_on status t at = record { outcome = outcome_on status t at; ran = length (entries_on status t at) }

unfoldable pub order_on : LogStatus → Table → Place → List ℕ → List ℕ
order_on status t at list = sets list 0 (entries_on status t at)

-- ---- the entry: a refusal's number, of which 0 is none, leaves table and list as they were

abbrev pub logged_or : ℕ → LogStatus → Table → Place → LogOutcome
logged_or zero status t at = logged_on status t at
logged_or (suc k) status t at = none_run (outcome_of t (refused (suc k)))

abbrev pub order_or : ℕ → LogStatus → Table → Place → List ℕ → List ℕ
order_or zero status t at list = order_on status t at list
order_or (suc k) status t at list = list

unfoldable pub logged_of : Table → Place → LogStatus → ℕ → LogOutcome
logged_of t at status entries = logged_or (logged_refusal t at entries) status t at

unfoldable pub logged_order : Table → Place → LogStatus → List ℕ → List ℕ
logged_order t at status list = order_or (logged_refusal t at (length list)) status t at list
