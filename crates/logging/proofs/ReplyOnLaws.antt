-- A log event where only replies go out: refused by its place, or the change that was decided.
use mathlib.Core.Path.{◌≡◌, refl}
use mathlib.Core.List.{List}
use Prim.Native.Nat.{ℕ, zero, suc, ◌<◌, ◌≤◌}
use native.Mathlib.Omega.{arith}
use lib.ListN.{length}
use Rattle.base.specs.Refusals.{refusal_number}
use Rattle.base.specs.declared.refusals.Refusal.{Refusal}
use Rattle.table.specs.declared.place.Place.{Place}
use Rattle.table.specs.declared.table.Table.{Table}
use Rattle.outcomes.specs.Outcome.{refused, outcome_of}
use Rattle.outcomes.specs.Refusal.{lead_refusal}
use Rattle.outcomes.specs.declared.outcome.Outcome.{Outcome}
use Rattle.outcomes.proofs.RefusalLaws.{number_some}
use Rattle.logged.specs.Logged.{none_run, outcome_on, reply_status, logged_on, order_on, logged_or, logged_of, logged_order}
use Rattle.logged.specs.declared.replies.Reply.{Reply}
use Rattle.logged.specs.declared.replies.Reply.TheVariants.{PreAccept, Accept}
use Rattle.logged.proofs.RefusedLaws.{then_slot, order_cases}
use Rattle.image.specs.Tables.{table_at}
use Rattle.logging.specs.Logging.{settled_log, event_on, reply_on}

module _ (reply : Reply) (t : Table) (at : Place) where
  -- it is the event, and leaves the order list
  reply_event : (entries : ℕ) → 224 ≤ entries → logged_of t at (reply_status reply) entries ≡ reply_on reply t at
  unfolding logged_of
  reply_event entries l = rw (then_slot t at entries l) refl

  reply_list : (list : List ℕ) → logged_order t at (reply_status reply) list ≡ list
  unfolding order_on
  reply_list list = order_cases t at (reply_status reply) list (λ r. r ≡ list) (λ _. refl) (λ _. none reply)
    where
      none : (r : Reply) → order_on (reply_status r) t at list ≡ list
      none PreAccept = refl
      none Accept = refl

  pub reply_called : (image order ran out : List ℕ) → t ≡ table_at image → 224 ≤ length order
      → event_on at (reply_status reply) image order ran out ≡ settled_log (reply_on reply t at) image order ran out
  reply_called image order ran out e l = rw (← e, reply_event (length order) l, reply_list order) refl

  number_refused : (k : ℕ) → 0 < k → logged_or k (reply_status reply) t at ≡ none_run (outcome_of t (refused k))
  number_refused zero l = absurd (omega arith)
  number_refused (suc k) l = refl

  pub reply_refused : (refusal : Refusal) → refusal_number refusal ≡ lead_refusal t at → reply_on reply t at ≡ none_run (outcome_of t (refused (refusal_number refusal)))
  reply_refused refusal e = rw (← e) (number_refused (refusal_number refusal) (number_some refusal))

  pub reply_done : (o : Outcome) → lead_refusal t at ≡ 0 → o ≡ outcome_on (reply_status reply) t at → reply_on reply t at ≡ none_run o
  unfolding logged_on
  reply_done o none e = rw (none, e) (go reply)
    where
      go : (r : Reply) → logged_on (reply_status r) t at ≡ none_run (outcome_on (reply_status r) t at)
      go PreAccept = refl
      go Accept = refl
