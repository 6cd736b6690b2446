-- What an event does, and what it writes, is the same with every order list that has room: the history is what the entries write.
use mathlib.Core.Path.{◌≡◌, refl, sym, ap, ◌∙◌}
use mathlib.Core.List.{List}
use Prim.Native.Nat.{ℕ, ◌≤◌}
use native.Mathlib.Decide.{dec_lt}
use native.Mathlib.Omega.{arith}
use borrow.Author.Tests.{le-leb}
use lib.ListN.{length, take, replicate}
use lib.Seq.{take-append_seam}
use Rattle.base.specs.Refusals.{first_refusal}
use Rattle.table.specs.declared.place.Place.{Place}
use Rattle.table.specs.declared.table.Table.{Table}
use Rattle.attempts.specs.Refusal.{attempt_refusal}
use Rattle.attempts.specs.Attempt.{answer_of, written, attempt_on, order_on, attempt_or, attempt_of, attempt_order}
use Rattle.attempts.proofs.RefusedLaws.{attempt_tried, refused_table}
use Rattle.attempts.proofs.AttemptLaws.{unrun_falls}
use Rattle.logged.specs.Refusal.{logged_refusal}
use Rattle.logged.specs.Logged.{entries_on, logged_or, logged_of, logged_order}
use Rattle.base.specs.declared.log_status.LogStatus.{LogStatus}
use Rattle.logged.proofs.RefusedLaws.{refused_leaves}
use Rattle.logged.proofs.OnceLaws.{logged_number, logged_list}
use Rattle.steps.specs.Calls.{Call, propose, reply, prepare, log, try, lead_at}
use Rattle.steps.specs.Step.{tried, step_of, step_order, slots_run}
use Rattle.steps.proofs.RoomLaws.{unrun_most, front}

-- as many entries of a list as the event says, after it
abbrev pub written_in : Table → Call → List ℕ → List ℕ
written_in t call list = take (step_of t call (length list)).ran (step_order t call list)

-- ---- what is written where nothing is refused

module _ (t : Table) (at : Place) (list : List ℕ) where
  pub logged_slots : (status : LogStatus) → logged_refusal t at (length list) ≡ 0 → written_in t (log status at) list ≡ entries_on status t at
  logged_slots status e =
      ap (λ k. take k (logged_order t at status list)) (logged_number t at status list e)
      ∙ ap (take (length (entries_on status t at))) (logged_list t at status list e)
      ∙ take-append_seam (entries_on status t at) _

  pub tried_slots : attempt_refusal t at (length list) ≡ 0 → written_in t (try at) list ≡ written (answer_of t at) t at
  unfolding attempt_of attempt_order attempt_on order_on
  tried_slots e =
      let w = attempt_tried t at (length list) e in
      let room : length (written (answer_of t at) t at) ≤ length list = omega (arith, w.room, unrun_falls t at w.within w.row w.col, unrun_most t) in
      rw e (front list (written (answer_of t at) t at) room)

-- ---- every list with room

module _ (t : Table) (list : List ℕ) (room : 224 ≤ length list) where
  log_refusal : (at : Place) → logged_refusal t at (length list) ≡ logged_refusal t at 224
  unfolding logged_refusal first_refusal
  log_refusal at = rw (le-leb 224 (length list) room) refl

  try_refusal : (at : Place) → attempt_refusal t at (length list) ≡ attempt_refusal t at 224
  unfolding attempt_refusal first_refusal
  try_refusal at = rw (le-leb 224 (length list) room) refl

  log_list : (status : LogStatus) (at : Place) → written_in t (log status at) list ≡ slots_run t (log status at)
  log_list status at =
      let same = log_refusal at in
      elim (dec_lt 0 (logged_refusal t at 224)) [
        | yes l ↦ rw ((refused_leaves t at (length list) status (omega arith)).2, (refused_leaves t at 224 status l).2) refl
        | no n ↦ logged_slots t at list status (omega arith) ∙ sym (logged_slots t at (replicate 224 0) status (omega arith))
      ]

  try_list : (at : Place) → written_in t (try at) list ≡ slots_run t (try at)
  try_list at =
      let same = try_refusal at in
      elim (dec_lt 0 (attempt_refusal t at 224)) [
        | yes l ↦ rw ((refused_table t at (length list) (omega arith)).1, (refused_table t at 224 l).1) refl
        | no n ↦ tried_slots t at list (omega arith) ∙ sym (tried_slots t at (replicate 224 0) (omega arith))
      ]

  -- the slots written are the same
  pub any_list : (call : Call) → written_in t call list ≡ slots_run t call
  any_list (propose phase p) = refl
  any_list (reply m) = refl
  any_list (prepare m) = refl
  any_list (log status at) = log_list status at
  any_list (try at) = try_list at
  any_list (lead_at at) = refl

  -- and so are answer, table, output and number
  pub any_list_does : (call : Call) → step_of t call (length list) ≡ step_of t call 224
  unfolding logged_of attempt_of
  any_list_does (propose phase p) = refl
  any_list_does (reply m) = refl
  any_list_does (prepare m) = refl
  any_list_does (log status at) = ap (λ n. logged_or n status t at) (log_refusal at)
  any_list_does (try at) = ap (λ n. tried (attempt_or n t at)) (try_refusal at)
  any_list_does (lead_at at) = refl
