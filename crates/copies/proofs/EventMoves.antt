-- Each event of a trace is a list of moves, where the call keeps what is committed.
--
-- A new event joins here: it gets its own `_moves` lemma and its case in `step_moves`, and the theorem stays as it is. The lemma
-- has to show that from the table before to the table after there are moves which write what `slots_run` says of the call, in that
-- order:
--   - a call that runs nothing and moves no bar is one move, by `quiet_moves`: no slot has run after it that had not before, the
--     bars are as they were, and no slot is written;
--   - a bar that rises is one move, by `rise_alters`;
--   - attempts are moves by `attempt_moves` and `attempts_moves`;
--   - moves one after the other are moves, by `moves_join`.
-- The moves ask only that the table has its lengths, which is the event's case in `step_sized` (KeepLaws of steps). The other laws
-- that go by events get their case too: in steps `step_config`, `step_keeps`, `step_room`, `ran_unrun` and `run_slots`; here
-- `any_list`, `any_list_does` (ListLaws) and `step_outside` (BoundLaws); in controls `noticed`.
use mathlib.Core.Path.{◌≡◌, refl, ap, ◌∙◌}
use mathlib.Core.Logic.{◌⊎◌, ⊎_elim}
use mathlib.Core.Bool.{true}
use Prim.Native.Nat.{ℕ, ◌<◌}
use native.Mathlib.Decide.{ℕ_discrete, dec_lt}
use native.Mathlib.Omega.{arith}
use lib.ListN.{replicate}
use Rattle.base.proofs.Loops.{both_true}
use Rattle.slots.specs.Slot.{is_executed}
use Rattle.slots.specs.declared.slot.Slot.{Slot}
use Rattle.table.specs.Place.{index_of}
use Rattle.table.specs.Table.{bar_of, slot_no, slot_of, put_at, stored_at}
use Rattle.table.specs.declared.place.Place.{Place}
use Rattle.table.specs.declared.table.Table.{Table}
use Rattle.table.proofs.SlotReads.{put_elsewhere, stored_bars, nulls_bars}
use Rattle.bounds.proofs.BoundLaws.{put_either}
use Rattle.outcomes.proofs.RefusalLaws.{Led, placed_row}
use Rattle.attempts.specs.Refusal.{attempt_refusal}
use Rattle.attempts.specs.Attempt.{attempt_on, attempt_or, attempt_of}
use Rattle.attempts.proofs.RefusedLaws.{attempt_tried, refused_table}
use Rattle.attempts.specs.Reads.{is_held_no, deps_of, seqs_of}
use Rattle.rising.specs.Bars.{risen_bar}
use Rattle.rising.specs.Attempts.{attempts_on}
use Rattle.rising.specs.Committed.{risen_table, attempted_below, on_risen, on_committed}
use Rattle.base.specs.LogStatus.{status_number}
use Rattle.logged.specs.Refusal.{logged_refusal}
use Rattle.logged.specs.Logged.{logged_on}
use Rattle.base.specs.declared.log_status.LogStatus.{LogStatus}
use Rattle.base.specs.declared.log_status.LogStatus.TheVariants.{PreAccepting, Accepting, Committed}
use Rattle.logged.proofs.RefusedLaws.{logged_logged, logged_cases, refused_leaves}
use Rattle.rising.proofs.BarLaws.{set_either, risen_at_least, committed_cases}
use Rattle.logged.proofs.BarLaws.{another_status_no_bar}
use Rattle.logged.proofs.OnceLaws.{others_run_none}
use Rattle.rising.proofs.CommittedLaws.{risen_keeps}
use Rattle.logged.proofs.WithinLaws.{risen_in_rows}
use Rattle.steps.specs.Calls.{Call, propose, reply, prepare, log, try, lead_at}
use Rattle.steps.specs.Step.{step_of, after, slots_run}
use Rattle.steps.proofs.ChangeLaws.{Touched, as_was, filled_to, put_in, stored_in, proposed_touches, reply_touches, prepare_touches, lead_touches}
use Rattle.steps.proofs.KeepLaws.{Sized, step_sized}
use Rattle.steps.proofs.RoomLaws.{nulls_run}
use Rattle.copies.specs.Copies.{keeps_committed, Ran}
use Rattle.copies.proofs.Moves.{ran_held, Alters, alters, Moves, still, moves_one, moves_join}
use Rattle.copies.proofs.ListLaws.{logged_slots, tried_slots}
use Rattle.copies.proofs.SettledLaws.{held_low, alters_slots}
use Rattle.copies.proofs.AttemptMoves.{attempt_moves, attempts_moves}

-- ---- a bar rises

pub rise_alters : (t : Table) (row : ℕ) → Alters t (risen_table t row)
unfolding deps_of seqs_of
rise_alters t row = record {
  same = λ i c. record { seq = refl; deps = λ r m. refl };
  ran = λ i r. r;
  unrun = λ i r. r;
  bars = λ r. ⊎_elim (λ same. omega arith) (λ w. omega (arith, w.1, ap (bar_of t) w.0, risen_at_least t row)) (set_either t.bars row (risen_bar t row) r);
}

-- ---- Logged Committed

committed_moves : (t : Table) (at : Place) → Sized t → Led t at → Moves t (on_committed t at).wrote (on_committed t at).table
unfolding attempts_on on_risen
committed_moves t at s led =
    let h = led.placed.within in
    let l = placed_row led.placed in
    let row = at.row in
    committed_cases t at (λ a. Moves t a.wrote a.table) (λ _. still)
    (λ _ r. moves_join (moves_one (alters (rise_alters t row))) (attempts_moves (risen_table t row) (attempted_below t row) (record { rows = s.rows; columns = s.columns }) (risen_keeps t row h l) (risen_in_rows t row h l r)))

-- ---- a call that runs nothing and moves no bar

quiet_moves : (t : Table) (call : Call) → Sized t → keeps_committed t (after t call) ≡ true
    → ((i : ℕ) → Ran (after t call) i → Ran t i) → (after t call).bars ≡ t.bars → (step_of t call 224).ran ≡ 0
    → Moves t (slots_run t call) (after t call)
quiet_moves t call s keeps unrun bars none = rw none (moves_one (alters (alters_slots t (after t call) s keeps unrun bars)))

-- ---- a handler

touched_bars : {t : Table} {at : Place} {u : Table} → Touched t at u → u.bars ≡ t.bars
touched_bars as_was = refl
touched_bars {t} {at} (filled_to l) = nulls_bars t at
touched_bars (put_in s b w) = touched_bars w
touched_bars {t} {at} (stored_in {u} s b w) = stored_bars u at s ∙ touched_bars w

-- a slot put runs nothing
put_unrun : (u : Table) (at : Place) (s : Slot) → (is_executed s ≡ true → is_executed (slot_of u at) ≡ true) → (i : ℕ) → Ran (put_at u at s) i → Ran u i
put_unrun u at s before i r =
    let w = both_true (is_held_no u i) (is_executed (slot_no (put_at u at s) i)) r in
    elim (ℕ_discrete i (index_of at)) [
      | no n ↦ rw w.0 (rw (put_elsewhere u at s i n) at w.1)
      | yes e ↦ rw w.0 (⊎_elim (λ same. rw same at w.1) (λ is. rw e (before (rw is at w.1))) (put_either u at s i))
    ]

touched_unrun : {t : Table} {at : Place} {u : Table} → Touched t at u → (i : ℕ) → i < 224 → Ran u i → Ran t i
unfolding stored_at
touched_unrun as_was i l r = r
touched_unrun {t} {at} (filled_to c) i l r = rw (nulls_run t at c i l) at r
touched_unrun {t} {at} (put_in {u} s b w) i l r = touched_unrun w i l (put_unrun u at s b i r)
touched_unrun {t} {at} (stored_in {u} s b w) i l r = touched_unrun w i l (put_unrun u at s b i r)

handler_moves : (t : Table) (call : Call) (at : Place) → Sized t → keeps_committed t (after t call) ≡ true → Touched t at (after t call) → (step_of t call 224).ran ≡ 0
    → Moves t (slots_run t call) (after t call)
handler_moves t call at s keeps touched none =
    quiet_moves t call s keeps
    (λ i r. touched_unrun touched i (held_low (step_sized t call s) i (ran_held (after t call) i r).0) r)
    (touched_bars touched) none

-- ---- Logged

module _ (t : Table) (at : Place) where
  logged_table : logged_refusal t at 224 ≡ 0 → after t (log Committed at) ≡ (on_committed t at).table
  unfolding logged_on
  logged_table e = logged_cases t at 224 Committed (λ r. r.outcome.table ≡ (on_committed t at).table) (λ l. absurd (omega arith)) (λ _. refl)

  log_committed_moves : Sized t → Moves t (slots_run t (log Committed at)) (after t (log Committed at))
  log_committed_moves s = elim (dec_lt 0 (logged_refusal t at 224)) [
    | yes l ↦ let w = refused_leaves t at 224 Committed l in rw (w.2, w.0) still
    | no n ↦
        let e : logged_refusal t at 224 ≡ 0 = omega arith in
        rw (logged_slots t at (replicate 224 0) Committed e, logged_table e) (committed_moves t at s (logged_logged t at 224 e).1)
  ]

  -- another status than Committed runs nothing
  log_quiet_moves : (status : LogStatus) → (status ≡ Committed → ⊥) → (step_of t (log status at) 224).ran ≡ 0 → Sized t → keeps_committed t (after t (log status at)) ≡ true
      → Moves t (slots_run t (log status at)) (after t (log status at))
  log_quiet_moves status n none s keeps =
      quiet_moves t (log status at) s keeps (λ i r. rw (others_run_none t at 224 status n i) at r) (another_status_no_bar t at status 224 n) none

  log_moves : (status : LogStatus) → Sized t → keeps_committed t (after t (log status at)) ≡ true → Moves t (slots_run t (log status at)) (after t (log status at))
  unfolding logged_on
  log_moves PreAccepting = log_quiet_moves PreAccepting (λ q. omega (arith, ap status_number q)) (logged_cases t at 224 PreAccepting (λ r. r.ran ≡ 0) (λ _. refl) (λ _. refl))
  log_moves Accepting = log_quiet_moves Accepting (λ q. omega (arith, ap status_number q)) (logged_cases t at 224 Accepting (λ r. r.ran ≡ 0) (λ _. refl) (λ _. refl))
  log_moves Committed = λ s _. log_committed_moves s

  -- ---- Attempt

  pub tried_table : attempt_refusal t at 224 ≡ 0 → after t (try at) ≡ (attempt_on t at).table
  unfolding attempt_of
  tried_table e = ap (λ n. (attempt_or n t at).table) e

  try_moves : Sized t → Moves t (slots_run t (try at)) (after t (try at))
  try_moves s = elim (dec_lt 0 (attempt_refusal t at 224)) [
    | yes l ↦ let w = refused_table t at 224 l in rw (w.1, w.0) still
    | no n ↦
        let e : attempt_refusal t at 224 ≡ 0 = omega arith in
        let w = attempt_tried t at 224 e in
        rw (tried_slots t at (replicate 224 0) e, tried_table e) (attempt_moves t at s w.within w.row w.col)
  ]

-- ---- every event

pub step_moves : (t : Table) (call : Call) → Sized t → keeps_committed t (after t call) ≡ true → Moves t (slots_run t call) (after t call)
step_moves t (propose phase p) s k = handler_moves t (propose phase p) p.message.at s k (proposed_touches phase t p) refl
step_moves t (reply m) s k = handler_moves t (reply m) m.at s k (reply_touches t m) refl
step_moves t (prepare m) s k = handler_moves t (prepare m) m.at s k (prepare_touches t m) refl
step_moves t (log status at) s k = log_moves t at status s k
step_moves t (try at) s k = try_moves t at s
step_moves t (lead_at at) s k = handler_moves t (lead_at at) at s k (lead_touches t at) refl
