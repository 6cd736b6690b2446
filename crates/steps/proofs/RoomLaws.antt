-- How many slots an event runs, how many are left, and which are written to the order list.
use mathlib.Core.Path.{◌≡◌, refl, sym, ap, ◌∙◌}
use mathlib.Core.Bool.{Bool, true, false, cond, not, ◌&&◌, and-false}
use mathlib.Core.List.{List}
use mathlib.Core.Logic.{⊎_elim}
use Prim.Native.Nat.{ℕ, zero, suc, ◌+◌, ◌*◌, ◌/◌, ◌%◌, ◌<◌, ◌≤◌}
use native.Mathlib.Nat.{zero-add}
use native.Mathlib.Decide.{ℕ_discrete, dec_lt}
use native.Mathlib.Omega.{arith}
use borrow.Author.Tests.{lt-ltb, le-ltb}
use lib.Dec.{ltb}
use lib.ListN.{length, get_or, take, replicate, get_or-eq_default}
use lib.Seq.{sets, sets-eq, take-append_seam}
use Rattle.base.specs.Below.{count_below}
use Rattle.base.proofs.Loops.{count_same, count_at_most}
use Rattle.slots.specs.Slot.{is_executed}
use Rattle.slots.specs.declared.slot.Slot.{Slot}
use Rattle.table.specs.Place.{index_of}
use Rattle.table.specs.Table.{len_of, nulls_to, stored_at}
use Rattle.table.specs.declared.place.Place.{Place}
use Rattle.table.specs.declared.table.Table.{Table}
use Rattle.table.proofs.SlotReads.{null_or_kept, grown, nulls_cases, put_elsewhere}
use Rattle.outcomes.proofs.RefusalLaws.{Led, placed_row}
use Rattle.order.specs.Listed.{Has}
use Rattle.order.proofs.ListLaws.{has_none, has_at}
use Rattle.attempts.specs.Reads.{is_held_no, has_run}
use Rattle.attempts.specs.Refusal.{attempt_refusal}
use Rattle.attempts.specs.Attempt.{answer_of, written, attempt_on, order_on, unrun, attempt_or, order_or, attempt_of, attempt_order}
use Rattle.attempts.proofs.AttemptLaws.{unrun_falls}
use Rattle.attempts.proofs.RefusedLaws.{attempt_tried}
use Rattle.base.specs.LogStatus.{status_number}
use Rattle.rising.specs.Bars.{risen_bar}
use Rattle.rising.specs.Attempts.{attempts_on}
use Rattle.rising.specs.Committed.{risen_table, attempted_below, on_risen, on_committed}
use Rattle.logged.specs.Refusal.{logged_refusal}
use Rattle.logged.specs.Logged as logged
use Rattle.logged.specs.Logged.{entries_on, logged_on, logged_or, logged_of, logged_order}
use Rattle.base.specs.declared.log_status.LogStatus.{LogStatus}
use Rattle.base.specs.declared.log_status.LogStatus.TheVariants.{PreAccepting, Accepting, Committed}
use Rattle.logged.specs.declared.logged.LogOutcome.{LogOutcome}
use Rattle.logged.proofs.RefusedLaws.{logged_logged, logged_cases}
use Rattle.rising.proofs.BarLaws.{set_either, committed_cases}
use Rattle.rising.proofs.AttemptsLaws.{attempts_fall}
use Rattle.rising.proofs.CommittedLaws.{risen_keeps, bar_unrun}
use Rattle.logged.proofs.WithinLaws.{risen_in_rows}
use Rattle.logged.proofs.OnceLaws.{attempt_executes, committed_executes, others_run_none}
use Rattle.steps.specs.Calls.{Call, propose, reply, prepare, log, try, lead_at}
use Rattle.steps.specs.Step.{step_of, after, slots_run}
use Rattle.steps.proofs.ChangeLaws.{Touched, as_was, filled_to, put_in, stored_in, proposed_touches, reply_touches, prepare_touches, lead_touches, attempt_cases}

-- ---- counting

-- of two tests that agree at all numbers but one the one passes at most once more than the other
count_but_one : (p q : ℕ → Bool) (k n : ℕ) → ((i : ℕ) → i < n → (i ≡ k → ⊥) → p i ≡ q i) → count_below n p ≤ count_below n q + 1
unfolding count_below
count_but_one p q k zero h = omega arith
count_but_one p q k (suc n) h = elim (ℕ_discrete n k) [
  | yes e ↦ here (p n) (q n) (count_same p q n (λ i l. h i (omega arith) (λ f. omega arith)))
  | no o ↦ rw (h n (omega arith) o) (there (q n) (count_but_one p q k n (λ i l. h i (omega arith))))
]
  where
    here : (a b : Bool) → count_below n p ≡ count_below n q → cond a (suc (count_below n p)) (count_below n p) ≤ cond b (suc (count_below n q)) (count_below n q) + 1
    here true true e = omega arith
    here true false e = omega arith
    here false true e = omega arith
    here false false e = omega arith

    there : (b : Bool) → count_below n p ≤ count_below n q + 1 → cond b (suc (count_below n p)) (count_below n p) ≤ cond b (suc (count_below n q)) (count_below n q) + 1
    there true l = omega arith
    there false l = l

-- ---- a handler: what has run stays so, but for the slot at its place

-- null slots added: a slot that is added had not run, being absent, and has not; the others are as they were
module _ (t : Table) (at : Place) (l : at.col < 32) (short : len_of t at.row ≤ at.col) (i : ℕ) where
  abbrev from : ℕ
  from = 32 * at.row + len_of t at.row

  abbrev to : ℕ
  to = 32 * at.row + suc at.col

  added_not_held : from ≤ i → i < to → is_held_no t i ≡ false
  added_not_held f g =
      let r : i / 32 ≡ at.row = omega arith in
      rw r (le-ltb (i % 32) (len_of t at.row) (omega arith))

  kept_held : (from ≤ i → i < to → ⊥) → is_held_no (grown t at) i ≡ is_held_no t i
  kept_held out =
      ⊎_elim
      (λ same. rw same refl)
      (λ w. rw (w.1, w.0) (in_row_lem w.0))
      (set_either t.lens at.row (suc at.col) (i / 32))
    where
      in_row_lem : i / 32 ≡ at.row → ltb (i % 32) (suc at.col) ≡ ltb (i % 32) (len_of t at.row)
      in_row_lem r = elim (dec_lt (i % 32) (len_of t at.row)) [
        | yes h ↦ lt-ltb (i % 32) (suc at.col) (omega arith) ∙ sym (lt-ltb (i % 32) (len_of t at.row) h)
        | no n ↦ elim (dec_lt (i % 32) (suc at.col)) [
          | yes g ↦ absurd (out (omega arith) (omega arith))
          | no o ↦ le-ltb (i % 32) (suc at.col) (omega arith) ∙ sym (le-ltb (i % 32) (len_of t at.row) (omega arith))
        ]
      ]

  grown_run : i < 224 → has_run (grown t at) i ≡ has_run t i
  grown_run m =
      ⊎_elim
      (λ w. rw (w.2, added_not_held w.0 w.1, and-false (is_held_no (grown t at) i)) refl)
      (λ w. rw (w.1, kept_held w.0) refl)
      (null_or_kept t from to i m)

pub nulls_run : (t : Table) (at : Place) → at.col < 32 → (i : ℕ) → i < 224 → has_run (nulls_to t at) i ≡ has_run t i
nulls_run t at l i m = nulls_cases t at (λ u. has_run u i ≡ has_run t i) (λ _. refl) (λ short. grown_run t at l short i m)

touched_run : {t : Table} {at : Place} {u : Table} → Touched t at u → (i : ℕ) → i < 224 → (i ≡ index_of at → ⊥) → has_run u i ≡ has_run t i
unfolding stored_at
touched_run as_was i m n = refl
touched_run {t} {at} (filled_to l) i m n = nulls_run t at l i m
touched_run {t} {at} (put_in {u} s b w) i m n = ap (λ (x : Slot). is_held_no u i && is_executed x) (put_elsewhere u at s i n) ∙ touched_run w i m n
touched_run {t} {at} (stored_in {u} s b w) i m n = ap (λ (x : Slot). is_held_no u i && is_executed x) (put_elsewhere u at s i n) ∙ touched_run w i m n

-- so at most one slot waits that had run
touched_room : {t : Table} {at : Place} {u : Table} → Touched t at u → unrun u ≤ unrun t + 1
unfolding unrun
touched_room {t} {at} {u} w = count_but_one (λ i. not (has_run u i)) (λ i. not (has_run t i)) (index_of at) 224 (λ i m n. ap not (touched_run w i m n))

-- ---- an attempt and a log event: what runs had not run, and nothing waits again

try_falls : (t : Table) (at : Place) (entries : ℕ) → unrun (attempt_of t at entries).table + (attempt_of t at entries).ran ≤ unrun t
try_falls t at entries =
    attempt_cases t at entries (λ a. unrun a.table + a.ran ≤ unrun t)
    (λ _. omega arith)
    (λ w. omega (arith, unrun_falls t at w.within w.row w.col))

module _ (t : Table) (at : Place) (entries : ℕ) where
  abbrev Falls : LogOutcome → Type 0
  Falls r = unrun r.outcome.table + r.ran ≤ unrun t

  -- another status than Committed runs nothing
  none_falls : (status : LogStatus) → (status ≡ Committed → ⊥) → (logged_of t at status entries).ran ≡ 0 → Falls (logged_of t at status entries)
  unfolding unrun
  none_falls status n e =
      let u = (logged_of t at status entries).outcome.table in
      let same = count_same (λ i. not (has_run u i)) (λ i. not (has_run t i)) 224 (λ i _. ap not (others_run_none t at entries status n i)) in
      omega arith

  committed_falls : Led t at → unrun (on_committed t at).table + length (on_committed t at).wrote ≤ unrun t
  unfolding attempts_on on_risen
  committed_falls led =
      let h = led.placed.within in
      let l = placed_row led.placed in
      committed_cases t at (λ a. unrun a.table + length a.wrote ≤ unrun t)
      (λ _. omega arith)
      (λ _ r. omega (arith, attempts_fall (risen_table t at.row) (attempted_below t at.row) (risen_keeps t at.row h l) (risen_in_rows t at.row h l r), bar_unrun t at.row (risen_bar t at.row)))

  log_falls : (status : LogStatus) → Falls (logged_of t at status entries)
  unfolding logged_on
  log_falls PreAccepting = none_falls PreAccepting (λ q. omega (arith, ap status_number q)) (logged_cases t at entries PreAccepting (λ r. r.ran ≡ 0) (λ _. refl) (λ _. refl))
  log_falls Accepting = none_falls Accepting (λ q. omega (arith, ap status_number q)) (logged_cases t at entries Accepting (λ r. r.ran ≡ 0) (λ _. refl) (λ _. refl))
  log_falls Committed = logged_cases t at entries Committed Falls (λ _. omega arith) (λ e. committed_falls (logged_logged t at entries e).1)

-- ---- an event

-- at most one slot waits that had run, and what runs waits no more
pub step_room : (t : Table) (call : Call) → unrun (after t call) + (step_of t call 224).ran ≤ unrun t + 1
step_room t (propose phase p) = omega (arith, touched_room (proposed_touches phase t p))
step_room t (reply m) = omega (arith, touched_room (reply_touches t m))
step_room t (prepare m) = omega (arith, touched_room (prepare_touches t m))
step_room t (log status at) = omega (arith, log_falls t at 224 status)
step_room t (try at) = omega (arith, try_falls t at 224)
step_room t (lead_at at) = omega (arith, touched_room (lead_touches t at))

-- no more runs than had not run
pub ran_unrun : (t : Table) (call : Call) → (step_of t call 224).ran ≤ unrun t
ran_unrun t (propose phase p) = omega arith
ran_unrun t (reply m) = omega arith
ran_unrun t (prepare m) = omega arith
ran_unrun t (log status at) = omega (arith, log_falls t at 224 status)
ran_unrun t (try at) = omega (arith, try_falls t at 224)
ran_unrun t (lead_at at) = omega arith

-- there are 224 slots
pub unrun_most : (t : Table) → unrun t ≤ 224
unfolding unrun
unrun_most t = count_at_most (λ i. not (has_run t i)) 224

pub ran_most : (t : Table) (call : Call) → (step_of t call 224).ran ≤ 224
ran_most t call = omega (arith, ran_unrun t call, unrun_most t)

-- ---- the slots run, as they stand in the order list

-- a list of so many entries, each of them a slot
record Slots (many : ℕ) (list : List ℕ) : Type 0 where
  as_many : length list ≡ many
  slot : (k : ℕ) → Has k list → k < 224

-- what is written in a list from its first entry on is its front
pub front : (list wrote : List ℕ) → length wrote ≤ length list → take (length wrote) (sets list 0 wrote) ≡ wrote
front list wrote room = ap (take (length wrote)) (rw zero-add at (sets-eq wrote list 0 (omega arith))) ∙ take-append_seam wrote _

front_slots : (list wrote : List ℕ) → length wrote ≤ length list → ((k : ℕ) → Has k wrote → k < 224) → Slots (length wrote) (take (length wrote) (sets list 0 wrote))
front_slots list wrote room each = rw (front list wrote room) (record { as_many = refl; slot = each })

none_slots : (list : List ℕ) → Slots 0 (take 0 list)
none_slots list = record { as_many = refl; slot = λ k i. absurd (has_none k i) }

-- an attempt on any list
try_slots : (t : Table) (at : Place) (list : List ℕ) → Slots (attempt_of t at (length list)).ran (take (attempt_of t at (length list)).ran (attempt_order t at list))
unfolding attempt_of attempt_order attempt_on order_on
try_slots t at list = go (attempt_refusal t at (length list)) refl
  where
    go : (n : ℕ) → attempt_refusal t at (length list) ≡ n → Slots (attempt_or n t at).ran (take (attempt_or n t at).ran (order_or n t at list))
    go zero e =
        let w = attempt_tried t at (length list) e in
        front_slots list (written (answer_of t at) t at)
        (omega (arith, w.room, unrun_falls t at w.within w.row w.col, unrun_most t))
        (attempt_executes t at w.within w.row w.col).slot
    go (suc k) e = none_slots list

-- a log event on any list
log_slots : (t : Table) (at : Place) (status : LogStatus) (list : List ℕ) → Slots (logged_of t at status (length list)).ran (take (logged_of t at status (length list)).ran (logged_order t at status list))
unfolding logged_of logged_order logged_on logged.order_on
log_slots t at status list = go (logged_refusal t at (length list)) refl
  where
    room : Led t at → (s : LogStatus) → length (entries_on s t at) ≤ 224
    room led PreAccepting = omega arith
    room led Accepting = omega arith
    room led Committed = omega (arith, committed_falls t at 224 led, unrun_most t)

    each : Led t at → (s : LogStatus) → (k : ℕ) → Has k (entries_on s t at) → k < 224
    each led PreAccepting k i = absurd (has_none k i)
    each led Accepting k i = absurd (has_none k i)
    each led Committed k i = (committed_executes t at led.placed.within (placed_row led.placed)).slot k i

    go : (n : ℕ) → logged_refusal t at (length list) ≡ n → Slots (logged_or n status t at).ran (take (logged_or n status t at).ran (logged.order_or n status t at list))
    go zero e =
        let w = logged_logged t at (length list) e in
        front_slots list (entries_on status t at) (omega (arith, w.0, room w.1 status)) (each w.1 status)
    go (suc k) e = none_slots list

run_slots : (t : Table) (call : Call) → Slots (step_of t call 224).ran (slots_run t call)
run_slots t (propose phase p) = none_slots (replicate 224 0)
run_slots t (reply m) = none_slots (replicate 224 0)
run_slots t (prepare m) = none_slots (replicate 224 0)
run_slots t (log status at) = log_slots t at status (replicate 224 0)
run_slots t (try at) = try_slots t at (replicate 224 0)
run_slots t (lead_at at) = none_slots (replicate 224 0)

-- they are as many as run
pub slots_run_lem : (t : Table) (call : Call) → length (slots_run t call) ≡ (step_of t call 224).ran
slots_run_lem t call = (run_slots t call).as_many

-- each is below 224
pub slots_run_low : (t : Table) (call : Call) (i : ℕ) → get_or (slots_run t call) i 0 < 224
slots_run_low t call i = elim (dec_lt i (length (slots_run t call))) [
  | yes l ↦ (run_slots t call).slot _ (has_at (slots_run t call) i l)
  | no n ↦ omega (arith, get_or-eq_default (slots_run t call) 0 {n = i} (omega arith))
]

-- so that a byte holds it
pub slots_run_byte : (t : Table) (call : Call) (i : ℕ) → get_or (slots_run t call) i 0 < 256
slots_run_byte t call i = omega (arith, slots_run_low t call i)
