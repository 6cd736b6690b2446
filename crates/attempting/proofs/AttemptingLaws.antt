-- What a host may rely on of an attempt on an image: what it writes reads as the table that the attempt gives, what it refuses it leaves, every length stays.
use mathlib.Core.Path.{◌≡◌, refl}
use mathlib.Core.List.{List}
use mathlib.Core.Logic.{◌↔◌}
use mathlib.Core.Bool.{Bool, true, false, cond}
use Prim.Native.Nat.{ℕ, zero, suc, ◌<◌, ◌≤◌}
use native.Mathlib.Omega.{arith}
use lib.Dec.{leb}
use lib.ListN.{length}
use lib.Seq.{length-sets}
use Rattle.base.specs.Answer.{is_refused}
use Rattle.base.specs.Marks.{marked}
use Rattle.base.specs.Refusals.{short_order, outside_bounds}
use Rattle.table.specs.Place.{place_of}
use Rattle.table.specs.Table.{slot_no}
use Rattle.table.specs.declared.place.Place.{Place}
use Rattle.table.specs.declared.table.Table.{Table}
use Rattle.slot_bytes.specs.Slot.{SlotWhole}
use Rattle.image.specs.Tables.{table_at, image_known, TableWhole}
use Rattle.layout.specs.Numbers.{Bytes}
use Rattle.attempts.specs.Refusal.{attempt_refusal}
use Rattle.attempts.specs.Attempt.{ran_with, written, table_after, to_run, answer_of, attempt_on, order_on, attempt_or, order_or, attempt_of, attempt_order}
use Rattle.attempts.proofs.RanLaws.{ran_length, ran_marked, ran_others}
use Rattle.attempts.proofs.AttemptLaws.{answer_cases}
use Rattle.attempts.proofs.RefusedLaws.{AttemptRefused, short_order_lem, outside, no_row, no_column_lem, some_refusal}
use Rattle.attempts.specs.declared.attempt.Attempted.{Attempted}
use Rattle.calls.specs.Calls.{short}
use Rattle.calls.proofs.WrittenLaws.{long_image}
use Rattle.attempting.specs.Attempting.{AttemptCalled, unchanged, on_table, attempt_long, attempt_call}
use Rattle.attempting.proofs.SettledLaws.{Settles, refused_settles, taken_settles, settled_not, settled_stays, settled_lengths, settled_follows}

-- ---- an attempt keeps a table whole

module _ (t : Table) (marks : List Bool) (w : TableWhole t) where
  slot_whole : (i : ℕ) → i < 224 → SlotWhole (slot_no (ran_with t marks) i)
  slot_whole i l = go (marked marks i) refl
    where
      s : SlotWhole (slot_no t i)
      s = w.each i l

      go : (b : Bool) → marked marks i ≡ b → SlotWhole (slot_no (ran_with t marks) i)
      go true e = rw (ran_marked t marks i l e) (record { ballot = s.ballot; seq = s.seq; deps = s.deps; batch = s.batch; marks = s.marks })
      go false e = rw (ran_others t marks i l e) s

  ran_whole : TableWhole (ran_with t marks)
  unfolding ran_with
  ran_whole = record { config = w.config; lens = w.lens; bars = w.bars; keys = w.keys; slots = ran_length t marks; each = slot_whole }

pub attempt_whole : (t : Table) (at : Place) → TableWhole t → TableWhole (attempt_on t at).table
unfolding attempt_on
attempt_whole t at w = answer_cases t at (λ a. TableWhole (table_after a t at)) (λ _. w) (λ _ _. ran_whole t (to_run t at) w) (λ _ _. w)

-- ---- what the entry answers and leaves

module _ (t : Table) (at : Place) (order : List ℕ) where
  on_settles : Settles t order (attempt_on t at).answer (attempt_on t at).table (order_on t at 0 order)
  unfolding attempt_on order_on
  on_settles =
      taken_settles t order
      (answer_cases t at (λ a. is_refused a ≡ false) (λ _. refl) (λ _ _. refl) (λ _ _. refl))
      (attempt_whole t at)
      (length-sets order 0 (written (answer_of t at) t at))

  refusal_low : {k : ℕ} → AttemptRefused t at (length order) k → k ≤ 8
  refusal_low (short_order_lem l) = omega arith
  refusal_low (outside s e) = omega arith
  refusal_low (no_row s w l) = omega arith
  refusal_low (no_column_lem s w r l) = omega arith

  entry_settles : Settles t order (attempt_of t at (length order)).answer (attempt_of t at (length order)).table (attempt_order t at order)
  unfolding attempt_of attempt_order
  entry_settles = go (attempt_refusal t at (length order)) refl
    where
      go : (k : ℕ) → attempt_refusal t at (length order) ≡ k → Settles t order (attempt_or k t at).answer (attempt_or k t at).table (order_or k t at order)
      go zero e = on_settles
      go (suc k) e =
          let low = refusal_low (some_refusal t at (length order) (omega arith)) in
          refused_settles t order (omega arith) (omega arith)

-- ---- the call

module _ (row col : ℕ) (image order ran : List ℕ) where
  abbrev called : AttemptCalled
  called = attempt_call row col image order ran

  abbrev entry : Attempted
  entry = attempt_of (table_at image) (place_of row col) (length order)

  settles : Settles (table_at image) order entry.answer entry.table (attempt_order (table_at image) (place_of row col) order)
  settles = entry_settles (table_at image) (place_of row col) order

  pub attempt_cases : (P : AttemptCalled → Type 0)
      → (attempt_long image ran ≡ false → P (unchanged short image order ran))
      → P (unchanged short_order image order ran)
      → P (unchanged outside_bounds image order ran)
      → (attempt_long image ran ≡ true → P (on_table row col image order ran))
      → P (attempt_call row col image order ran)
  unfolding attempt_call
  attempt_cases P is-short few unknown tried = go (attempt_long image ran) refl (leb 224 (length order)) (image_known image)
    where
      go : (long : Bool) → attempt_long image ran ≡ long → (room known : Bool)
          → P (cond long (cond room (cond known (on_table row col image order ran) (unchanged outside_bounds image order ran)) (unchanged short_order image order ran)) (unchanged short image order ran))
      go false e room known = is-short e
      go true e false known = few
      go true e true false = unknown
      go true e true true = tried e

  -- a number below 100 says that image, list and ran are as they were
  pub attempt_stays : called.code < 100 → (called.image ≡ image) × (called.order ≡ order) × (called.ran ≡ ran)
  attempt_stays =
      attempt_cases (λ c. c.code < 100 → (c.image ≡ image) × (c.order ≡ order) × (c.ran ≡ ran))
      (λ _ _. (refl, refl, refl)) (λ _. (refl, refl, refl)) (λ _. (refl, refl, refl))
      (λ _. settled_stays image order ran entry.ran settles)

  -- 0 says that ran is short or the image has another length
  pub attempt_zero : (called.code ≡ 0) ↔ (attempt_long image ran ≡ false)
  unfolding attempt_call
  attempt_zero = (
    attempt_cases (λ c. c.code ≡ 0 → attempt_long image ran ≡ false)
        (λ e _. e) (λ z. absurd (omega arith)) (λ z. absurd (omega arith))
        (λ _ z. absurd (settled_not settles 0 (λ l. omega arith) (omega arith) z)),
    λ e. rw e refl,
  )

  pub attempt_lengths : (length called.image ≡ length image) × (length called.order ≡ length order) × (length called.ran ≡ length ran)
  unfolding attempt_long
  attempt_lengths =
      attempt_cases (λ c. (length c.image ≡ length image) × (length c.order ≡ length order) × (length c.ran ≡ length ran))
      (λ _. (refl, refl, refl)) (refl, refl, refl) (refl, refl, refl)
      (λ long. settled_lengths image order ran entry.ran settles (long_image image _ long))

  -- what an attempt does to the image is what it does to the table
  pub attempt_follows : Bytes image → 100 ≤ called.code
      → (table_at called.image ≡ entry.table) × (image_known called.image ≡ true) × (called.order ≡ attempt_order (table_at image) (place_of row col) order)
  attempt_follows b =
      attempt_cases (λ c. 100 ≤ c.code → (table_at c.image ≡ entry.table) × (image_known c.image ≡ true) × (c.order ≡ attempt_order (table_at image) (place_of row col) order))
      (λ _ l. absurd (omega arith)) (λ l. absurd (omega arith)) (λ l. absurd (omega arith))
      (λ _ l. let f = settled_follows image order ran entry.ran settles b l in (f.0, f.1, refl))
