-- What a host may rely on of a log event on an image: what it writes reads as the table that the event gives, what it refuses it leaves, every length stays.
use mathlib.Core.Path.{◌≡◌, refl, ap}
use mathlib.Core.List.{List, [], ◌∷◌}
use mathlib.Core.Logic.{◌↔◌}
use mathlib.Core.Bool.{Bool, true, false, cond}
use Prim.Native.Nat.{ℕ, zero, suc, ◌<◌, ◌≤◌}
use native.Mathlib.Omega.{arith}
use borrow.Author.Tests.{leb-true}
use lib.Dec.{leb}
use lib.ListN.{length}
use lib.Seq.{length-sets}
use Rattle.base.specs.Answer.{is_refused}
use Rattle.base.specs.Refusals.{unreadable, short_order, outside_bounds}
use Rattle.base.specs.declared.answer.Answer.TheVariants.{Refused}
use Rattle.base.proofs.Loops.{both_true}
use Rattle.table.specs.Place.{place_of}
use Rattle.table.specs.Table.{slot_of}
use Rattle.table.specs.declared.place.Place.{Place}
use Rattle.table.specs.declared.table.Table.{Table}
use Rattle.bounds.proofs.BoundLaws.{table_fits_each, len_at_most}
use Rattle.outcomes.proofs.RefusalLaws.{Led, placed_row}
use Rattle.handlers.specs.Replies.{accept_reply}
use Rattle.attempts.specs.Attempt.{attempt_on}
use Rattle.image.specs.Tables.{image_width, table_at, image_known, TableWhole}
use Rattle.output_bytes.specs.Output.{output_width}
use Rattle.layout.specs.Numbers.{Bytes}
use Rattle.base.specs.LogStatus.{is_status, status_of}
use Rattle.logged.specs.Refusal.{logged_refusal}
use Rattle.rising.specs.Bars.{risen_bar}
use Rattle.logged.specs.Replies.{my_reply, own_reply}
use Rattle.rising.specs.Attempts.{attempts_on}
use Rattle.rising.specs.Committed.{risen_table, on_risen, on_committed}
use Rattle.logged.specs.Logged.{entries_on, order_on, logged_of, logged_order}
use Rattle.base.specs.declared.log_status.LogStatus.{LogStatus}
use Rattle.logged.specs.declared.logged.LogOutcome.{LogOutcome}
use Rattle.logged.proofs.RefusedLaws.{LoggedRefused, short_order_lem, by_slot, logged_cases, table_cases, logged_exactly, logged_done, refused_leaves, order_cases, refused_list}
use Rattle.rising.proofs.BarLaws.{risen_at_most, committed_cases}
use Rattle.calls.specs.Calls.{short, image_long}
use Rattle.calls.proofs.WholeLaws.{set_rows, outcome_whole, reply_whole}
use Rattle.calls.proofs.WrittenLaws.{bytes_stay, laid_length, long_image}
use Rattle.calls.proofs.CallLaws.{lead_between}
use Rattle.attempting.specs.Attempting.{ran_width}
use Rattle.attempting.proofs.SettledLaws.{Settles, refused_settles, taken_settles, settled_not, settled_stays, settled_lengths, settled_follows}
use Rattle.attempting.proofs.AttemptingLaws.{attempt_whole}
use Rattle.logging.specs.Logging.{LogCalled, unchanged, on_table, log_long, log_call}

-- ---- the lengths

pub record Long (image ran out : List ℕ) : Type 0 where
  pub image_long : length image ≡ image_width
  pub ran_long : ran_width ≤ length ran
  pub out_long : output_width ≤ length out

pub long_each : (image ran out : List ℕ) → log_long image ran out ≡ true → Long image ran out
unfolding log_long
long_each image ran out e =
    let h = both_true _ _ (both_true (image_long image) _ e).1 in
    record { image_long = long_image image _ e; ran_long = leb-true _ _ h.0; out_long = leb-true _ _ h.1 }

-- ---- a log event keeps a table whole

attempts_whole : (t : Table) (places : List Place) → TableWhole t → TableWhole (attempts_on t places).table
unfolding attempts_on
attempts_whole t [] w = w
attempts_whole t (at ∷ rest) w = attempts_whole (attempt_on t at).table rest (attempt_whole t at w)

module _ (t : Table) (at : Place) (w : TableWhole t) where
  own_whole : (ballot : ℕ) → TableWhole (own_reply t at ballot).table
  unfolding own_reply
  own_whole ballot = outcome_whole t (accept_reply t (my_reply t at ballot)) w (reply_whole t (my_reply t at ballot) w)

  -- a bar rises no further than its row's slots
  risen_byte : Led t at → risen_bar t at.row ≤ 255
  risen_byte led =
      let within = led.placed.within in
      let row = placed_row led.placed in
      omega (arith, risen_at_most t at.row ((table_fits_each t within).bars_fit at.row row), len_at_most t within at.row row)

  risen_whole : Led t at → TableWhole (risen_table t at.row)
  risen_whole led =
      record { config = w.config; lens = w.lens; bars = set_rows t.bars at.row (risen_bar t at.row) w.bars (risen_byte led); keys = w.keys; slots = w.slots; each = w.each }

  committed_whole : Led t at → TableWhole (on_committed t at).table
  unfolding on_risen
  committed_whole led =
      committed_cases t at (λ a. TableWhole a.table)
      (λ _. attempts_whole t [] w)
      (λ _ _. attempts_whole (risen_table t at.row) _ (risen_whole led))

  pub logged_whole : (entries : ℕ) (status : LogStatus) → TableWhole (logged_of t at status entries).outcome.table
  logged_whole entries status = table_cases t at entries status TableWhole w (λ _ _. own_whole (slot_of t at).ballot) (λ _ led. committed_whole led)

-- ---- what the entry answers and leaves

module _ (t : Table) (at : Place) (status : LogStatus) (order : List ℕ) where
  refusal_between : {k : ℕ} → LoggedRefused t at (length order) k → (1 ≤ k) × (k ≤ 8)
  refusal_between (short_order_lem l) = (omega arith, omega arith)
  refusal_between (by_slot l r) = let b = lead_between t at r in (b.0, omega arith)

  order_sized : length (logged_order t at status order) ≡ length order
  unfolding order_on
  order_sized = order_cases t at status order (λ l. length l ≡ length order) (λ _. refl) (λ _. length-sets order 0 (entries_on status t at))

  is_number : 0 < logged_refusal t at (length order) → (logged_of t at status (length order)).outcome.answer ≡ Refused (logged_refusal t at (length order))
  is_number l = logged_cases t at (length order) status (λ r. r.outcome.answer ≡ Refused (logged_refusal t at (length order))) (λ _. refl) (λ e. absurd (omega arith))

  entry_settles : Settles t order (logged_of t at status (length order)).outcome.answer (logged_of t at status (length order)).outcome.table (logged_order t at status order)
  entry_settles = go (logged_refusal t at (length order)) refl
    where
      go : (k : ℕ) → logged_refusal t at (length order) ≡ k
          → Settles t order (logged_of t at status (length order)).outcome.answer (logged_of t at status (length order)).outcome.table (logged_order t at status order)
      go zero e = taken_settles t order (ap is_refused (logged_done t at (length order) status e)) (λ w. logged_whole t at w (length order) status) order_sized
      go (suc k) e =
          let l : 0 < logged_refusal t at (length order) = omega arith in
          let b = refusal_between ((logged_exactly t at (length order) status _).0 (is_number l)) in
          rw (is_number l, (refused_leaves t at (length order) status l).0, refused_list t at status order l) (refused_settles t order b.0 b.1)

-- ---- the call

module _ (row col status : ℕ) (image order ran out : List ℕ) where
  abbrev called : LogCalled
  called = log_call row col status image order ran out

  abbrev entry : LogOutcome
  entry = logged_of (table_at image) (place_of row col) (status_of status) (length order)

  abbrev list : List ℕ
  list = logged_order (table_at image) (place_of row col) (status_of status) order

  settles : Settles (table_at image) order entry.outcome.answer entry.outcome.table list
  settles = entry_settles (table_at image) (place_of row col) (status_of status) order

  pub log_cases : (P : LogCalled → Type 0)
      → (log_long image ran out ≡ false → P (unchanged short image order ran out))
      → (log_long image ran out ≡ true → is_status status ≡ false → P (unchanged unreadable image order ran out))
      → P (unchanged short_order image order ran out)
      → P (unchanged outside_bounds image order ran out)
      → (log_long image ran out ≡ true → P (on_table row col status image order ran out))
      → P (log_call row col status image order ran out)
  unfolding log_call
  log_cases P is-short no-status few unknown tried =
      go (log_long image ran out) refl (is_status status) refl (leb 224 (length order)) (image_known image)
    where
      go : (long : Bool) → log_long image ran out ≡ long → (stands : Bool) → is_status status ≡ stands → (room known : Bool)
          → P (cond long (cond stands (cond room (cond known (on_table row col status image order ran out) (unchanged outside_bounds image order ran out)) (unchanged short_order image order ran out)) (unchanged unreadable image order ran out)) (unchanged short image order ran out))
      go false e stands f room known = is-short e
      go true e false f room known = no-status e f
      go true e true f false known = few
      go true e true f true false = unknown
      go true e true f true true = tried e

  -- a number below 100 says that image, list, ran and out are as they were
  pub logged_stays : called.code < 100 → (called.image ≡ image) × (called.order ≡ order) × (called.ran ≡ ran) × (called.out ≡ out)
  logged_stays =
      log_cases (λ c. c.code < 100 → (c.image ≡ image) × (c.order ≡ order) × (c.ran ≡ ran) × (c.out ≡ out))
      (λ _ _. (refl, refl, refl, refl)) (λ _ _ _. (refl, refl, refl, refl)) (λ _. (refl, refl, refl, refl)) (λ _. (refl, refl, refl, refl))
      (λ _ l. let s = settled_stays image order ran entry.ran settles l in (s.0, s.1, s.2, bytes_stay entry.outcome.answer out _ l))

  -- 0 says that ran or out is short or the image has another length
  pub logged_zero : (called.code ≡ 0) ↔ (log_long image ran out ≡ false)
  unfolding log_call
  logged_zero = (
    log_cases (λ c. c.code ≡ 0 → log_long image ran out ≡ false)
        (λ e _. e) (λ _ _ z. absurd (omega arith)) (λ z. absurd (omega arith)) (λ z. absurd (omega arith))
        (λ _ z. absurd (settled_not settles 0 (λ l. omega arith) (omega arith) z)),
    λ e. rw e refl,
  )

  -- 10 says that the lengths are right and the number stands for no log status
  pub logged_ten : (called.code ≡ 10) ↔ ((log_long image ran out ≡ true) × (is_status status ≡ false))
  unfolding log_call
  logged_ten = (
    log_cases (λ c. c.code ≡ 10 → (log_long image ran out ≡ true) × (is_status status ≡ false))
        (λ _ z. absurd (omega arith)) (λ e f _. (e, f)) (λ z. absurd (omega arith)) (λ z. absurd (omega arith))
        (λ _ z. absurd (settled_not settles 10 (λ l. omega arith) (omega arith) z)),
    λ h. rw (h.0, h.1) refl,
  )

  pub logged_lengths : (length called.image ≡ length image) × (length called.order ≡ length order) × (length called.ran ≡ length ran) × (length called.out ≡ length out)
  logged_lengths =
      log_cases (λ c. (length c.image ≡ length image) × (length c.order ≡ length order) × (length c.ran ≡ length ran) × (length c.out ≡ length out))
      (λ _. (refl, refl, refl, refl)) (λ _ _. (refl, refl, refl, refl)) (refl, refl, refl, refl) (refl, refl, refl, refl)
      (λ long. let s = settled_lengths image order ran entry.ran settles (long_each image ran out long).image_long in (s.0, s.1, s.2, laid_length entry.outcome.answer _ out))

  -- what a log event does to the image is what it does to the table
  pub logged_follows : Bytes image → 100 ≤ called.code → (table_at called.image ≡ entry.outcome.table) × (image_known called.image ≡ true) × (called.order ≡ list)
  logged_follows b =
      log_cases (λ c. 100 ≤ c.code → (table_at c.image ≡ entry.outcome.table) × (image_known c.image ≡ true) × (c.order ≡ list))
      (λ _ l. absurd (omega arith)) (λ _ _ l. absurd (omega arith)) (λ l. absurd (omega arith)) (λ l. absurd (omega arith))
      (λ _ l. let f = settled_follows image order ran entry.ran settles b l in (f.0, f.1, refl))
