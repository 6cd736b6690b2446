-- What runs in one log event: the attempts write on after each other, and no slot runs twice.
use mathlib.Core.Path.{◌≡◌, refl, sym, ap, ◌∙◌}
use mathlib.Core.List.{List, [], ◌∷◌, ◌++◌, flat_map}
use mathlib.Core.Logic.{◌↔◌, ◌⊎◌, inl, inr, ⊎_elim}
use mathlib.Core.Bool.{Bool, true, false, not, ◌&&◌}
use Prim.Native.Nat.{ℕ, suc, ◌+◌, ◌<◌, ◌≤◌}
use native.Mathlib.Nat.{zero-add}
use native.Mathlib.Omega.{arith}
use native.Mathlib.Decide.{ℕ_discrete}
use borrow.Author.Tests.{eq-eqb, lt-ltb}
use lib.ListN.{length, get_or, set, drop}
use lib.Seq.{sets, sets-eq, get_or-set_other}
use Rattle.base.specs.Answer.{number_of}
use Rattle.base.specs.declared.answer.Answer.TheVariants.{Done}
use Rattle.base.proofs.Loops.{count_at_most}
use Rattle.slots.specs.Slot.{committed, is_executed, executed}
use Rattle.slots.specs.declared.slot.Slot.{Slot}
use Rattle.bounds.specs.Bounds.{table_fits}
use Rattle.table.specs.Place.{index_of}
use Rattle.table.specs.Table.{bar_of, slot_no, slot_of, put_at}
use Rattle.table.specs.declared.place.Place.{Place}
use Rattle.table.specs.declared.table.Table.{Table}
use Rattle.bounds.proofs.BoundLaws.{put_either}
use Rattle.table.proofs.SlotReads.{put_elsewhere}
use Rattle.outcomes.specs.Outcome.{Handled, outcome_of}
use Rattle.outcomes.specs.declared.message.Message.{Message}
use Rattle.outcomes.proofs.RefusalLaws.{Led, placed_row}
use Rattle.handlers.proofs.CaseLaws.{slot_marked, reply_cases, mark_cases}
use Rattle.handlers.proofs.StoredLaws.{heeds_each}
use Rattle.order.specs.Listed.{Has, Once, none}
use Rattle.order.proofs.ListLaws.{clash, has_none, has_or, has_left, has_right, has_either, once_both}
use Rattle.attempts.specs.Reads.{is_held_no, has_run}
use Rattle.attempts.specs.Attempt.{answer_of, written, attempt_on, unrun}
use Rattle.attempts.proofs.AttemptLaws.{answer_cases, reached_slot, held, others_nothing, done_has, done_paper, done_ran, done_others, attempt_keeps}
use Rattle.base.specs.LogStatus.{status_number}
use Rattle.logged.specs.Refusal.{logged_refusal}
use Rattle.logged.specs.Replies.{my_reply, own_reply}
use Rattle.rising.specs.Bars.{risen_bar, with_bar}
use Rattle.rising.specs.Attempts.{attempts_on}
use Rattle.rising.specs.Committed.{risen_table, attempted_below, on_risen, on_committed}
use Rattle.logged.specs.Logged.{entries_on, logged_on, order_on, logged_of, logged_order}
use Rattle.base.specs.declared.log_status.LogStatus.{LogStatus}
use Rattle.base.specs.declared.log_status.LogStatus.TheVariants.{PreAccepting, Accepting, Committed}
use Rattle.logged.proofs.RefusedLaws.{logged_logged, logged_cases, table_cases, order_cases}
use Rattle.rising.proofs.BarLaws.{attempt_only_slots, committed_cases}
use Rattle.rising.proofs.AttemptsLaws.{InRows, attempts_fall}
use Rattle.rising.proofs.CommittedLaws.{risen_keeps}
use Rattle.logged.proofs.WithinLaws.{risen_in_rows}

-- ---- what ran, between a table and a later one

-- the slots of the list have become Executed, each once, and no other slot has changed
pub record Executes (t u : Table) (wrote : List ℕ) : Type 0 where
  pub once : Once wrote
  pub slot : (k : ℕ) → Has k wrote → k < 224
  pub in_table : (k : ℕ) → Has k wrote → is_held_no t k ≡ true
  pub had_not : (k : ℕ) → Has k wrote → has_run t k ≡ false
  pub has_now : (k : ℕ) → Has k wrote → slot_no u k ≡ executed (slot_no t k)
  pub others : (k : ℕ) → k < 224 → (Has k wrote → ⊥) → slot_no u k ≡ slot_no t k
  pub lens : u.lens ≡ t.lens

module _ {t u : Table} {wrote : List ℕ} (w : Executes t u wrote) where
  -- a slot of the list had not run, and has
  pub entry_ran : (k : ℕ) → Has k wrote → (has_run t k ≡ false) × (has_run u k ≡ true)
  entry_ran k i = (w.had_not k i, rw (w.lens, w.has_now k i, w.in_table k i))

  other_same : (k : ℕ) → k < 224 → (Has k wrote → ⊥) → has_run u k ≡ has_run t k
  other_same k l n = rw (w.lens, w.others k l n)

  -- what has run stays so
  pub ran_stays : (k : ℕ) → k < 224 → has_run t k ≡ true → has_run u k ≡ true
  ran_stays k l h = ⊎_elim (λ i. (entry_ran k i).1) (λ n. other_same k l n ∙ h) (has_or k wrote)

  -- what has run after it had run before, or is in the list
  pub ran_exactly : (k : ℕ) → k < 224 → (has_run u k ≡ true) ↔ ((has_run t k ≡ true) ⊎ Has k wrote)
  ran_exactly k l = (
    λ h. ⊎_elim inr (λ n. inl (sym (other_same k l n) ∙ h)) (has_or k wrote),
    ⊎_elim (ran_stays k l) (λ i. (entry_ran k i).1),
  )

pub none_executes : (t : Table) → Executes t t []
none_executes t =
    record {
      once = none;
      slot = λ k i. absurd (has_none k i);
      in_table = λ k i. absurd (has_none k i);
      had_not = λ k i. absurd (has_none k i);
      has_now = λ k i. absurd (has_none k i);
      others = λ k l n. refl;
      lens = refl;
    }

-- one after the other
module _ {t u v : Table} {A B : List ℕ} (a : Executes t u A) (b : Executes u v B) where
  apart : (k : ℕ) → Has k A → Has k B → ⊥
  apart k i j = clash (has_run u k) (entry_ran a k i).1 (b.had_not k j)

  had_not_run : (k : ℕ) → Has k B → has_run t k ≡ false
  had_not_run k j = go (has_run t k) refl
    where
      go : (x : Bool) → has_run t k ≡ x → x ≡ false
      go true e = clash (has_run u k) (ran_stays a k (b.slot k j) e) (b.had_not k j)
      go false e = refl

  pub then_executes : Executes t v (A ++ B)
  then_executes =
      record {
        once = once_both A B a.once b.once apart;
        slot = λ k i. ⊎_elim (a.slot k) (b.slot k) (has_either k A B i);
        in_table = λ k i. ⊎_elim (a.in_table k) (λ j. rw a.lens at (b.in_table k j)) (has_either k A B i);
        had_not = λ k i. ⊎_elim (a.had_not k) (had_not_run k) (has_either k A B i);
        has_now = λ k i. ⊎_elim
            (λ j. b.others k (a.slot k j) (apart k j) ∙ a.has_now k j)
            (λ j. b.has_now k j ∙ ap executed (a.others k (b.slot k j) (λ i. apart k i j)))
            (has_either k A B i);
        others = λ k l n. b.others k l (λ j. n (has_right k A B j)) ∙ a.others k l (λ j. n (has_left k A B j));
        lens = b.lens ∙ a.lens;
      }

-- ---- attempts

pub attempt_executes : (t : Table) (at : Place) → table_fits t ≡ true → at.row < 7 → at.col < 32 → Executes t (attempt_on t at).table (written (answer_of t at) t at)
attempt_executes t at h row col =
    answer_cases t at (λ a. answer_of t at ≡ a → Executes t (attempt_on t at).table (written a t at))
    (λ _ e. nothing (λ d. absurd (omega (arith, ap number_of (sym e ∙ d)))))
    (λ _ _ d. record {
      once = (done_paper t at h row col d).once;
      slot = λ k i. reached_slot t at h row col k ((done_has t at h row col d k).0 i).0;
      in_table = λ k i. held t at h row col d k ((done_has t at h row col d k).0 i).0;
      had_not = λ k i. ((done_has t at h row col d k).0 i).1;
      has_now = λ k i. let r = (done_has t at h row col d k).0 i in done_ran t at h row col d k r.0 r.1;
      others = λ k l n. done_others t at h row col d k l (λ r. n ((done_has t at h row col d k).1 r));
      lens = (attempt_only_slots t at).lens;
    })
    (λ _ _ e. nothing (λ d. absurd (omega (arith, ap number_of (sym e ∙ d)))))
    refl
  where
    nothing : (answer_of t at ≡ Done → ⊥) → Executes t (attempt_on t at).table []
    nothing n = rw (others_nothing t at h row col n).0 (none_executes t)

pub attempts_execute : (t : Table) (ps : List Place) → table_fits t ≡ true → InRows ps → Executes t (attempts_on t ps).table (attempts_on t ps).wrote
unfolding attempts_on
attempts_execute t [] h a = none_executes t
attempts_execute t (at ∷ ps) h a =
    then_executes (attempt_executes t at h a.0 a.1)
    (attempts_execute (attempt_on t at).table ps (attempt_keeps t at h a.0 a.1) a.2)

-- ---- the attempts, each on the table that the one before leaves

-- the table that an attempt finds, and the slot that it is on
pub record Try : Type 0 where
  pub table : Table
  pub at : Place

unfoldable pub tries_of : Table → List Place → List Try
tries_of t [] = []
tries_of t (at ∷ rest) = record { table = t; at = at } ∷ tries_of (attempt_on t at).table rest

abbrev pub written_by : Try → List ℕ
written_by a = written (answer_of a.table a.at) a.table a.at

-- they write on after each other
pub wrote_each : (t : Table) (ps : List Place) → (attempts_on t ps).wrote ≡ flat_map written_by (tries_of t ps)
unfolding attempts_on tries_of flat_map
wrote_each t [] = refl
wrote_each t (at ∷ ps) = ap (λ (x : List ℕ). written (answer_of t at) t at ++ x) (wrote_each (attempt_on t at).table ps)

-- ---- a slot logged Committed

risen_executes : (t : Table) (row bar : ℕ) {u : Table} {wrote : List ℕ} → Executes (with_bar t row bar) u wrote → Executes t u wrote
risen_executes t row bar w =
    record { once = w.once; slot = w.slot; in_table = w.in_table; had_not = w.had_not; has_now = w.has_now; others = w.others; lens = w.lens }

module _ (t : Table) (at : Place) where
  -- where the bar rises, what is written is what each of the attempts writes
  pub committed_writes : at.col ≡ bar_of t at.row → bar_of t at.row < risen_bar t at.row
      → (on_committed t at).wrote ≡ flat_map written_by (tries_of (risen_table t at.row) (attempted_below t at.row))
  unfolding on_committed on_risen
  committed_writes e l =
      rw (eq-eqb at.col (bar_of t at.row) e, lt-ltb (bar_of t at.row) (risen_bar t at.row) l)
      (wrote_each (risen_table t at.row) (attempted_below t at.row))

  -- else nothing is, and the table stays
  pub committed_nothing : (at.col ≡ bar_of t at.row → bar_of t at.row < risen_bar t at.row → ⊥) → ((on_committed t at).table ≡ t) × ((on_committed t at).wrote ≡ [])
  unfolding attempts_on
  committed_nothing n = committed_cases t at (λ a. (a.table ≡ t) × (a.wrote ≡ [])) (λ _. (refl, refl)) (λ e l. absurd (n e l))

module _ (t : Table) (at : Place) (h : table_fits t ≡ true) (l : at.row < 7) where
  abbrev risen : Table
  risen = risen_table t at.row

  fits : table_fits risen ≡ true
  fits = risen_keeps t at.row h l

  in_rows : bar_of t at.row < risen_bar t at.row → InRows (attempted_below t at.row)
  in_rows r = risen_in_rows t at.row h l r

  pub committed_executes : Executes t (on_committed t at).table (on_committed t at).wrote
  unfolding attempts_on on_risen
  committed_executes =
      committed_cases t at (λ a. Executes t a.table a.wrote)
      (λ _. none_executes t)
      (λ _ r. risen_executes t at.row (risen_bar t at.row) (attempts_execute risen (attempted_below t at.row) fits (in_rows r)))

  -- no more than a list of 224 entries holds
  committed_room : length (on_committed t at).wrote ≤ 224
  unfolding attempts_on on_risen unrun
  committed_room =
      committed_cases t at (λ a. length a.wrote ≤ 224)
      (λ _. omega arith)
      (λ _ r. omega (arith, attempts_fall risen (attempted_below t at.row) fits (in_rows r), count_at_most (λ i. not (has_run risen i)) 224))

-- ---- an AcceptReply from myself runs nothing

put_runs_none : (t : Table) (at : Place) (s : Slot) → is_executed (slot_of t at) ≡ false → is_executed s ≡ false → (k : ℕ) → has_run (put_at t at s) k ≡ has_run t k
put_runs_none t at s old new k = ap (λ (b : Bool). is_held_no t k && b) same
  where
    same : is_executed (slot_no (put_at t at s) k) ≡ is_executed (slot_no t k)
    same = elim (ℕ_discrete k (index_of at)) [
      | no n ↦ ap is_executed (put_elsewhere t at s k n)
      | yes e ↦ ⊎_elim
          (λ x. ap is_executed x)
          (λ x. ap is_executed x ∙ new ∙ sym old ∙ ap (λ (i : ℕ). is_executed (slot_no t i)) (sym e))
          (put_either t at s k)
    ]

own_runs_none : (t : Table) (at : Place) (ballot k : ℕ) → has_run (own_reply t at ballot).table k ≡ has_run t k
unfolding own_reply
own_runs_none t at ballot k =
    reply_cases Says t m (λ _. refl) (λ _ _. refl)
    (λ _ _ e. let accepting = (heeds_each (slot_of t at) m e).accepting in
    let old : is_executed (slot_of t at) ≡ false = rw accepting in
    mark_cases Says t at (slot_marked t m) (λ _. put_runs_none t at (slot_marked t m) old old k) (λ _. put_runs_none t at (committed (slot_marked t m)) old refl k))
  where
    m : Message
    m = my_reply t at ballot

    Says : Handled → Type 0
    Says h = has_run (outcome_of t h).table k ≡ has_run t k

-- ---- a log event

-- these slots ran, each once and for the first time, and no others, whatever else has changed
pub record RanNow (t u : Table) (wrote : List ℕ) : Type 0 where
  pub once : Once wrote
  pub entry : (k : ℕ) → Has k wrote → (has_run t k ≡ false) × (has_run u k ≡ true)
  pub exactly : (k : ℕ) → k < 224 → (has_run u k ≡ true) ↔ ((has_run t k ≡ true) ⊎ Has k wrote)

pub executes_ran : {t u : Table} {wrote : List ℕ} → Executes t u wrote → RanNow t u wrote
executes_ran w = record { once = w.once; entry = entry_ran w; exactly = ran_exactly w }

none_ran : (t u : Table) → ((k : ℕ) → has_run u k ≡ has_run t k) → RanNow t u []
none_ran t u same =
    record {
      once = none;
      entry = λ k i. absurd (has_none k i);
      exactly = λ k l. (λ h. inl (sym (same k) ∙ h), ⊎_elim (λ h. same k ∙ h) (λ i. absurd (has_none k i)));
    }

module _ (t : Table) (at : Place) (entries : ℕ) where
  -- only what is logged Committed runs anything
  pub others_run_none : (status : LogStatus) → (status ≡ Committed → ⊥) → (k : ℕ) → has_run (logged_of t at status entries).outcome.table k ≡ has_run t k
  others_run_none status n k =
      table_cases t at entries status (λ u. has_run u k ≡ has_run t k) refl (λ _ _. own_runs_none t at _ k) (λ s _. absurd (n s))

  -- what an event that is not refused runs is what it writes
  pub logged_ran : (status : LogStatus) → logged_refusal t at entries ≡ 0 → RanNow t (logged_of t at status entries).outcome.table (entries_on status t at)
  unfolding logged_on
  logged_ran PreAccepting e = none_ran t _ (others_run_none PreAccepting (λ q. omega (arith, ap status_number q)))
  logged_ran Accepting e = none_ran t _ (others_run_none Accepting (λ q. omega (arith, ap status_number q)))
  logged_ran Committed e =
      let p = (logged_logged t at entries e).1.placed in
      logged_cases t at entries Committed (λ r. RanNow t r.outcome.table (on_committed t at).wrote)
      (λ l. absurd (omega arith))
      (λ _. executes_ran (committed_executes t at p.within (placed_row p)))

-- ---- the order list

-- past what is set a list stays
sets_later : (vs l : List ℕ) (from i : ℕ) → from + length vs ≤ i → get_or (sets l from vs) i 0 ≡ get_or l i 0
sets_later [] l from i h = refl
sets_later (v ∷ vs) l from i h = sets_later vs (set l from v) (suc from) i (omega arith) ∙ get_or-set_other l from i v 0 (λ e. omega arith)

module _ (t : Table) (at : Place) (status : LogStatus) (list : List ℕ) where
  -- as many slots run as are written
  pub logged_number : logged_refusal t at (length list) ≡ 0 → (logged_of t at status (length list)).ran ≡ length (entries_on status t at)
  unfolding logged_on
  logged_number e = logged_cases t at (length list) status (λ r. r.ran ≡ length (entries_on status t at)) (λ l. absurd (omega arith)) (λ _. refl)

  entries_room : Led t at → (s : LogStatus) → length (entries_on s t at) ≤ 224
  entries_room led PreAccepting = omega arith
  entries_room led Accepting = omega arith
  entries_room led Committed = committed_room t at led.placed.within (placed_row led.placed)

  -- they stand in the list from its first entry on
  pub logged_list : logged_refusal t at (length list) ≡ 0 → logged_order t at status list ≡ entries_on status t at ++ drop (length (entries_on status t at)) list
  unfolding order_on
  logged_list e =
      order_cases t at status list (λ r. r ≡ entries_on status t at ++ drop (length (entries_on status t at)) list)
      (λ l. absurd (omega arith))
      (λ _. let w = logged_logged t at (length list) e in
      let room = entries_room w.1 status in
      rw zero-add at (sets-eq (entries_on status t at) list 0 (omega (arith, w.0))))

  -- and later entries keep their values, refused or not
  pub later_entries : (i : ℕ) → (logged_of t at status (length list)).ran ≤ i → get_or (logged_order t at status list) i 0 ≡ get_or list i 0
  unfolding order_on
  later_entries i l =
      order_cases t at status list (λ r. get_or r i 0 ≡ get_or list i 0)
      (λ _. refl)
      (λ e. sets_later (entries_on status t at) list 0 i (omega (arith, logged_number e)))
