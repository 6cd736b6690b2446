-- An attempt, and attempts one after the other, are moves.
use mathlib.Core.Path.{◌≡◌, refl}
use mathlib.Core.List.{List, [], ◌∷◌}
use mathlib.Core.Logic.{◌⊎◌, inl, inr, ⊎_elim}
use mathlib.Core.Bool.{Bool, true, false, ◌&&◌}
use Prim.Native.Nat.{ℕ, ◌<◌}
use Rattle.base.specs.Marks.{marked}
use Rattle.base.specs.declared.answer.Answer.TheVariants.{Done}
use Rattle.slots.specs.Slot.{is_executed}
use Rattle.bounds.specs.Bounds.{table_fits}
use Rattle.table.specs.Place.{index_of}
use Rattle.table.specs.Table.{slot_no}
use Rattle.table.specs.declared.place.Place.{Place}
use Rattle.table.specs.declared.table.Table.{Table}
use Rattle.order.specs.Listed.{Has}
use Rattle.order.specs.Order.{order_of}
use Rattle.order.specs.Paper.{Paper}
use Rattle.order.proofs.ListLaws.{split}
use Rattle.attempts.specs.Reads.{is_held_no, has_run, deps_of, seqs_of}
use Rattle.attempts.specs.Attempt.{to_run, ran_with, written, table_after, answer_of, attempt_on}
use Rattle.attempts.proofs.RanLaws.{ran_marked, ran_others, ran_held, ran_deps, ran_seqs}
use Rattle.attempts.proofs.AttemptLaws.{answer_cases, reached_slot, held, done_exactly, done_has, done_paper, done_ties, attempt_keeps}
use Rattle.rising.specs.Attempts.{attempts_on}
use Rattle.rising.proofs.BarLaws.{attempt_only_slots}
use Rattle.rising.proofs.AttemptsLaws.{InRows}
use Rattle.steps.proofs.KeepLaws.{Sized, same_sized}
use Rattle.copies.specs.Copies.{Ran, Ordered}
use Rattle.copies.proofs.Moves.{Runs, runs, Moves, still, moves_one, moves_join}
use Rattle.copies.proofs.SettledLaws.{held_low}

module _ (t : Table) (at : Place) (sized : Sized t) (h : table_fits t ≡ true) (row : at.row < 7) (col : at.col < 32) where
  abbrev marks : List Bool
  marks = to_run t at

  abbrev wrote : List ℕ
  wrote = order_of (deps_of t) (seqs_of t) marks

  -- a slot that is held is marked or stays as it was
  after_slot : (i : ℕ) → is_held_no t i ≡ true → (marked marks i ≡ true) ⊎ (slot_no (ran_with t marks) i ≡ slot_no t i)
  after_slot i e = ⊎_elim inl (λ off. inr (ran_others t marks i (held_low sized i e) off)) (split (marked marks i))

  module _ (waits : has_run t (index_of at) ≡ false) (done : answer_of t at ≡ Done) where
    abbrev p : Paper (deps_of t) (seqs_of t) marks wrote
    p = done_paper t at h row col done

    in_order : Ordered t wrote
    in_order = record {
      inner = λ i j m k mates. ⊎_elim
          (p.inside i j (p.only i m) (p.only j k) mates)
          (λ w. (done_ties t at h row col done).equal i j (p.only i m) (p.only j k) mates w.0 w.1);
      outer = λ i j m k. p.after i j (p.only i m) (p.only j k);
      together = p.together;
    }

    now_run : (i : ℕ) → Has i wrote → Ran (ran_with t marks) i
    now_run i m =
        let l = ((done_has t at h row col done i).0 m).0 in
        rw (ran_held t marks i, held t at h row col done i l, ran_marked t marks i (reached_slot t at h row col i l) (p.only i m))

    others_stay : (i : ℕ) → (Has i wrote → ⊥) → has_run (ran_with t marks) i ≡ has_run t i
    others_stay i n = rw (ran_held t marks i) (go (is_held_no t i) refl)
      where
        go : (b : Bool) → is_held_no t i ≡ b → (b && is_executed (slot_no (ran_with t marks) i)) ≡ (b && is_executed (slot_no t i))
        go false e = refl
        go true e = ⊎_elim (λ on. absurd (n (p.all i on))) (λ same. rw same refl) (after_slot i e)

    pub attempt_runs : Runs t (index_of at) wrote (ran_with t marks)
    unfolding ran_with
    attempt_runs = record {
      ready = (done_exactly t at h row col waits).0 done;
      only = λ i. (done_has t at h row col done i).0;
      whole = λ i l n. (done_has t at h row col done i).1 (l, n);
      once = p.once;
      ordered = in_order;
      marked = now_run;
      others = others_stay;
      deps = ran_deps t marks;
      seqs = ran_seqs t marks;
      bars = λ r. refl;
    }

  pub attempt_moves : Moves t (written (answer_of t at) t at) (attempt_on t at).table
  unfolding attempt_on
  attempt_moves =
      answer_cases t at (λ a. answer_of t at ≡ a → Moves t (written a t at) (table_after a t at))
      (λ _ _. still)
      (λ waits _ done. moves_one (runs (index_of at) (attempt_runs waits done)))
      (λ _ _ _. still)
      refl

pub attempts_moves : (t : Table) (places : List Place) → Sized t → table_fits t ≡ true → InRows places → Moves t (attempts_on t places).wrote (attempts_on t places).table
unfolding attempts_on
attempts_moves t [] s h p = still
attempts_moves t (at ∷ places) s h p =
    let u = (attempt_on t at).table in
    let only = attempt_only_slots t at in
    moves_join (attempt_moves t at s h p.0 p.1) (attempts_moves u places (same_sized t u only.lens only.keys s) (attempt_keeps t at h p.0 p.1) p.2)
