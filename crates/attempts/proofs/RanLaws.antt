-- The table after the marked slots have run.
use mathlib.Core.Path.{◌≡◌, refl, sym, ◌∙◌, subst}
use mathlib.Core.Bool.{Bool, true, false, cond}
use mathlib.Core.List.{List}
use Prim.Native.Nat.{ℕ, ◌/◌, ◌%◌, ◌<◌}
use native.Mathlib.Omega.{arith}
use lib.ListN.{length}
use Rattle.base.specs.Marks.{marked}
use Rattle.base.proofs.Loops.{length_below, below_at_lem, below_same}
use Rattle.slots.specs.Slot.{blank_slot, slot_fits, executed}
use Rattle.slots.specs.declared.slot.Slot.{Slot}
use Rattle.bounds.specs.Bounds.{table_fits}
use Rattle.table.specs.Table.{slot_no}
use Rattle.table.specs.declared.table.Table.{Table}
use Rattle.bounds.proofs.BoundLaws.{table_fits_each, each_table_fits}
use Rattle.attempts.specs.Reads.{is_held_no, dep_of_no, deps_of, seqs_of}
use Rattle.attempts.specs.Attempt.{ran_no, ran_with}

module _ (t : Table) (marks : List Bool) where
  ran_slot : (i : ℕ) → i < 224 → slot_no (ran_with t marks) i ≡ ran_no t marks i
  unfolding ran_with
  ran_slot i l = below_at_lem 224 (ran_no t marks) i blank_slot l

  pub ran_marked : (i : ℕ) → i < 224 → marked marks i ≡ true → slot_no (ran_with t marks) i ≡ executed (slot_no t i)
  ran_marked i l h = ran_slot i l ∙ rw h

  pub ran_others : (i : ℕ) → i < 224 → marked marks i ≡ false → slot_no (ran_with t marks) i ≡ slot_no t i
  ran_others i l h = ran_slot i l ∙ rw h

  -- it is as long, and stays within the bounds
  pub ran_length : length (ran_with t marks).slots ≡ 224
  unfolding ran_with
  ran_length = length_below 224 (ran_no t marks)

  -- what holds of a slot before and of it Executed holds after
  ran_still : (P : Slot → Type 0) (i : ℕ) → i < 224 → P (slot_no t i) → P (executed (slot_no t i)) → P (slot_no (ran_with t marks) i)
  ran_still P i l p q = subst P (sym (ran_slot i l)) (go (marked marks i))
    where
      go : (b : Bool) → P (cond b (executed (slot_no t i)) (slot_no t i))
      go true = q
      go false = p

  slot_keeps : (n i : ℕ) → i < 224 → slot_fits n (slot_no t i) ≡ true → slot_fits n (slot_no (ran_with t marks) i) ≡ true
  unfolding slot_fits
  slot_keeps n i l h = ran_still (λ s. slot_fits n s ≡ true) i l h h

  pub ran_keeps : table_fits t ≡ true → table_fits (ran_with t marks) ≡ true
  unfolding ran_with
  ran_keeps h =
      let w = table_fits_each t h in
      each_table_fits (ran_with t marks)
      (record {
        config_fits = w.config_fits;
        lens_fit = w.lens_fit;
        bars_fit = w.bars_fit;
        slots_fit = λ i l held. slot_keeps t.config.n i l (w.slots_fit i l held);
        keys_fit = w.keys_fit;
      })

  -- its lengths, bars, dependencies and sequences are those of before
  pub ran_held : (i : ℕ) → is_held_no (ran_with t marks) i ≡ is_held_no t i
  unfolding ran_with
  ran_held i = refl

  pub ran_deps : deps_of (ran_with t marks) ≡ deps_of t
  unfolding deps_of
  ran_deps =
      below_same 1568 (λ k. dep_of_no (ran_with t marks) (k / 7) (k % 7)) (λ k. dep_of_no t (k / 7) (k % 7))
      (λ k l. rw (ran_held (k / 7), ran_still (λ s. s.deps ≡ (slot_no t (k / 7)).deps) (k / 7) (omega arith) refl refl))

  pub ran_seqs : seqs_of (ran_with t marks) ≡ seqs_of t
  unfolding seqs_of
  ran_seqs = below_same 224 (λ i. (slot_no (ran_with t marks) i).seq) (λ i. (slot_no t i).seq) (λ i l. ran_still (λ s. s.seq ≡ (slot_no t i).seq) i l refl refl)
