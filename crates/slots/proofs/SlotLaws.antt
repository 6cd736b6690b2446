-- A slot within the bounds, exactly when, and every method keeps it so.
use mathlib.Core.Path.{◌≡◌, refl, sym, ◌∙◌}
use mathlib.Core.Bool.{Bool, true, false, true≢false}
use Prim.Native.Nat.{ℕ, ◌<◌, ◌≤◌}
use native.Mathlib.Omega.{arith}
use borrow.Author.Tests.{le-leb, leb-true, eqb-true, eqb-false}
use lib.Dec.{eqb}
use lib.ListN.{set, replicate}
use lib.Seq.{get_or-set_other}
use Rattle.base.specs.Below.{all_below}
use Rattle.base.specs.Marks.{marked, marks_fit}
use Rattle.base.specs.declared.status.Status.{Status}
use Rattle.base.specs.declared.status.Status.TheVariants.{Committed}
use Rattle.base.proofs.Lists.{replicate_at}
use Rattle.base.proofs.Loops.{both_true}
use Rattle.base.proofs.MarkLaws.{marks_fit_each, each_marks_fit}
use Rattle.deps.specs.Sets.{set_fits}
use Rattle.deps.specs.Batches.{batch_fits}
use Rattle.deps.specs.declared.sets.DepSet.{DepSet}
use Rattle.deps.specs.declared.batches.Batch.{Batch}
use Rattle.deps.proofs.SetLaws.{empty_fits}
use Rattle.slots.specs.Slot.{null_slot, stored_with, heard_from, leading, with_mark, committed, slot_fits}
use Rattle.slots.specs.declared.slot.Slot.{Slot}

pub record SlotWithin (n : ℕ) (s : Slot) : Type 0 where
  pub source_fits : s.source ≤ n
  pub deps_fit : set_fits n s.deps ≡ true
  pub batch_fits : batch_fits s.batch ≡ true
  pub marks_fit : marks_fit n s.marks ≡ true

pub slot_fits_each : (n : ℕ) (s : Slot) → slot_fits n s ≡ true → SlotWithin n s
unfolding slot_fits
slot_fits_each n s h =
    let a = both_true _ _ h in
    let b = both_true _ _ a.1 in
    let d = both_true _ _ b.1 in
    record { source_fits = leb-true _ _ a.0; deps_fit = b.0; batch_fits = d.0; marks_fit = d.1 }

pub each_slot_fits : (n : ℕ) (s : Slot) → SlotWithin n s → slot_fits n s ≡ true
unfolding slot_fits
each_slot_fits n s w = rw (le-leb _ _ w.source_fits, w.deps_fit, w.batch_fits, w.marks_fit)

no_marks_fit : (n : ℕ) → marks_fit n (replicate 7 false) ≡ true
no_marks_fit n = each_marks_fit n (replicate 7 false) (λ r l m. absurd (true≢false (sym m ∙ replicate_at 7 r false)))

pub null_fits : (n : ℕ) → slot_fits n null_slot ≡ true
unfolding batch_fits all_below
null_fits n =
    each_slot_fits n null_slot (record { source_fits = omega arith; deps_fit = empty_fits n; batch_fits = refl; marks_fit = no_marks_fit n })

-- what is done to a slot keeps it so

module _ (n : ℕ) (s : Slot) (h : slot_fits n s ≡ true) where
  pub stored_slot_fits : (ballot : ℕ) (status : Status) (seq : ℕ) (deps : DepSet) (batch : Batch)
      → set_fits n deps ≡ true → batch_fits batch ≡ true → slot_fits n (stored_with s ballot status seq deps batch) ≡ true
  stored_slot_fits ballot status seq deps batch f g =
      let w = slot_fits_each n s h in
      each_slot_fits n (stored_with s ballot status seq deps batch)
      (record { source_fits = w.source_fits; deps_fit = f; batch_fits = g; marks_fit = w.marks_fit })

  pub heard_fits : (peer : ℕ) → peer < n → slot_fits n (heard_from s peer) ≡ true
  heard_fits peer l =
      let w = slot_fits_each n s h in
      each_slot_fits n (heard_from s peer)
      (record { source_fits = l; deps_fit = w.deps_fit; batch_fits = w.batch_fits; marks_fit = w.marks_fit })

  pub led_fits : slot_fits n (leading s) ≡ true
  led_fits =
      let w = slot_fits_each n s h in
      each_slot_fits n (leading s)
      (record { source_fits = w.source_fits; deps_fit = w.deps_fit; batch_fits = w.batch_fits; marks_fit = no_marks_fit n })

  pub marked_fits : (peer : ℕ) → peer < n → slot_fits n (with_mark s peer) ≡ true
  marked_fits peer l =
      let w = slot_fits_each n s h in
      each_slot_fits n (with_mark s peer)
      (record {
        source_fits = w.source_fits;
        deps_fit = w.deps_fit;
        batch_fits = w.batch_fits;
        marks_fit = each_marks_fit n (set s.marks peer true) (λ r i m. go w.marks_fit r i m (eqb r peer) refl);
      })
    where
      go : marks_fit n s.marks ≡ true → (r : ℕ) → r < 7 → marked (set s.marks peer true) r ≡ true → (b : Bool) → eqb r peer ≡ b → r < n
      go f r i m true e = rw (eqb-true r peer e) l
      go f r i m false e = marks_fit_each n s.marks f r i (sym (get_or-set_other s.marks peer r true false (eqb-false r peer e)) ∙ m)

  pub committed_fits : slot_fits n (committed s) ≡ true
  committed_fits =
      let w = slot_fits_each n s h in
      stored_slot_fits s.ballot Committed s.seq s.deps s.batch w.deps_fit w.batch_fits
