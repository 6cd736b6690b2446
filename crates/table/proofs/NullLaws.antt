-- Null slots added one after the other, and as one.
use mathlib.Core.Path.{◌≡◌, refl, ap, sym, ◌∙◌}
use mathlib.Core.List.{List}
use mathlib.Core.Bool.{Bool, true, false}
use mathlib.Core.Logic.{⊎_elim}
use Prim.Native.Nat.{ℕ, zero, suc, ◌+◌, ◌≤◌, ◌<◌}
use native.Mathlib.Omega.{arith}
use borrow.Author.Tests.{eqb-true, eqb-false}
use lib.Dec.{eqb}
use lib.ListN.{length, get_or, set, replicate, length-set, length-replicate}
use lib.Seq.{ext_get_or, get_or-set_same, get_or-set_other, paste}
use borrow.Rule.Slice.PartMut.{put_mid}
use Rattle.std.proofs.lemmas.List.Edits.{paste_none, fill_from_more}
use Rattle.std.proofs.lemmas.Slice.{put_mid-paste}
use Rattle.base.proofs.Loops.{length_below}
use Rattle.slots.specs.Slot.{null_slot, blank_slot}
use Rattle.table.specs.Table.{null_in, nulls_in}
use Rattle.slots.specs.declared.slot.Slot.{Slot}
use Rattle.table.specs.declared.table.Table.{Table}
use Rattle.table.proofs.SlotReads.{null_between, kept_outside, null_or_kept}

pub length_nulls : (t : Table) (a b : ℕ) → length (nulls_in t a b) ≡ 224
unfolding nulls_in
length_nulls t a b = length_below 224 (null_in t a b)

-- none yet
pub nulls_none : (t : Table) (a : ℕ) → length t.slots ≡ 224 → nulls_in t a a ≡ t.slots
nulls_none t a e =
    ext_get_or blank_slot (nulls_in t a a) t.slots (length_nulls t a a ∙ sym e)
    (λ i l. kept_outside t a a i (λ p q. omega (arith, p, q)) (omega (arith, length_nulls t a a)))

-- one more
abbrev longer : Table → ℕ → ℕ → List Slot
longer t a b = set (nulls_in t a b) b null_slot

pub nulls_more : (t : Table) (a b : ℕ) → a ≤ b → b < 224 → longer t a b ≡ nulls_in t a (suc b)
nulls_more t a b l m =
    ext_get_or blank_slot (longer t a b) (nulls_in t a (suc b)) (long ∙ sym (length_nulls t a (suc b))) (λ i h. at i (omega (arith, long)) (eqb i b) refl)
  where
    long : length (longer t a b) ≡ 224
    long = length-set (nulls_in t a b) b null_slot ∙ length_nulls t a b

    at : (i : ℕ) → i < 224 → (e : Bool) → eqb i b ≡ e → get_or (longer t a b) i blank_slot ≡ get_or (nulls_in t a (suc b)) i blank_slot
    at i k true e =
        rw (eqb-true i b e) (get_or-set_same (nulls_in t a b) b null_slot blank_slot (omega (arith, length_nulls t a b)) ∙ sym (null_between t a (suc b) b l (omega arith) m))
    at i k false e =
        let other = get_or-set_other (nulls_in t a b) b i null_slot blank_slot (eqb-false i b e) in
        ⊎_elim
        (λ n. other ∙ n.2 ∙ sym (null_between t a (suc b) i n.0 (omega (arith, n.1)) k))
        (λ n. other ∙ n.1 ∙ sym (kept_outside t a (suc b) i (λ p q. n.0 p (omega (arith, q, eqb-false i b e))) k))
        (null_or_kept t a b i k)

-- as many as there are from one index up to another
nulls_paste : (t : Table) (a i : ℕ) → length t.slots ≡ 224 → a + i ≤ 224 → paste t.slots a (replicate i null_slot) i ≡ nulls_in t a (a + i)
nulls_paste t a zero e l =
    let z : a ≡ a + zero = omega arith in
    sym (paste_none t.slots a (replicate 0 null_slot)) ∙ sym (nulls_none t a e) ∙ ap (nulls_in t a) z
nulls_paste t a (suc i) e l =
    let z : i + 1 ≡ suc i = omega arith in
    let s : suc (a + i) ≡ a + suc i = omega arith in
    let f = fill_from_more t.slots a i null_slot (omega (arith, e)) in
    sym (rw z at f)
    ∙ ap (λ (x : List Slot). set x (a + i) null_slot) (nulls_paste t a i e (omega arith))
    ∙ nulls_more t a (a + i) (omega arith) (omega arith)
    ∙ ap (nulls_in t a) s

pub nulls_mid : (t : Table) (a k b : ℕ) (new : List Slot) → length t.slots ≡ 224 → a + k ≡ b → b ≤ 224 → new ≡ replicate k null_slot → put_mid a k t.slots new ≡ nulls_in t a b
nulls_mid t a k b new e z l h =
    put_mid-paste a k t.slots new (replicate k null_slot) k h refl (sym (length-replicate k null_slot)) ∙ nulls_paste t a k e (omega arith) ∙ ap (nulls_in t a) z
