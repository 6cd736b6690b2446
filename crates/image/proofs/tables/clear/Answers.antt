-- `image::tables::clear` meets its contract: the slots passed so far are written again, those to come are as they were.
use mathlib.Core.Path.{◌≡◌, refl, ap, sym, ◌∙◌}
use mathlib.Core.List.{List}
use Prim.Native.Nat.{ℕ, ◌<◌, ◌+◌, ◌*◌}
use native.Mathlib.Omega.{arith}
use lib.ListN.{length, get_or, drop}
use lib.Seq.{drop-drop}
use Rattle.base.proofs.Loops.{all_at}
use Rattle.slots.specs.Slot.{blank_slot}
use Rattle.slots.specs.declared.slot.Slot.{Slot}
use Rattle.layout.specs.Numbers.{lay}
use Rattle.layout.specs.Each.{each_bytes}
use Rattle.layout.proofs.Laying.{lay_length}
use Rattle.layout.proofs.EachLaws.{each_is, bytes_length, lay_turn}
use Rattle.layout.proofs.PlaceLaws.{drop_past}
use Rattle.slot_bytes.specs.Slot.{slot_at, slot_bytes, slot_known}
use Rattle.slot_bytes.proofs.SlotLaws.{slot_length}
use Rattle.image.specs.Tables.{slots_at, slot_in, slots_bytes, known_at, image_known}
use Rattle.image.proofs.AgainLaws.{table_again}
use borrow.Author.Rules.{rules}
use Rattle.image.proofs.tables.clear.Invariants.{written}
use Rattle.image.proofs.tables.clear.Goals as goal

written_length : (l : List ℕ) (i : ℕ) → length (written l i) ≡ 142 * i
written_length l i = bytes_length (slot_in (slots_at (drop 1810 l))) 142 (λ k. slot_length (get_or (slots_at (drop 1810 l)) k blank_slot)) i

-- a slot to come is as it was
to_come : (l m : List ℕ) (i : ℕ) → m ≡ lay l 1810 (written l i) → drop (1810 + 142 * i) m ≡ drop (1810 + 142 * i) l
to_come l m i e = ap (drop (1810 + 142 * i)) e ∙ drop_past l (written l i) 1810 (1810 + 142 * i) (omega (arith, written_length l i))

-- it is the slot of its number
slot_no : (l : List ℕ) (i : ℕ) → i < 224 → slot_at (drop (1810 + 142 * i) l) ≡ get_or (slots_at (drop 1810 l)) i blank_slot
unfolding slots_at
slot_no l i q = sym (each_is slot_at 142 224 i (drop 1810 l) blank_slot q ∙ ap slot_at (drop-drop (142 * i) 1810 l))

pub loop-i-init : goal.loop-i-init
unfolding each_bytes lay
loop-i-init c = (refl, refl)

pub clear_slot-requires-clause-out_value : goal.clear_slot-requires-clause-out_value
unfolding image_known
clear_slot-requires-clause-out_value c =
    let l = c.args.image.now in
    let i = c.loop-i.i in
    ap slot_known (to_come l c.loop-i.image i c.loop-i.invariant.1) ∙ all_at (known_at l) 224 c.requires.image_value i c.loop-i-test.true

pub loop-i-preserved : goal.loop-i-preserved
loop-i-preserved c =
    let l = c.args.image.now in
    let i = c.loop-i.i in
    let m = c.loop-i.image in
    let q = c.loop-i-test.true in
    let same = ap slot_at (to_come l m i c.loop-i.invariant.1) ∙ slot_no l i q in
    let f = c.clear_slot.ensures ∙ ap (λ (x : Slot). lay m (1810 + 142 * i) (slot_bytes x)) same in
    let e = lay_turn (slot_in (slots_at (drop 1810 l))) 142 (λ k. slot_length (get_or (slots_at (drop 1810 l)) k blank_slot)) _ _ _ 1810 i c.loop-i.invariant.1 f in
    (ap length e ∙ lay_length _ _ _, e)

pub returns : goal.returns
unfolding slots_bytes
returns c =
    let l = c.args.image.now in
    let e : c.loop-i.i ≡ 224 = omega arith in
    rw e at c.loop-i.invariant.1 ∙ table_again l (λ i. search rules) c.requires.image_len
