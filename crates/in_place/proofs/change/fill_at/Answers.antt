-- `in_place::change::fill_at` meets its contract: the bytes are those of the table with the null slots so far, and then with the row's length.
-- null slots from one index up to another, in the bytes of every table that has these
use mathlib.Core.Path.{◌≡◌, refl, ap, sym, ◌∙◌}
use mathlib.Core.List.{List, [], ◌∷◌}
use Prim.Native.Nat.{ℕ, suc, ◌+◌, ◌*◌, min}
use native.Mathlib.Omega.{arith}
use lib.ListN.{length}
use Rattle.slots.specs.Slot.{null_slot}
use Rattle.slots.specs.declared.slot.Slot.{Slot}
use Rattle.table.specs.Table.{with_slots, nulls_in}
use Rattle.table.proofs.NullLaws.{nulls_none}
use Rattle.table.proofs.SlotReads.{nulls_reached}
use Rattle.layout.specs.Numbers.{byte_for, lay}
use Rattle.layout.proofs.Laying.{lay_length, lay_same}
use Rattle.slot_bytes.specs.Slot.{slot_bytes}
use Rattle.image.specs.Tables.{table_bytes}
use Rattle.in_place.proofs.ChangeLaws.{null_put, grown_put}
use borrow.Author.Rules.{rules}
use Rattle.in_place.proofs.change.fill_at.Goals as goal

pub returns-then-at-len : goal.returns-then-at-len
returns-then-at-len c =
    let a = c.args in
    λ t r n e b. b ∙ ap table_bytes (sym (nulls_reached t a.at (omega (arith, e, c.if-at-len.true))))

pub loop-col-init : goal.loop-col-init
loop-col-init c = (search rules, search rules, refl, λ t n e. e ∙ ap (λ (s : List Slot). table_bytes (with_slots t s)) (sym (nulls_none t _ n)))

pub loop-col-preserved : goal.loop-col-preserved
loop-col-preserved c =
    let a = c.args in
    let from = 32 * a.at.row + a.len in
    let to = 32 * a.at.row + c.loop-col.col in
    let p = rw c.slot_start.ensures at c.put_slot.ensures in (
      search rules,
      search rules,
      ap length p ∙ lay_length _ _ _ ∙ c.loop-col.invariant.2,
      λ t n e.
          p ∙ ap (λ (x : List ℕ). lay x (1810 + 142 * to) (slot_bytes null_slot)) (c.loop-col.invariant.3 t n e)
          ∙ null_put t from to (omega (arith, c.loop-col.invariant.0)) (omega arith)
          ∙ ap (λ (k : ℕ). table_bytes (with_slots t (nulls_in t from k))) (omega arith),
    )

pub returns : goal.returns
returns c =
    let a = c.args in
    let row = a.at.row in
    let col : c.loop-col.col ≡ suc a.at.col = omega arith in
    let one : a.at.col + 1 ≡ suc a.at.col = omega arith in
    let p = lay_same (λ b. b ∷ []) _ _ (4 + row) c.put_byte.ensures (c.byte.ensures ∙ ap (λ (v : ℕ). min v 255) one) in
    λ t r n e q.
    p ∙ ap (λ (x : List ℕ). lay x (4 + row) (byte_for (suc a.at.col))) (c.loop-col.invariant.3 t n q ∙ ap (λ (k : ℕ). table_bytes (with_slots t (nulls_in t (32 * row + a.len) (32 * row + k)))) col)
    ∙ grown_put t a.at a.len r c.requires.row_bound e c.if-at-len.false
