-- `table::table::Table::fill` meets its contract: null slots from the row's length up to the column.
use mathlib.Core.Path.{◌≡◌, ap, sym, ◌∙◌}
use mathlib.Core.List.{List}
use Prim.Native.Nat.{ℕ, suc, ◌+◌, ◌*◌, ◌-◌}
use native.Mathlib.Omega.{arith}
use native.Mathlib.Numerals.{add-one}
use lib.ListN.{length, get_or, set, replicate, length-take, length-drop}
use borrow.Author.Tests.{lt-ltb, le-ltb}
use borrow.Author.Rules.{rules}
use Rattle.base.proofs.Lists.{length_mapped}
use Rattle.slots.specs.Slot.{null_slot}
use Rattle.slots.specs.declared.slot.Slot.{Slot}
use Rattle.table.specs.Table.{with_slots, with_lens, nulls_to}
use Rattle.table.proofs.NullLaws.{nulls_mid}
use Rattle.table.proofs.table.Table.fill.Goals as goal

pub returns-then-at-len : goal.returns-then-at-len
unfolding nulls_to
returns-then-at-len c = simp (lt-ltb _ _ c.if-at-len.true)

pub returns : goal.returns
unfolding nulls_to
returns c =
    let t = c.args.self in
    let row = c.args.at.row in
    let col = c.args.at.col in
    let from = 32 * row + get_or t.lens row 0 in
    let l : length t.slots ≡ 224 = search (rules, length_mapped) in
    let k : from + (32 * row + col + 1 - from) ≡ 32 * row + suc col = omega arith in
    let many : length c.fill.new.self ≡ 32 * row + col + 1 - from = c.fill.ensures.len ∙ simp (length-take, length-drop) (omega arith) in
    let nulls = c.fill.ensures.after (λ y e. e) in
    ap (λ (slots : List Slot). with_lens (with_slots t slots) (set t.lens row (col + 1))) (nulls_mid t from (32 * row + col + 1 - from) (32 * row + suc col) c.fill.new.self l k (omega arith) (nulls ∙ ap (λ (n : ℕ). replicate n null_slot) (sym c.fill.ensures.len ∙ many)))
    ∙ sym (rw (le-ltb _ _ c.if-at-len.false) (rw (sym (add-one col))))
