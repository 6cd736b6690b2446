-- `attempts::waiting::run` meets its contract: the marked slots up to i are Executed so far.
use mathlib.Core.Path.{◌≡◌, ap, ◌∙◌}
use native.Mathlib.Omega.{arith}
use lib.ListN.{length, set}
use borrow.Author.Rules.{rules}
use Rattle.base.proofs.Lists.{length_mapped}
use Rattle.slots.specs.Slot.{executed}
use Rattle.table.specs.Table.{slot_no, with_slots}
use Rattle.table.specs.declared.table.Table.{Table}
use Rattle.attempts.proofs.FillLaws.{ran_next, ran_marked, ran_kept, ran_all, ran_table}
use Rattle.attempts.proofs.waiting.run.Goals as goal
use Rattle.attempts.proofs.waiting.run.Goals.{else-marked, then-marked}

pub loop-i-preserved : goal.loop-i-preserved
loop-i-preserved c =
    let l = c.loop-i in
    let a = c.args in
    let as-was : (e : length a.table.slots ≡ 224) → slot_no l.out l.i ≡ slot_no a.table l.i = λ e. ap (λ (x : Table). slot_no x l.i) (l.invariant e) ∙ ran_next a.table a.marks e l.i (omega arith) in
    λ e. elim c.if-marked.branch [
      | then-marked w ↦ w.out-is ∙ ap (λ (x : Table). with_slots x (set x.slots l.i w.run.result)) (l.invariant e) ∙ ap (with_slots a.table) (ran_marked a.table a.marks e l.i w.run.result (omega arith) w.if-marked.true (w.run.ensures ∙ ap executed (as-was e)))
      | else-marked w ↦ w.out-is ∙ l.invariant e ∙ ap (with_slots a.table) (ran_kept a.table a.marks e l.i (omega arith) w.if-marked.false)
    ]

pub returns : goal.returns
returns c =
    let a = c.args in
    let l : length a.table.slots ≡ 224 = search (rules, length_mapped) in
    c.loop-i.invariant l ∙ ap (with_slots a.table) (ran_all a.table a.marks l c.loop-i.i (omega arith)) ∙ ran_table a.table a.marks l
