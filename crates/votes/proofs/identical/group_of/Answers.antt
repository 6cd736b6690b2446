-- `votes::identical::group_of` meets its contract: those equal so far are counted and no longer left.
use mathlib.Core.Path.{◌≡◌, refl, ap, sym, ◌∙◌}
use mathlib.Core.List.{List}
use mathlib.Core.Bool.{Bool, true, false}
use native.Mathlib.Omega.{arith}
use lib.ListN.{length, set}
use borrow.Author.Rules.{rules}
use Rattle.base.proofs.Loops.{mix_all, length_below, count_none, count_in, count_out}
use Rattle.votes.specs.Identical.{equal_to}
use Rattle.votes.proofs.IdenticalLaws.{others, test_is, taken_away, left_there}
use Rattle.votes.proofs.identical.group_of.Goals as goal
use Rattle.votes.proofs.identical.group_of.Goals.{then-left-q+then-same, else-left-q, else-left-q-via-then-left-q+else-same, else-left-q-via-else-left-q}

pub loop-q-init : goal.loop-q-init
loop-q-init c =
    let l : length c.args.left ≡ 7 = search rules in
    (search rules, search rules, l, refl, count_none _)

pub loop-q-preserved : goal.loop-q-preserved
loop-q-preserved c =
    let a = c.args in
    let i = c.loop-q.invariant in
    let q = c.loop-q.q in
    let h = c.loop-q-test.true in
    let e = test_is a.entries a.left i.2 a.r c.loop-q.left q h i.3 in
    elim c.if-left-q.branch [
      | then-left-q+then-same t ↦
          let y : equal_to a.entries a.left a.r q ≡ true = sym e ∙ rw t.if-left-q.true (sym t.same.ensures ∙ t.if-same.true) in
          (omega arith, omega (arith, t.count-is), i.2, t.left-is ∙ ap (λ (x : List Bool). set x q false) i.3 ∙ taken_away a.entries a.left i.2 a.r q h y, t.count-is ∙ count_in _ _ _ y i.4)
      | else-left-q t ↦
          let n : equal_to a.entries a.left a.r q ≡ false =
          elim t.else-left-q.branch [
            | else-left-q-via-then-left-q+else-same w ↦ sym e ∙ rw w.if-left-q.true (sym w.same.ensures ∙ w.if-same.false)
            | else-left-q-via-else-left-q w ↦ sym e ∙ rw w.if-left-q.false
          ] in
          (omega arith, omega (arith, t.count-is), i.2, t.left-is ∙ i.3 ∙ left_there a.entries a.left i.2 a.r q h n, t.count-is ∙ count_out _ _ _ n i.4)
    ]

pub returns : goal.returns
returns c =
    let a = c.args in
    let i = c.loop-q.invariant in
    let e : c.loop-q.q ≡ 7 = omega arith in
    rw (i.3, i.4, e, mix_all (others a.entries a.left i.2 a.r) a.left (length_below 7 _ ∙ sym i.2) 7 (omega arith))
