-- `votes::identical::count_identical` meets its contract: each group is counted at its first entry, and its others are skipped.
use mathlib.Core.Path.{◌≡◌, ap, ◌∙◌}
use mathlib.Core.Bool.{false}
use Prim.Native.Nat.{max}
use native.Mathlib.Omega.{arith}
use borrow.Author.Rules.{rules}
use Rattle.base.specs.Below.{list_below}
use Rattle.base.specs.Marks.{marked}
use Rattle.base.proofs.Loops.{greatest_none, greatest_more, below_at_lem}
use Rattle.votes.specs.Identical.{same_said, occurrences_in, first_enough, most_equals, other_than, occurrences}
use Rattle.votes.proofs.HolderLaws.{lowest_none, lowest_in, lowest_out}
use Rattle.votes.proofs.IdenticalLaws.{left_first, left_listed, left_times, left_without, still_left, still_most, still_first, sym_said, trans_said, enough_there, enough_not, counted_in}
use Rattle.votes.proofs.identical.count_identical.Goals as goal
use Rattle.votes.proofs.identical.count_identical.Goals.{then-left-r, else-left-r, then-enough-group, else-enough-group}

pub loop-r-init : goal.loop-r-init
loop-r-init c =
    let a = c.args in
    (search rules, λ q l. left_first (marked a.listed) (same_said a.entries) (sym_said a.entries) (trans_said a.entries) q, lowest_none _, greatest_none _)

pub loop-r-preserved : goal.loop-r-preserved
loop-r-preserved c =
    let l = c.args.listed in
    let e = c.args.entries in
    let r = c.loop-r.r in
    let m = c.loop-r.left in
    let i = c.loop-r.invariant in
    let h = c.loop-r-test.true in
    let sy = sym_said e in
    let tr = trans_said e in
    elim c.if-left-r.branch [
      | then-left-r t ↦
          let x = t.if-left-r.true in
          let y = left_listed (marked l) (same_said e) sy tr (marked m) r i.1 h x in
          let n : t.group_of-group.result.count ≡ occurrences e l r = ap (λ x. x.count) t.group_of-group.ensures ∙ left_times (marked l) (same_said e) sy tr (marked m) r i.1 h x in
          let g : t.max-most.result ≡ max c.loop-r.most t.group_of-group.result.count = search rules in
          let f : marked c.if-left-r.left ≡ marked (list_below 7 (other_than e m r)) = ap marked (t.left-is ∙ ap (λ x. x.left) t.group_of-group.ensures) in (
            omega arith,
            λ q k. ap (λ p. p q) f ∙ below_at_lem 7 (other_than e m r) q false k ∙ left_without (marked l) (same_said e) sy tr (marked m) r i.1 h x q k,
            t.first-is
                ∙ (elim t.if-enough-group.branch [
                  | then-enough-group u ↦ u.first-is ∙ u.or-first.ensures ∙ lowest_in _ r c.loop-r.first (enough_there e l r y _ n _ u.if-enough-group.true) i.2
                  | else-enough-group u ↦ u.first-is ∙ lowest_out _ r c.loop-r.first (enough_not e l r y _ n _ u.if-enough-group.false) i.2
                ]),
            t.most-is ∙ greatest_more (occurrences_in e l) r c.loop-r.most _ i.3 (g ∙ ap (max c.loop-r.most) (counted_in e l r y _ n)),
          )
      | else-left-r t ↦ (
        omega arith,
        λ q k. ap (λ x. marked x q) t.left-is ∙ still_left (marked l) (same_said e) sy tr (marked m) r i.1 h t.if-left-r.false q k,
        t.first-is ∙ still_first (marked l) (same_said e) sy tr (marked m) r i.1 h c.args.enough t.if-left-r.false c.loop-r.first i.2,
        t.most-is ∙ still_most (marked l) (same_said e) sy tr (marked m) r i.1 h t.if-left-r.false c.loop-r.most i.3,
      )
    ]

pub returns : goal.returns
unfolding first_enough most_equals
returns c =
    let i = c.loop-r.invariant in
    let e : c.loop-r.r ≡ 7 = omega arith in
    rw (i.2, i.3, e)
