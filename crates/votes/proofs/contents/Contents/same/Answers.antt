-- `votes::contents::Contents::same` meets its contract: sequence, dependencies and batch, each by its own test.
use mathlib.Core.Path.{sym, ◌∙◌}
use borrow.Author.Tests.{eq-eqb, ne_eqb}
use Rattle.votes.specs.Contents.{same_contents}
use Rattle.votes.proofs.contents.Contents.same.Goals as goal
use Rattle.votes.proofs.contents.Contents.same.Goals.{then-self-other, else-self-other}

pub returns-then-same : goal.returns-then-same
unfolding same_contents
returns-then-same c =
    elim c.if-self-other.branch [
      | then-self-other w ↦ rw (eq-eqb _ _ w.if-self-other.true, sym w.same.ensures ∙ sym w.value-is ∙ c.if-same.true) c.same-then-same.ensures
      | else-self-other w ↦ let e = ne_eqb _ _ w.if-self-other.false in let f = sym w.value-is ∙ c.if-same.true in cc
    ]

pub returns-else-same : goal.returns-else-same
unfolding same_contents
returns-else-same c =
    elim c.if-self-other.branch [
      | then-self-other w ↦ rw (eq-eqb _ _ w.if-self-other.true, sym w.same.ensures ∙ sym w.value-is ∙ c.if-same.false) c.if-same.false
      | else-self-other w ↦ let e = ne_eqb _ _ w.if-self-other.false in rw e c.if-same.false
    ]
