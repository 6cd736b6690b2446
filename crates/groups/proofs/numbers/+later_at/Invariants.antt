use Rattle.groups.proofs.numbers.+later_at.Given as goal

abbrev pub decreases-later_at : goal.decreases-later_at
decreases-later_at l = l.left
