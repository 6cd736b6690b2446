use Rattle.groups.proofs.numbers.+put_groups.Given as goal

abbrev pub decreases-put_groups : goal.decreases-put_groups
decreases-put_groups l = l.left
