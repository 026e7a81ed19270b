use Rattle.sums.proofs.descending.+descend.Given as goal

abbrev pub decreases-descend : goal.decreases-descend
decreases-descend l = l.height
