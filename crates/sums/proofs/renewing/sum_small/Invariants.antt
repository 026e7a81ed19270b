use Rattle.sums.proofs.Written.{SmallTo}
use Rattle.sums.proofs.renewing.sum_small.Given as goal

abbrev pub invariant-loop-i : goal.invariant-loop-i
invariant-loop-i l = SmallTo l.i l.bits l.sum l.before l.claims l.sums
