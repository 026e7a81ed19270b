use Rattle.std.proofs.Common.{◌≡◌, length}
use Rattle.estate.specs.Level.{fill}
use Rattle.level.proofs.filling.fill.Given as goal

abbrev pub invariant-loop-claim : goal.invariant-loop-claim
invariant-loop-claim l = fill l.left l.rest ≡ fill l.target l.claims

abbrev pub decreases-loop-claim : goal.decreases-loop-claim
decreases-loop-claim l = length l.rest
