use Rattle.std.proofs.Common.{◌≡◌, sum, take}
use Rattle.level.specs.Words.{held}
use Rattle.level.proofs.facts.total.Given as goal

abbrev pub invariant-loop-claim : goal.invariant-loop-claim
invariant-loop-claim l = l.claimed ≡ held (sum (take l.claim-index l.claims))
