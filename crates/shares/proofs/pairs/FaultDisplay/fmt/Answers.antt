use Rattle.shares.proofs.pairs.FaultDisplay.fmt.Goals as goal

pub returns-in-Pair-clause-writes : goal.returns-in-Pair-clause-writes
returns-in-Pair-clause-writes g c = rw c.in-Pair.is c.write-in-Pair.ensures.writes
