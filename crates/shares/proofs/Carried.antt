-- The theorems that contracts carry, a set for each function that carries some. Assumes nothing.
use Rattle.shares.proofs.Divided.{shares_divide, shares_fit, shares_pass}
use Rattle.shares.proofs.EachTwo.{accepts_divisions, only_divisions, nobody_above, one_verdict}

pub ruleset write = (shares_divide, shares_fit)

pub ruleset check = (shares_pass, accepts_divisions, only_divisions, nobody_above, one_verdict)
