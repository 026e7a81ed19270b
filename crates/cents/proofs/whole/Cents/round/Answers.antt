use Rattle.std.proofs.Common.{arith}
use Rattle.cents.proofs.Left.{few_left}
use Rattle.cents.proofs.whole.Cents.round.Goals as goal

pub divided-cents-requires-clause-fits : goal.divided-cents-requires-clause-fits
divided-cents-requires-clause-fits g c =
    rw (c.lacking-lacking.ensures.all, c.parts.ensures) (omega (arith, few_left (g.P.Parted.parts c.args.shares) (g.P.Parted.items c.args.shares) c.count.ensures.parted))
