use Rattle.cents.proofs.Splitting.{halved}
use Rattle.cents.proofs.split.filled_up_to.Goals as goal

pub returns : goal.returns
returns c =
    halved c.args.m c.args.n c.args.d c.from.result c.requires.some c.requires.double c.from.ensures
