use Rattle.std.proofs.Common.{◌==◌, ap, arith}
use Rattle.cents.specs.Marks.{is_marked}
use Rattle.cents.proofs.Marking.{other_marked}
use Rattle.cents.proofs.bits.Marks.mark.Goals as goal

pub returns-clause-others : goal.returns-clause-others
unfolding is_marked
returns-clause-others c =
    λ k h. ap (λ n. n == 1) (other_marked c.args.self.now.words c.args.i c.from.result (omega arith) c.args.also c.from.ensures k h)
