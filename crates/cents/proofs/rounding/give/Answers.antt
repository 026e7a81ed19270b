use Rattle.std.proofs.Common.{arith}
use Rattle.cents.specs.Marks.{is_marked}
use Rattle.cents.proofs.Giving.{nobody_lacks}
use Rattle.cents.proofs.rounding.give.Goals as goal

pub returns-else-most-gt0 : goal.returns-else-most-gt0
returns-else-most-gt0 g c =
    let d = g.P.Parted.parts c.args.shares.now in
    let xs = g.P.Parted.items c.args.shares.now in
    let none = nobody_lacks d xs c.requires.parted c.loop-left.left (is_marked c.loop-left.more) (λ k. omega (arith, c.loop-left.invariant.1 c.loop-left-test.true k, c.if-most-gt0.false)) in
    cc (none, c.loop-left.invariant.0)
