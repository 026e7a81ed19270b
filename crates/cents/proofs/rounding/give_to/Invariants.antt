use Rattle.cents.proofs.Serving.{Serving}
use Rattle.cents.proofs.rounding.give_to.Given as goal

abbrev pub invariant-loop-i : goal.invariant-loop-i
invariant-loop-i g l =
    Serving (g.P.Parted.parts l.shares) (g.P.Parted.items l.shares) l.most l.cents l.fn.more l.left l.i l.next l.more
