use Rattle.std.proofs.Common.{◌≡◌, ◌++◌, take, drop}
use Rattle.cents.specs.Whole.{cents_of}
use Rattle.cents.proofs.whole.Cents.write.Given as goal

abbrev pub invariant-loop-i : goal.invariant-loop-i
invariant-loop-i g l =
    l.out ≡ take l.i (cents_of g.P.Parted.parts g.P.Parted.items l.self) ++ drop l.i l.fn.out
