use Rattle.std.proofs.Common.{◌≡◌, ◌++◌, take, drop}
use Rattle.shares.specs.Shares.{shares_of}
use Rattle.shares.proofs.written.Shares.write.Given as goal

abbrev pub invariant-loop-i : goal.invariant-loop-i
invariant-loop-i l = l.out ≡ take l.i (shares_of l.self) ++ drop l.i l.fn.out
