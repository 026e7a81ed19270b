use Rattle.std.proofs.Common.{◌≡◌, ◌*◌, ◌++◌, take, drop}
use Rattle.std.specs.List.{flat_map}
use Rattle.wire.specs.Bytes.{eight}
use Rattle.cents.specs.Whole.{cents_of}
use Rattle.cents.proofs.whole.CentsNumbers.put.Given as goal

abbrev pub invariant-loop-i : goal.invariant-loop-i
invariant-loop-i g l =
    l.out ≡ flat_map eight (take l.i (cents_of g.P.Parted.parts g.P.Parted.items l.self)) ++ drop (8 * l.i) l.fn.out
