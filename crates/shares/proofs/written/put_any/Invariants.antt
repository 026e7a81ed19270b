use Rattle.std.proofs.Common.{◌≡◌, ◌*◌, ◌++◌, take, drop}
use Rattle.std.specs.List.{flat_map}
use Rattle.wire.specs.Bytes.{eight}
use Rattle.shares.specs.Shares.{shares_on}
use Rattle.shares.proofs.written.put_any.Given as goal

abbrev pub invariant-loop-i : goal.invariant-loop-i
invariant-loop-i l = l.out ≡ flat_map eight (take l.i (shares_on l.terms l.claims)) ++ drop (8 * l.i) l.fn.out
