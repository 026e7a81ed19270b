use Rattle.std.proofs.Common.{◌≡◌, ◌/◌, ◌++◌, length}
use Rattle.wire.specs.Bytes.{numbers}
use Rattle.wire.proofs.rows.numbers_in.Given as goal

abbrev pub invariant-loop-eight : goal.invariant-loop-eight
invariant-loop-eight l = l.list.items ++ numbers (length l.rest / 8) l.rest ≡ numbers (length l.bytes / 8) l.bytes

abbrev pub decreases-loop-eight : goal.decreases-loop-eight
decreases-loop-eight l = length l.rest
