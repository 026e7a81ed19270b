-- What is left of the line is still to be read.
use Rattle.std.proofs.Common.{◌≡◌, None, [], drop}
use Rattle.text.specs.Read.{numbers_from}
use Rattle.text.proofs.reading.numbers_from.Given as goal

abbrev pub invariant-loop-at : goal.invariant-loop-at
invariant-loop-at l =
    numbers_from l.at l.whole.items l.begun (drop l.at l.line) ≡ numbers_from l.start [] None (drop l.start l.line)
