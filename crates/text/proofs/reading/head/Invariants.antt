-- What is left of the line is still to be read.
use Rattle.std.proofs.Common.{◌≡◌, None, drop}
use Rattle.text.specs.Read.{shares_from}
use Rattle.text.proofs.reading.head.Given as goal

abbrev pub invariant-loop-at : goal.invariant-loop-at
invariant-loop-at l =
    shares_from l.at l.begun (drop l.at l.line) ≡ shares_from 0 None l.line
