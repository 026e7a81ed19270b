-- The lines that are counted are blank, and those of what is left are still to be looked at.
use Rattle.std.proofs.Common.{◌≡◌, ◌≤◌, drop}
use Rattle.auditing.specs.Texts.{blank_lines}
use Rattle.auditing.proofs.lines.blank_lines.Given as goal

abbrev pub invariant-loop-byte : goal.invariant-loop-byte
invariant-loop-byte l =
    (l.lines ≤ l.byte-index) × (blank_lines l.lines (drop l.byte-index l.text) ≡ blank_lines 0 l.text)
