-- The first feed is that of what is left.
use Rattle.std.proofs.Common.{◌≡◌, ◌+◌, drop}
use Rattle.auditing.specs.Texts.{feed_at}
use Rattle.auditing.proofs.lines.feed_at.Given as goal

abbrev pub invariant-loop-at : goal.invariant-loop-at
invariant-loop-at l = l.at + feed_at (drop l.at l.text) ≡ feed_at l.text
