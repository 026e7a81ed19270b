use Rattle.std.proofs.Common.{◌+◌, ◌-◌, ◌<◌, ◌≤◌, get_or}
use Rattle.register.proofs.row.Part.place.Given as goal

abbrev pub invariant-loop-left : goal.invariant-loop-left
invariant-loop-left l =
    (l.self.start ≤ l.low) × (l.low + l.left ≤ l.self.end) × (l.self.start < l.low → get_or l.self.words.now (l.low - 1) 0 < l.claim) × (l.low + l.left < l.self.end → l.claim ≤ get_or l.self.words.now (l.low + l.left) 0)

abbrev pub decreases-loop-left : goal.decreases-loop-left
decreases-loop-left l = l.left
