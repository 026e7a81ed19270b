use Rattle.std.proofs.Common.{◌≡◌, ℕ, ◌*◌, ◌%◌, ◌<◌, ◌≤◌, get_or, take}
use Rattle.cents.specs.Rounding.{lacking}
use Rattle.cents.proofs.rounding.lacking.Given as goal

abbrev pub invariant-loop-i : goal.invariant-loop-i
invariant-loop-i g l =
    (l.lacking ≡ lacking (g.P.Parted.parts l.shares) (take l.i (g.P.Parted.items l.shares)))
    × (l.lacking ≤ l.i * 18446744073709551615)
    × ((k : ℕ) → k < l.i → get_or (g.P.Parted.items l.shares) k 0 % g.P.Parted.parts l.shares ≤ l.most)
