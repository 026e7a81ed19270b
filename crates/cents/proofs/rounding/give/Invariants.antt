use Rattle.std.proofs.Common.{◌≡◌, ℕ, ◌<◌, ◌≤◌}
use Rattle.estate.specs.Cents.{downs, give_left}
use Rattle.cents.specs.Rounding.{given_of, lack_of, EachLacks}
use Rattle.cents.proofs.rounding.give.Given as goal

abbrev pub invariant-loop-left : goal.invariant-loop-left
invariant-loop-left g l =
    let d = g.P.Parted.parts l.shares in
    let xs = g.P.Parted.items l.shares in
    (given_of g.P.Parted.parts g.P.Parted.items l.shares l.left l.more ≡ give_left l.cents d xs (downs d xs))
    × (0 < l.left → (i : ℕ) → lack_of g.P.Parted.parts g.P.Parted.items l.shares l.more i ≤ l.most)
    × EachLacks g.P.Parted.parts g.P.Parted.items l.shares l.more l.most

abbrev pub decreases-loop-left : goal.decreases-loop-left
decreases-loop-left g l = l.most
