-- The closed form of the division: the desk's own d, and its shares. Assumes nothing.
use Rattle.std.specs.Prelude.{ℕ, ◌-◌, ◌*◌, min, max, Bool, true, false, List, map}
use Rattle.estate.specs.Level.{Level, scarce, level}

-- half of the claim c, up to the level, in parts of which a cent has twice as many as there are sharers
abbrev pub half : Level → ℕ → ℕ
half v c = min (v.sharers * c) v.spread

-- what a claim of c gets: that where little is there; otherwise it loses that
abbrev pub share : Bool → Level → ℕ → ℕ
share true v c = half v c
share false v c = 2 * v.sharers * c - half v c

-- the parts of a cent: twice the sharers, and 1 where there are no creditors
abbrev pub parts_at : Level → ℕ
parts_at v = max 1 (2 * v.sharers)

-- the parts of a cent, and the shares of e cents among the claims cs, in these parts
abbrev pub denominator : ℕ → List ℕ → ℕ
denominator e cs = parts_at (level e cs)

abbrev pub division : ℕ → List ℕ → List ℕ
division e cs = map (share (scarce e cs) (level e cs)) cs
