-- The way down a tree of sums. Assumes nothing.
use Rattle.std.specs.Prelude.{◌≡◌, ℕ, suc, zero, ◌+◌, ◌-◌, ◌*◌, ◌^◌, ◌<◌, ◌≤◌, List, length, take, if◌then◌else◌, nat_lt, nat_le, slice_index}
use Rattle.estate.specs.Level.{Level}
use Rattle.sums.specs.Sums.{total_of}
use Rattle.sums.specs.declared.descending.Way.{Way}

-- so high is a tree over n claims: it has room for them, and is no higher than that takes
unfoldable pub IsHeight : ℕ → ℕ → Type 0
IsHeight n h = (h ≤ 64) × (n < 2 ^ h) × (2 ^ h ≤ 2 * n + 1)

-- how much fills the first p claims, and those behind as far as the last of them
abbrev pub reach : ℕ → List ℕ → List ℕ → ℕ
reach p ks ws = slice_index ws (p - 1) + (length ks - p) * slice_index ks (p - 1)

-- where a way begins, and where it goes on from one more node
abbrev pub start : Way
start = record { filled = 0; steps = 0 }

abbrev pub further : ℕ → Way → Way
further p w = record { filled = p; steps = w.steps + 1 }

-- p is the place behind the middle, where the way goes on through a part one higher than h
unfoldable pub IsBehind : ℕ → Way → ℕ → Type 0
IsBehind h w p = p ≡ w.filled + 2 ^ h

-- The way on with n to be filled in, through that part of the tree which begins behind the claims that are filled, and is h
-- high. Where n is no more than fills the claims up to the middle, it goes on before the middle; otherwise these are filled,
-- and it goes on behind. Where there is no claim in the middle, it goes on before it and nothing is read.
unfoldable pub way : ℕ → ℕ → List ℕ → List ℕ → Way → Way
way zero n ks ws w = w
way (suc h) n ks ws w =
    if nat_lt (length ks) (w.filled + 2 ^ h) then way h n ks ws w
    else if nat_le n (reach (w.filled + 2 ^ h) ks ws) then way h n ks ws (further w.filled w)
    else way h n ks ws (further (w.filled + 2 ^ h) w)

-- it ends so
unfoldable pub Goes : ℕ → ℕ → List ℕ → List ℕ → Way → Way → Type 0
Goes h n ks ws w end = end ≡ way h n ks ws w

-- the level at which n is filled in, where p claims lie below it
abbrev pub level_behind : ℕ → ℕ → List ℕ → List ℕ → Level
level_behind p n ks ws = record { spread = n - total_of (take p ws); sharers = length ks - p }
