-- How two divide what they have together. Assumes nothing.
use Rattle.std.specs.Prelude.{ℕ, ◌+◌, ◌-◌, ◌*◌, Bool, ◌==◌}

-- Two claim c and k, and have s together. Each leaves the other what is above its own claim, and the rest is halved.
-- The first has a of s: twice a, and what is left to the second, is s and what is left to the first.
abbrev pub as_two : ℕ → ℕ → ℕ → ℕ → Bool
as_two s c k a = 2 * a + (s - c) == s + (s - k)

-- what who claims c of s does not claim
abbrev pub unclaimed : ℕ → ℕ → ℕ
unclaimed s c = s - c

-- what both claim of s: what is left when each has what the other does not claim
abbrev pub contested : ℕ → ℕ → ℕ → ℕ
contested s c k = s - unclaimed s c - unclaimed s k

-- The plain law, in halves: who claims c of s, beside one who claims k, has what the other does not claim, and half of what
-- both claim.
abbrev pub plainly : ℕ → ℕ → ℕ → ℕ
plainly s c k = 2 * unclaimed s k + contested s c k
