-- How large things may be. Assumes nothing.
use Rattle.std.specs.Prelude.{ℕ, ◌*◌}

-- a desk is opened for so many creditors
pub record Limits : Type 0 where
  pub creditors : ℕ

-- the most creditors of an estate
abbrev pub most_creditors : ℕ
most_creditors = 1024

-- the most cents in one claim, and in what comes at once
abbrev pub most_cents : ℕ
most_cents = 1000000000

-- the most cents that may be there
abbrev pub most_there : ℕ
most_there = 1000000000000

-- the most that all together may claim
abbrev pub most_claimed : ℕ
most_claimed = most_creditors * most_cents

-- the most creditors that the programs serve
abbrev pub most_served : ℕ
most_served = 64
