-- How the shares of claims on the terms of a division fall into whole cents and what is left. Assumes nothing.
use Rattle.std.specs.Prelude.{◌≡◌, ℕ, ◌+◌, ◌/◌, ◌%◌, ◌<◌, ◌≤◌, true, false, List, slice_index}
use Rattle.level.specs.Sides.{gains}
use Rattle.level.specs.declared.closed.Terms.{Terms}
use Rattle.shares.specs.Shares.{share_word}

-- On the terms t, in d-ths of a cent, a claim up to `filled` has half of what it is in whole cents, and what is left of an
-- even and of an odd one is `half`. A larger one, up to `most`, has `level` in whole cents, or loses it, and `left` is left.
pub record Splits (t : Terms) (d filled most level left : ℕ) (half : List ℕ) : Type 0 where
  pub filled_whole : (c : ℕ) → c ≤ filled → share_word t c / d ≡ c / 2
  pub filled_left : (c : ℕ) → c ≤ filled → share_word t c % d ≡ slice_index half (c % 2)
  pub gained : gains t.side ≡ true → (c : ℕ) → filled < c → c ≤ most → share_word t c / d ≡ level
  pub lost : gains t.side ≡ false → (c : ℕ) → filled < c → c ≤ most → share_word t c / d + level ≡ c
  pub level_left : (c : ℕ) → filled < c → c ≤ most → share_word t c % d ≡ left
