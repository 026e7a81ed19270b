-- What a division is. It looks at each two creditors and at the sum, and has no way to find one. Assumes nothing.
use Rattle.std.specs.Prelude.{◌≡◌, ℕ, ◌+◌, ◌*◌, ◌<◌, ◌≤◌, Bool, ◌&&◌, List, length, ◌==◌, nat_lt, slice_index, sum}
use Rattle.estate.specs.Two.{plainly}
use Rattle.estate.specs.Pairs.{none_above, pairwise}

-- The shares xs, in d-ths of a cent, divide e cents among the claims cs: one share for each claim, together e, none above
-- its claim, and each two divide what they have together as two do.
abbrev pub divides : ℕ → ℕ → List ℕ → List ℕ → Bool
divides d e cs xs =
    (nat_lt 0 d && length xs == length cs) && (sum xs == d * e && (none_above d cs xs && pairwise d cs xs))

-- The same as facts, with the plain law for each two. Past the end nothing is claimed and nothing had, and beside itself
-- each has half of twice its share: so these hold at every place.
pub record Agrees (d e : ℕ) (cs xs : List ℕ) : Type 0 where
  pub parted : 0 < d
  pub paired : length xs ≡ length cs
  pub whole : sum xs ≡ d * e
  pub below : (i : ℕ) → slice_index xs i ≤ d * slice_index cs i
  pub plain : (i j : ℕ) → 2 * slice_index xs i ≡ plainly (slice_index xs i + slice_index xs j) (d * slice_index cs i) (d * slice_index cs j)
