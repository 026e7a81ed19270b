-- Sums over claims in ascending order: a word beside each claim. Assumes nothing.
use Rattle.std.specs.Prelude.{ℕ, ◌+◌, ◌-◌, List, [], ◌∷◌, ◌++◌, length, take, drop, slice_index}
use Rattle.level.specs.Words.{held}

-- The sums over these claims, where n is claimed before them: each of what is claimed up to and with its place, or the
-- largest word, where that is more.
unfoldable pub sums_from : ℕ → List ℕ → List ℕ
sums_from n [] = []
sums_from n (k ∷ ks) = held (n + k) ∷ sums_from (n + k) ks

-- the same where these are all
abbrev pub sums_of : List ℕ → List ℕ
sums_of ks = sums_from 0 ks

-- what all together claim, told by the words: the last of them, and 0 where there are none
abbrev pub total_of : List ℕ → ℕ
total_of ws = slice_index ws (length ws - 1)

-- Claims from place a on have changed, and are ks now. From there on each word is made anew, of what the words before tell
-- and of the claims; those before are as they were.
unfoldable pub renewed : ℕ → List ℕ → List ℕ → List ℕ
renewed a ks ws = take a ws ++ sums_from (total_of (take a ws)) (drop a ks)
