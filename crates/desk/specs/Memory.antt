-- What a desk leaves in lent memory: a function of its limits and its estate. Assumes nothing.
use Rattle.std.specs.Prelude.{◌≡◌, ℕ, ◌+◌, ◌-◌, ◌*◌, ◌≤◌, List, ◌∷◌, ◌++◌, length, take, drop, replicate, slice_index}
use Rattle.estate.specs.Limits.{Limits, most_creditors, most_there}
use Rattle.estate.specs.Estates.{Estate, new_estate, with_there, with_claimed, counted, Within}
use Rattle.sums.specs.Ledger.{ledger}

-- the words of the header: the limit, what is there and how many claims there are, and spare ones for what may come
abbrev pub header_words : ℕ
header_words = 64

unfoldable pub spare : List ℕ
spare = replicate (header_words - 3) 0

unfoldable pub header : Limits → Estate → List ℕ
header l e = l.creditors ∷ e.there ∷ length e.claimed ∷ spare

-- behind it a ledger with room for as many claims as the limit says, in words that were 0
unfoldable pub rows : Limits → Estate → List ℕ
rows l e = ledger (replicate (3 * l.creditors) 0) e.claimed

unfoldable pub layout : Limits → Estate → List ℕ
layout l e = header l e ++ rows l e

-- how many words a desk for so many creditors asks for, and how many bytes for an answer
abbrev pub words_asked : ℕ → ℕ
words_asked n = header_words + 3 * n

abbrev pub bytes_asked : ℕ → ℕ
bytes_asked n = 24 + 8 * n

abbrev pub limits_for : ℕ → Limits
limits_for n = record { creditors = n }

-- what memory tells of limits, of an estate and of what lies behind, whatever it holds
abbrev pub limits_of : List ℕ → Limits
limits_of m = limits_for (slice_index m 0)

abbrev pub estate_of : List ℕ → Estate
estate_of m = with_claimed (with_there new_estate (slice_index m 1)) (take (slice_index m 2) (drop header_words m))

abbrev pub rest_of : List ℕ → List ℕ
rest_of m = drop (words_asked (slice_index m 0)) m

-- a desk with these limits may have this estate
pub record Allowed (l : Limits) (e : Estate) : Type 0 where
  pub limit : l.creditors ≤ most_creditors
  pub few : length (counted e) ≤ l.creditors
  pub within : Within e

-- A desk stands in this memory: it is what a desk leaves of the estate that it tells.
pub record Stands (m : List ℕ) : Type 0 where
  pub allowed : Allowed (limits_of m) (estate_of m)
  pub laid : m ≡ layout (limits_of m) (estate_of m) ++ rest_of m

-- The numbers of the header may be a desk's, and there is as much memory as it asks for.
pub record Headed (m : List ℕ) : Type 0 where
  pub limit : slice_index m 0 ≤ most_creditors
  pub there : slice_index m 1 ≤ most_there
  pub few : slice_index m 2 ≤ slice_index m 0
  pub words : words_asked (slice_index m 0) ≤ length m

-- And there are as many bytes for an answer. Where a desk stands, these are all that may be wanting.
pub record Lent (m out : List ℕ) : Type 0 where
  pub headed : Headed m
  pub bytes : bytes_asked (slice_index m 0) ≤ length out
