-- Whole cents as the code has them. Assumes nothing.
use Rattle.std.specs.Prelude.{◌≡◌, ◌≢◌, ℕ, ◌/◌, ◌%◌, ◌<◌, ◌≤◌, List, length, Ok, Err, Result, codes, sum}
use Rattle.estate.specs.Cents.{in_cents}
use Rattle.estate.specs.Limits.{most_creditors}
use Rattle.cents.specs.declared.whole.Cents.{Cents}
use Rattle.cents.specs.declared.whole.CentsError.{CentsError}
use Rattle.cents.specs.declared.whole.CentsError.TheVariants.{NoParts, TooMany, NotWhole}
use Rattle.cents.specs.Rounding.{cents_with}

module _ {P : Type 0} (parts : P → ℕ) (items : P → List ℕ) where
  -- the amounts, one for each share
  abbrev pub cents_of : Cents P → List ℕ
  cents_of c = cents_with parts items c.shares c.more

  -- What comes of shares xs in d-ths of a cent: whole cents by the definition, or why there are none. The first that
  -- applies is the answer.
  abbrev pub Comes : ℕ → List ℕ → Result (Cents P) CentsError → Type 0
  Comes d xs (Err NoParts) = d ≡ 0
  Comes d xs (Err TooMany) = (0 < d) × (most_creditors < length xs)
  Comes d xs (Err NotWhole) = (0 < d) × (length xs ≤ most_creditors) × (sum xs % d ≢ 0)
  Comes d xs (Ok c) =
      (0 < d) × (length xs ≤ most_creditors) × (sum xs % d ≡ 0) × (cents_of c ≡ in_cents d (sum xs / d) xs)

-- what is printed of the reason
abbrev pub error_text : CentsError → List ℕ
error_text NoParts = codes "a cent has no parts"
error_text TooMany = codes "more than 1024 shares"
error_text NotWhole = codes "the shares do not add up to whole cents"
