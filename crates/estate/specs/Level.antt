-- The level: how much each creditor gets, or loses, at most. One fraction decides the whole division. Assumes nothing.
use Rattle.std.specs.Prelude.{ℕ, suc, ◌-◌, ◌*◌, min, Bool, List, [], ◌∷◌, length, if◌then◌else◌, nat_le, sum}
use Rattle.estate.specs.Order.{sorted}

-- the level is the fraction spread / sharers: what is spread among the creditors whose claims reach it
pub record Level : Type 0 where
  pub spread : ℕ
  pub sharers : ℕ

-- Fills n into claims in ascending order, each up to the level. Where the least claim that is left lies below the level it
-- is filled, and the rest goes on; where it does not, all that are left share what is left.
unfoldable pub fill : ℕ → List ℕ → Level
fill n [] = record { spread = n; sharers = 0 }
fill n (c ∷ cs) =
    if nat_le n (suc (length cs) * c) then record { spread = n; sharers = suc (length cs) } else fill (n - c) cs

-- What is divided, which side it is, and what is filled in, told from the sum s of the claims alone.

-- what is divided of x cents that are there: all of them, or all that is claimed if that is less
abbrev pub divided_of_sum : ℕ → ℕ → ℕ
divided_of_sum x s = min x s

-- e cents are at most half of the sum: everybody gets at most half of its claim; otherwise everybody loses at most half
abbrev pub scarce_of_sum : ℕ → ℕ → Bool
scarce_of_sum e s = nat_le (2 * e) s

-- twice what is got or, where more than half is there, twice what is lost
abbrev pub target_of_sum : ℕ → ℕ → ℕ
target_of_sum e s = if scarce_of_sum e s then 2 * e else 2 * (s - e)

-- the same, told from the claims
abbrev pub scarce : ℕ → List ℕ → Bool
scarce e cs = scarce_of_sum e (sum cs)

abbrev pub target : ℕ → List ℕ → ℕ
target e cs = target_of_sum e (sum cs)

-- the level at which e cents are divided among the claims cs
abbrev pub level : ℕ → List ℕ → Level
level e cs = fill (target e cs) (sorted cs)
