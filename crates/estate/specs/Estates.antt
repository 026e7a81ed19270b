-- An estate: what is there, and what is claimed. What lies above says of an estate what it says by the words below, so that
-- a wider estate changes these. Its fields themselves are read where calls change them, and where memory is laid out.
-- Assumes nothing.
use Rattle.std.specs.Prelude.{◌≡◌, ℕ, ◌≤◌, true, List, [], length, All, sum}
use Rattle.estate.specs.Division.{divides}
use Rattle.estate.specs.Level.{divided_of_sum}
use Rattle.estate.specs.Limits.{most_creditors, most_cents, most_there}

pub record Estate : Type 0 where
  pub there : ℕ
  pub claimed : List ℕ

abbrev pub new_estate : Estate
new_estate = record { there = 0; claimed = [] }

abbrev pub with_there : Estate → ℕ → Estate
with_there e x = record { there = x; claimed = e.claimed }

abbrev pub with_claimed : Estate → List ℕ → Estate
with_claimed e cs = record { there = e.there; claimed = cs }

-- the cents that are there
abbrev pub amount : Estate → ℕ
amount e = e.there

-- the claims among which is divided
abbrev pub counted : Estate → List ℕ
counted e = e.claimed

-- what is divided: what is there, or all that is claimed if that is less
abbrev pub divided : Estate → ℕ
divided e = divided_of_sum (amount e) (sum (counted e))

-- these shares, in d-ths of a cent, are a division of the estate
abbrev pub Shared : Estate → ℕ → List ℕ → Type 0
Shared e d xs = divides d (divided e) (counted e) xs ≡ true

-- an estate within the limits
pub record Within (e : Estate) : Type 0 where
  pub few : length (counted e) ≤ most_creditors
  pub each : All (λ c. c ≤ most_cents) (counted e)
  pub there : amount e ≤ most_there
