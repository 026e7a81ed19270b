-- Which calls are turned away, by which number and at which place. Assumes nothing.
use Rattle.std.specs.Prelude.{ℕ, ◌+◌, Bool, false, List, [], ◌∷◌, ◌++◌, length, if◌then◌else◌, ◌==◌, nat_le, nat_lt}
use Rattle.estate.specs.Calls.{Call, claims, proves, comes, shares, cents, garbled}
use Rattle.estate.specs.Limits.{Limits, most_cents, most_there}
use Rattle.estate.specs.Estates.{Estate, amount, counted}

-- the refusals' numbers
abbrev pub unreadable : ℕ
unreadable = 1

abbrev pub too_large : ℕ
too_large = 2

abbrev pub not_lent : ℕ
not_lent = 3

abbrev pub not_there : ℕ
not_there = 4

abbrev pub no_room : ℕ
no_room = 5

-- the last of them
abbrev pub last_refusal : ℕ
last_refusal = no_room

-- what has to hold of a call, and the refusal where it does not
pub record Check : Type 0 where
  pub holds : Bool
  pub refusal : ℕ

abbrev pub check : Bool → ℕ → Check
check b n = record { holds = b; refusal = n }

-- What is checked of a call by itself.
abbrev pub checks_alone : Call → List Check
checks_alone (claims c) = check (nat_le c most_cents) too_large ∷ []
checks_alone (proves i c) = check (nat_le c most_cents) too_large ∷ []
checks_alone (comes x) = check (nat_le x most_cents) too_large ∷ []
checks_alone shares = []
checks_alone cents = []
checks_alone (garbled n) = check false unreadable ∷ []

-- What is checked of it beside the estate.
abbrev pub checks_beside : Limits → Estate → Call → List Check
checks_beside l e (claims c) = check (nat_lt (length (counted e)) l.creditors) no_room ∷ []
checks_beside l e (proves i c) = check (nat_lt i (length (counted e))) not_there ∷ []
checks_beside l e (comes x) = check (nat_le (amount e + x) most_there) no_room ∷ []
checks_beside l e shares = []
checks_beside l e cents = []
checks_beside l e (garbled n) = []

-- all that is checked, in the order of the numbers
abbrev pub checks : Limits → Estate → Call → List Check
checks l e c = checks_alone c ++ checks_beside l e c

-- the first refusal of a row of checks, or 0
abbrev pub first_refusal : List Check → ℕ
first_refusal [] = 0
first_refusal (k ∷ ks) = if k.holds then first_refusal ks else k.refusal

-- the number by which a call is turned away, or 0
abbrev pub turned : Limits → Estate → Call → ℕ
turned l e c = first_refusal (checks l e c)

-- the place in a call that is turned away by a number: of prove's two numbers the cents are the second
abbrev pub place : Call → ℕ → ℕ
place (claims c) n = 0
place (proves i c) n = if n == too_large then 1 else 0
place (comes x) n = 0
place shares n = 0
place cents n = 0
place (garbled k) n = k
