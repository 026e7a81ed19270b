-- When given shares are a division, and why they are none. Assumes nothing.
use Rattle.std.specs.Prelude.{◌≡◌, ◌≢◌, ℕ, ◌+◌, ◌*◌, ◌<◌, Bool, true, false, ◌&&◌, List, ◌++◌, length, Some, None, Ok, Err, Option, Result, decimal, codes, nat_le, slice_index}
use Rattle.estate.specs.Two.{as_two}
use Rattle.shares.specs.declared.pairs.Fault.{Fault}
use Rattle.shares.specs.declared.pairs.Fault.TheVariants.{Unpaired, NoParts, Pair, Alone}

-- Two who claim c and k cents, and have a and b d-ths of a cent, have no more than they claim together, and divide it as two
-- do.
abbrev pub is_fair : ℕ → ℕ → ℕ → ℕ → ℕ → Bool
is_fair d c k a b = nat_le (a + b) (d * c + d * k) && as_two (a + b) (d * c) (d * k) a

-- so do those at two places
abbrev pub is_fair_at : ℕ → List ℕ → List ℕ → ℕ → ℕ → Bool
is_fair_at d cs xs i j = is_fair d (slice_index cs i) (slice_index cs j) (slice_index xs i) (slice_index xs j)

-- and each two of whom the lower place is below n
abbrev pub FairBelow : ℕ → List ℕ → List ℕ → ℕ → Type 0
FairBelow d cs xs n = (i : ℕ) → i < n → (j : ℕ) → i < j → j < length cs → is_fair_at d cs xs i j ≡ true

-- The two at i and j are the first that do not: those before them have a lower place that is lower, or the same and a
-- higher place that is lower.
pub record FirstUnfair (d : ℕ) (cs xs : List ℕ) (i j : ℕ) : Type 0 where
  pub order : i < j
  pub there : j < length cs
  pub unfair : is_fair_at d cs xs i j ≡ false
  pub lower : FairBelow d cs xs i
  pub same : (k : ℕ) → i < k → k < j → is_fair_at d cs xs i k ≡ true

-- what a search for them finds
abbrev pub Searched : ℕ → List ℕ → List ℕ → Option (ℕ × ℕ) → Type 0
Searched d cs xs None = FairBelow d cs xs (length cs)
Searched d cs xs (Some p) = FirstUnfair d cs xs p.0 p.1

-- there is one share for each claim, in parts of a cent
abbrev pub InParts : ℕ → List ℕ → List ℕ → Type 0
InParts d cs xs = (length xs ≡ length cs) × (0 < d)

-- there is one creditor, and it has more than it claims
abbrev pub AloneAbove : ℕ → List ℕ → List ℕ → Type 0
AloneAbove d cs xs = (length cs ≡ 1) × (d * slice_index cs 0 < slice_index xs 0)

-- nothing, or the fault that was found
abbrev pub Answered : Type 0
Answered = Result (Unit {0}) Fault

-- What is answered. With two creditors or more nobody can have more than it claims when each two are fair.
abbrev pub Verdict : ℕ → List ℕ → List ℕ → Answered → Type 0
Verdict d cs xs (Err Unpaired) = length xs ≢ length cs
Verdict d cs xs (Err NoParts) = (length xs ≡ length cs) × (d ≡ 0)
Verdict d cs xs (Err (Pair i j)) = InParts d cs xs × FirstUnfair d cs xs i j
Verdict d cs xs (Err Alone) = InParts d cs xs × AloneAbove d cs xs
Verdict d cs xs (Ok _) = InParts d cs xs × FairBelow d cs xs (length cs) × ¬ AloneAbove d cs xs

-- what is printed of a fault
abbrev pub fault_text : Fault → List ℕ
fault_text Unpaired = codes "not one share for each claim"
fault_text NoParts = codes "a cent has no parts"
fault_text (Pair i j) = decimal i ++ (codes " and " ++ decimal j)
fault_text Alone = codes "the only creditor has more than it claims"
