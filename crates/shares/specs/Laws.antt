-- What is true of the shares that are written, and of those that are checked. The contracts of `Shares::write` and `check`
-- name each. Assumes nothing.
use Rattle.std.specs.Prelude.{◌≡◌, ℕ, suc, ◌*◌, ◌^◌, ◌<◌, ◌≤◌, true, List, length, All, Some, Ok, slice_index, sum}
use Rattle.std.specs.List.Sorted.{IsNonDecreasing}
use Rattle.estate.specs.Order.{SameClaims}
use Rattle.estate.specs.Limits.{most_claimed}
use Rattle.estate.specs.Calls.{shares}
use Rattle.estate.specs.Answers.{parts}
use Rattle.estate.specs.Division.{divides}
use Rattle.estate.specs.Estates.{Estate, amount, counted, Shared, Within}
use Rattle.estate.specs.Right.{says}
use Rattle.level.specs.Terms.{Found}
use Rattle.level.specs.declared.closed.Terms.{Terms}
use Rattle.shares.specs.Shares.{parts_word, shares_on}
use Rattle.shares.specs.Pairs.{Answered, Verdict}

-- the terms that are found for an estate within the limits, of which ks are the claims in ascending order
pub record TermsFor (e : Estate) (ks : List ℕ) (t : Terms) : Type 0 where
  pub within : Within e
  pub same : SameClaims ks (counted e)
  pub rising : IsNonDecreasing ks
  pub found : Found (amount e) ks (Some t)

-- What is written on these terms, for the claims as they came, divides the estate, in parts of which a cent has at most
-- twice one more than there are creditors. It is what this desk is to say.
pub record Divided (e : Estate) (t : Terms) : Type 0 where
  pub few : parts_word t ≤ 2 * suc (length (counted e))
  pub divides : Shared e (parts_word t) (shares_on t (counted e))
  pub said : parts (parts_word t) (shares_on t (counted e)) ≡ says e shares

abbrev pub SharesDivide : Type 0
SharesDivide = (e : Estate) (ks : List ℕ) (t : Terms) → TermsFor e ks t → Divided e t

-- no share is more than a claim may be in these parts, which is less than 2^63
abbrev pub SharesFit : Type 0
SharesFit =
    (e : Estate) (ks : List ℕ) (t : Terms) → TermsFor e ks t → All (λ x. x ≤ 2 * most_claimed) (shares_on t (counted e)) × (2 * most_claimed < 2 ^ 63)

-- and the check accepts them
abbrev pub SharesPass : Type 0
SharesPass =
    (e : Estate) (ks : List ℕ) (t : Terms) (r : Answered) → TermsFor e ks t → Verdict (parts_word t) (counted e) (shares_on t (counted e)) r → r ≡ Ok tt

-- so it does with all shares that divide
abbrev pub AcceptsDivisions : Type 0
AcceptsDivisions =
    (d e : ℕ) (cs xs : List ℕ) (r : Answered) → Verdict d cs xs r → divides d e cs xs ≡ true → r ≡ Ok tt

-- what it accepts divides what the shares come to, if that is whole cents
abbrev pub OnlyDivisions : Type 0
OnlyDivisions =
    (d e : ℕ) (cs xs : List ℕ) → Verdict d cs xs (Ok tt) → sum xs ≡ d * e → divides d e cs xs ≡ true

-- and nobody has more than it claims, whatever the shares come to
abbrev pub NobodyAbove : Type 0
NobodyAbove =
    (d i : ℕ) (cs xs : List ℕ) → Verdict d cs xs (Ok tt) → slice_index xs i ≤ d * slice_index cs i

-- one answer fits
abbrev pub OneVerdict : Type 0
OneVerdict =
    (d : ℕ) (cs xs : List ℕ) (r s : Answered) → Verdict d cs xs r → Verdict d cs xs s → r ≡ s
