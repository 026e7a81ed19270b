-- What an audit of a text finds, and what is printed of it. Assumes nothing.
use Rattle.std.specs.Prelude.{◌≡◌, ℕ, ◌+◌, ◌<◌, ◌≤◌, List, Some, None, Option, ◌++◌, length, Ok, Err, decimal, codes}
use Rattle.estate.specs.Limits.{most_served}
use Rattle.shares.specs.Pairs.{fault_text, Answered, Verdict}
use Rattle.shares.specs.declared.pairs.Fault.{Fault}
use Rattle.shares.specs.declared.pairs.Fault.TheVariants.{Unpaired, NoParts, Pair, Alone}
use Rattle.text.specs.Read.{numbers_of, shares_of}
use Rattle.auditing.specs.Texts.{first_line, rest_of, blank_lines}
use Rattle.auditing.specs.declared.checking.Finding.{Finding}
use Rattle.auditing.specs.declared.checking.Finding.TheVariants.{Right, Wrong, ClaimsMisfit, TooMany, SharesMisfit, Line}

-- the first line of a text is these claims, no more than are served
pub record HasClaims (text cs : List ℕ) : Type 0 where
  pub read : numbers_of (first_line text) ≡ Ok cs
  pub few : length cs ≤ most_served

-- the second is shares in d-ths of a cent
pub record HasShares (text : List ℕ) (d : ℕ) (xs : List ℕ) : Type 0 where
  pub read : shares_of (first_line (rest_of text)) ≡ Ok (d, xs)

-- how many lines behind the second are blank, before the first that is not; none, where all are
abbrev pub blank_behind : List ℕ → Option ℕ
blank_behind text = blank_lines 0 (rest_of (rest_of text))

-- a text begins with two such lines
pub record HasBoth (text : List ℕ) : Type 0 where
  pub claims : List ℕ
  pub d : ℕ
  pub shares : List ℕ
  pub has_claims : HasClaims text claims
  pub has_shares : HasShares text d shares

-- nothing but blank lines is behind them, and this is what the check of them answers
pub record Checked (text : List ℕ) (answer : Answered) : Type 0 where
  pub lines : HasBoth text
  pub ends : blank_behind text ≡ None
  pub verdict : Verdict lines.d lines.claims lines.shares answer

-- so many blank lines are behind them, and then one that is not
pub record HasMore (text : List ℕ) (n : ℕ) : Type 0 where
  pub lines : HasBoth text
  pub more : blank_behind text ≡ Some n

-- What is found, case by case. They stand in the order in which they are looked for, and the first that is so is found.
abbrev pub IsAudited : List ℕ → Finding → Type 0
IsAudited text (ClaimsMisfit p) = numbers_of (first_line text) ≡ Err p
IsAudited text TooMany = (cs : List ℕ) × (numbers_of (first_line text) ≡ Ok cs) × (most_served < length cs)
IsAudited text (SharesMisfit p) = (cs : List ℕ) × HasClaims text cs × (shares_of (first_line (rest_of text)) ≡ Err p)
IsAudited text (Line n) = (k : ℕ) × HasMore text k × (n ≡ k + 3)
IsAudited text (Wrong fault) = Checked text (Err fault)
IsAudited text Right = Checked text (Ok tt)

-- what is printed
abbrev pub wrong_text : Fault → List ℕ
wrong_text Unpaired = codes "line 2: " ++ fault_text Unpaired
wrong_text NoParts = codes "line 2: " ++ fault_text NoParts
wrong_text (Pair i j) = fault_text (Pair i j)
wrong_text Alone = fault_text Alone

abbrev pub finding_text : Finding → List ℕ
finding_text Right = codes "right"
finding_text (Wrong fault) = wrong_text fault
finding_text (ClaimsMisfit p) =
    codes "line 1, from byte " ++ decimal p ++ codes " on: claims are written as 100 200 300"
finding_text TooMany = codes "line 1: more than " ++ decimal most_served ++ codes " claims"
finding_text (SharesMisfit p) =
    codes "line 2, from byte " ++ decimal p ++ codes " on: shares are written as d 6: 200 200 200"
finding_text (Line n) = codes "line " ++ decimal n ++ codes ": nothing may stand behind the shares"
