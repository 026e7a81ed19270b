-- What is true of the terms that are found. The contract of `terms_of` names each. Assumes nothing.
use Rattle.std.specs.Prelude.{◌≡◌, ℕ, ◌*◌, ◌^◌, ◌<◌, ◌≤◌, List, map, length, Some, sum}
use Rattle.std.specs.List.Sorted.{IsNonDecreasing}
use Rattle.estate.specs.Order.{SameClaims}
use Rattle.estate.specs.Limits.{most_creditors, most_cents, most_there, most_claimed}
use Rattle.estate.specs.Level.{target}
use Rattle.estate.specs.Estates.{Estate, amount, counted, divided, Shared, Within}
use Rattle.estate.specs.Closed.{half}
use Rattle.estate.specs.Right.{own_parts, own_shares}
use Rattle.level.specs.Levels.{level_of, Fills}
use Rattle.level.specs.Terms.{parts_of, share_by, Found}
use Rattle.level.specs.declared.closed.Terms.{Terms}
use Rattle.level.specs.declared.filling.Fraction.{Fraction}

-- Of n filled into claims in ascending order, each up to the level: together they have n, in parts of which a cent has as
-- many as share the level. These are no more than there are claims, and somebody shares it where there is a claim.
pub record Levelled (n : ℕ) (ks : List ℕ) (f : Fraction) : Type 0 where
  pub whole : sum (map (half (level_of f)) ks) ≡ f.denominator * n
  pub few : f.denominator ≤ length ks
  pub some : 0 < length ks → 0 < f.denominator

-- So it is with the level that fills in no more than all claims come to.
unfoldable pub LevelFills : Type 0
LevelFills = (n : ℕ) (ks : List ℕ) (f : Fraction) → n ≤ sum ks → IsNonDecreasing ks → Fills ks n f → Levelled n ks f

-- On these terms the estate's claims have the shares of the closed form, in its parts of a cent, and these shares divide.
pub record AreRight (e : Estate) (t : Terms) : Type 0 where
  pub parts : parts_of t ≡ own_parts e
  pub shares : map (share_by t) (counted e) ≡ own_shares e
  pub divides : Shared e (parts_of t) (map (share_by t) (counted e))

-- The terms that are found are right for the estate whose claims were lent in ascending order.
unfoldable pub TermsRight : Type 0
TermsRight =
    (e : Estate) (ks : List ℕ) (t : Terms) → SameClaims ks (counted e) → IsNonDecreasing ks → Found (amount e) ks (Some t) → AreRight e t

-- How large the numbers on the way to these terms are, and a claim in their parts of a cent: none passes 2 ^ 63.
pub record Small (e : Estate) (t : Terms) : Type 0 where
  pub claimed : sum (counted e) ≤ most_claimed
  pub doubled : 2 * divided e ≤ 2 * most_there
  pub aimed : target (divided e) (counted e) ≤ most_claimed
  pub product : (m c : ℕ) → m ≤ length (counted e) → c ≤ most_cents → m * c ≤ most_claimed
  pub spread : t.level.numerator ≤ most_claimed
  pub parts : parts_of t ≤ 2 * most_creditors
  pub claim : (c : ℕ) → c ≤ most_cents → parts_of t * c ≤ 2 * most_claimed
  pub word : (2 * most_there < 2 ^ 63) × (2 * most_claimed < 2 ^ 63)

-- So it is with every estate within the limits.
unfoldable pub TermsSmall : Type 0
TermsSmall =
    (e : Estate) (ks : List ℕ) (t : Terms) → Within e → SameClaims ks (counted e) → IsNonDecreasing ks → Found (amount e) ks (Some t) → Small e t
