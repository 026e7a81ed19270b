-- The terms that are found are those of the closed form. Assumes nothing.
use Rattle.std.proofs.Common.{◌≡◌, ℕ, ◌*◌, ◌≤◌, List, map, Some, ap, ◌∙◌, mul-le-mul_right, mul-le-mul, arith, sum}
use Rattle.std.specs.List.Sorted.{IsNonDecreasing}
use Rattle.std.proofs.lemmas.Bool.Decides.{nat_tests}
use Rattle.std.proofs.lemmas.List.Sums.{sum-map, sum_by-le}
use Rattle.estate.specs.Order.{sorted, SameClaims}
use Rattle.estate.specs.Limits.{most_creditors, most_cents, most_claimed}
use Rattle.estate.specs.Level.{Level, level, scarce, target}
use Rattle.estate.specs.Closed.{half, share, parts_at}
use Rattle.estate.specs.Estates.{Estate, amount, counted, divided, Within}
use Rattle.estate.specs.Right.{own_parts, own_shares}
use Rattle.estate.proofs.Ordered.{sum-sorted, length-sorted}
use Rattle.estate.proofs.SameClaims.{only_sorted}
use Rattle.estate.proofs.Filled.{few_share, some_share, spread_below, filled}
use Rattle.estate.proofs.ClosedForm.{own_divide}
use Rattle.level.specs.Sides.{gains}
use Rattle.level.specs.Levels.{level_of}
use Rattle.level.specs.Terms.{parts_of, share_by, Found}
use Rattle.level.specs.Laws.{LevelFills, AreRight, TermsRight, Small, TermsSmall}
use Rattle.level.specs.declared.closed.Terms.{Terms}

pub level_fills : LevelFills
unfolding LevelFills
level_fills n ks f h rise is =
    let sharers = ap (λ (v : Level). v.sharers) is in
    record {
      whole = ap (λ (v : Level). sum (map (half v) ks)) is ∙ sum-map _ ks ∙ rw sharers (filled n ks rise h);
      few = omega (arith, sharers, few_share n ks);
      some = λ l. omega (arith, sharers, some_share n ks l h);
    }

module _ (e : Estate) (ks : List ℕ) (t : Terms) (same : SameClaims ks (counted e)) (rise : IsNonDecreasing ks) (f : Found (amount e) ks (Some t)) where
  order : ks ≡ sorted (counted e)
  order = only_sorted ks (counted e) rise same

  all : sum ks ≡ sum (counted e)
  all = ap sum order ∙ sum-sorted (counted e)

  side : gains t.side ≡ scarce (divided e) (counted e)
  side = rw all at f.1.side

  at_level : level_of t.level ≡ level (divided e) (counted e)
  at_level = rw (all, order) at f.1.level

  parts : parts_of t ≡ own_parts e
  parts = ap parts_at at_level

  shares : map (share_by t) (counted e) ≡ own_shares e
  shares = λ i. map (share (side i) (at_level i)) (counted e)

  right : AreRight e t
  right = record {
    parts = parts;
    shares = shares;
    divides = rw (parts, shares) (own_divide e);
  }

  module _ (w : Within e) where
    abbrev aim : ℕ
    aim = target (divided e) (counted e)

    claimed : sum (counted e) ≤ most_claimed
    claimed =
        omega (arith, sum_by-le (λ x. x) most_cents (counted e) w.each, mul-le-mul_right most_cents w.few)

    aimed : aim ≤ sum (counted e)
    aimed = grind (arith, nat_tests)

    few : t.level.denominator ≤ most_creditors
    few =
        omega (arith, ap (λ (v : Level). v.sharers) at_level, few_share aim (sorted (counted e)), length-sorted (counted e), w.few)

    few_parts : parts_of t ≤ 2 * most_creditors
    few_parts = omega (arith, few)

    spread : t.level.numerator ≤ aim
    spread =
        omega (arith, ap (λ (v : Level). v.spread) at_level, spread_below aim (sorted (counted e)))

    small : Small e t
    small = record {
      claimed = claimed;
      doubled = omega (arith, w.there);
      aimed = omega (arith, aimed, claimed);
      product = λ m c g h. omega (arith, mul-le-mul g h, mul-le-mul_right most_cents w.few);
      spread = omega (arith, spread, aimed, claimed);
      parts = few_parts;
      claim = λ c h. mul-le-mul few_parts h;
      word = (omega arith, omega arith);
    }

pub terms_right : TermsRight
unfolding TermsRight
terms_right e ks t same rise f = right e ks t same rise f

pub terms_small : TermsSmall
unfolding TermsSmall
terms_small e ks t w same rise f = small e ks t same rise f w

-- the theorems that the contract of `terms_of` carries
pub ruleset terms_of = (level_fills, terms_right, terms_small)
