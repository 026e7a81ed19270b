-- How large the numbers of a division are within the limits. Assumes nothing.
use Rattle.std.proofs.Common.{ℕ, ◌*◌, ◌≤◌, arith, mul-le-mul}
use Rattle.std.proofs.lemmas.List.{places}
use Rattle.std.specs.Prelude.{slice_index}
use Rattle.estate.specs.Division.{Agrees}
use Rattle.estate.specs.Estates.{Estate, counted, divided, Within}
use Rattle.estate.specs.Limits.{most_creditors, most_cents}
use Rattle.estate.specs.Right.{own_parts, own_shares}
use Rattle.estate.proofs.ClosedForm.{closed_agrees, denominator_few}

module _ (e : Estate) (within : Within e) where
  pub shares_agree : Agrees (own_parts e) (divided e) (counted e) (own_shares e)
  shares_agree = closed_agrees (divided e) (counted e) (omega arith)

  pub parts_small : own_parts e ≤ 2 * most_creditors
  parts_small = omega (arith, denominator_few (divided e) (counted e), within.few)

  pub claim_small : (i : ℕ) → slice_index (counted e) i ≤ most_cents
  claim_small i = let inside = within.each i 0 in grind (arith, places)

  pub share_small : (i : ℕ) → slice_index (own_shares e) i ≤ 2 * most_creditors * most_cents
  share_small i =
      omega (arith, shares_agree.below i, mul-le-mul parts_small (claim_small i))
