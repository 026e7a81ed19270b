-- What is true of whole cents. The contracts of `Cents::new` and `Cents::of` name each. Assumes nothing.
use Rattle.std.specs.Prelude.{◌≡◌, ℕ, ◌*◌, ◌%◌, ◌<◌, ◌≤◌, ◌⊎◌, List, length, IsOkAnd, slice_index, sum}
use Rattle.estate.specs.Limits.{most_creditors}
use Rattle.estate.specs.Calls.{cents}
use Rattle.estate.specs.Answers.{amounts}
use Rattle.estate.specs.Cents.{in_cents, Near, Pays}
use Rattle.estate.specs.Estates.{Estate, counted, divided}
use Rattle.estate.specs.Right.{says}
use Rattle.level.specs.declared.closed.Terms.{Terms}
use Rattle.shares.specs.Shares.{parts_word, shares_on}
use Rattle.shares.specs.Laws.{TermsFor, Divided}
use Rattle.cents.specs.Parted.{split_parts, split_items}
use Rattle.cents.specs.Whole.{cents_of, Comes}

-- The cents ys are those that come of the shares xs, in d-ths of a cent, and of e cents: an amount for each share, together
-- e, each less than a cent away from the share.
pub record Whole (d e : ℕ) (xs ys : List ℕ) : Type 0 where
  pub come : ys ≡ in_cents d e xs
  pub paired : length ys ≡ length xs
  pub sum_is : sum ys ≡ e
  pub near : (i : ℕ) → Near d (slice_index xs i) (slice_index ys i)

-- They come of all shares that add up to whole cents, up to as many as there may be creditors.
abbrev pub AllCome : {P : Type 0} → (P → ℕ) → (P → List ℕ) → Type 0
AllCome parts items =
    (d e : ℕ) (xs : List ℕ) (r : _) → 0 < d → length xs ≤ most_creditors → sum xs ≡ d * e → Comes parts items d xs r → IsOkAnd r (λ c. Whole d e xs (cents_of parts items c))

-- The cents ys are paid to an estate on these terms: its shares divide it, the cents come of these shares, there is an
-- amount for each claim, together what is divided, each less than a cent away from the share, and none above the claim. It
-- is what this desk is to say.
pub record Paid (e : Estate) (t : Terms) (ys : List ℕ) : Type 0 where
  pub divided_by : Divided e t
  pub come : ys ≡ in_cents (parts_word t) (divided e) (shares_on t (counted e))
  pub pays : Pays (parts_word t) (divided e) (counted e) (shares_on t (counted e)) ys
  pub said : amounts ys ≡ says e cents

-- So it is with every estate within the limits, on the terms that are found for it.
abbrev pub CentsPay : Type 0
CentsPay =
    (e : Estate) (ks : List ℕ) (t : Terms) (r : _) → TermsFor e ks t → Comes split_parts split_items (parts_word t) (shares_on t (counted e)) r → IsOkAnd r (λ c. Paid e t (cents_of split_parts split_items c))

-- When the shares of such an estate are rounded down, what each creditor then lacks of its share is nothing, half a cent, or
-- one other amount.
abbrev pub FewRemainders : Type 0
FewRemainders =
    (e : Estate) (ks : List ℕ) (t : Terms) → TermsFor e ks t → (r : ℕ)
    × ((i : ℕ) → let x : ℕ = slice_index (shares_on t (counted e)) i % parts_word t in (x ≡ 0) ⊎ (2 * x ≡ parts_word t) ⊎ (x ≡ r))
