-- How many cents are left. Assumes nothing.
use Rattle.std.proofs.Common.{◌≡◌, ◌≢◌, ℕ, ◌+◌, ◌-◌, ◌*◌, ◌/◌, ◌%◌, ◌<◌, ◌≤◌, List, [], ◌∷◌, length, get_or, take, sum, refl, sym, ap, ◌∙◌, arith}
use Rattle.std.proofs.Math.Nat.{add-mul-mod_self_right, add-mul-div_right, div-le_of_le-mul}
use Rattle.std.proofs.lemmas.List.Sums.{sum_by-cons, sum_by_more}
use Rattle.estate.specs.Cents.{downs, give_left, in_cents}
use Rattle.cents.specs.Rounding.{lacking}
use Rattle.estate.proofs.Rows.{sum-cons}

module _ (d : ℕ) where
  lacking_all : (xs : List ℕ) → lacking d xs + sum (downs d xs) * d ≡ sum xs
  unfolding lacking
  lacking_all [] = omega arith
  lacking_all (x ∷ xs) =
      omega (arith, sum_by-cons (λ y. y % d) x xs, sum-cons x xs, ap (λ n. n * d) (sum-cons (x / d) (downs d xs)), lacking_all xs)

  lacking_part : (xs : List ℕ) → sum xs % d ≡ lacking d xs % d
  lacking_part xs = ap (λ n. n % d) (sym (lacking_all xs)) ∙ add-mul-mod_self_right (lacking d xs) (sum (downs d xs)) d

  lacking_whole : (xs : List ℕ) → 0 < d → lacking d xs / d ≡ sum xs / d - sum (downs d xs)
  lacking_whole xs h =
      omega (arith, ap (λ n. n / d) (lacking_all xs), add-mul-div_right (lacking d xs) (sum (downs d xs)) h)

  lacking_few : (xs : List ℕ) → 0 < d → lacking d xs ≤ length xs * d
  unfolding lacking
  lacking_few [] h = omega arith
  lacking_few (x ∷ xs) h = omega (arith, sum_by-cons (λ y. y % d) x xs, lacking_few xs h, h)

  -- fewer cents are left than there are shares
  pub few_left : (xs : List ℕ) → 0 < d → lacking d xs / d ≤ length xs
  few_left xs h =
      let few : lacking d xs ≤ d * length xs = omega (arith, lacking_few xs h) in
      div-le_of_le-mul d few

  pub lacking_start : 0 ≡ lacking d []
  unfolding lacking
  lacking_start = refl

  pub lacking_more : (i r s : ℕ) (xs : List ℕ) → r ≡ get_or xs i 0 % d → i < length xs → s ≡ lacking d (take i xs) → s + r ≡ lacking d (take (i + 1) xs)
  unfolding lacking
  lacking_more i r s xs p h q = omega (arith, p, q, sum_by_more (λ y. y % d) xs i 0 h)

pub ruleset lacking_steps = (lacking_start, lacking_more)

-- the shares add up to whole cents exactly if what is lacking does, and then so many cents are left
module _ (d r n : ℕ) (xs : List ℕ) (h : r ≡ lacking d xs) (p : n ≡ d) where
  pub whole : r % n ≡ 0 → sum xs % d ≡ 0
  whole e = lacking_part d xs ∙ rw (h, p) at e

  pub not_whole : r % n ≢ 0 → sum xs % d ≢ 0
  not_whole ne e = ne (rw (h, p) (sym (lacking_part d xs) ∙ e))

  pub comes : (ys : List ℕ) → ys ≡ give_left (r / n) d xs (downs d xs) → 0 < d → ys ≡ in_cents d (sum xs / d) xs
  comes ys e parted = e ∙ ap (λ k. give_left k d xs (downs d xs)) ((λ i. h i / p i) ∙ lacking_whole d xs parted)

pub ruleset new = (whole, not_whole, comes)
