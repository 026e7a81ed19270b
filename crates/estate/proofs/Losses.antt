-- What is lost is divided as that sum would be if it were there. Assumes nothing.
use Rattle.std.proofs.Common.{◌≡◌, ℕ, zero, suc, ◌+◌, ◌-◌, ◌*◌, ◌≤◌, List, [], ◌∷◌, length, get_or, refl, arith, sum}
use native.Mathlib.Nat.{mul-sub}
use Rattle.estate.specs.Division.{Agrees}
use Rattle.estate.specs.Promises.{losses, LostAlike}
use Rattle.estate.proofs.Rows.{sum-cons}
use Rattle.estate.proofs.Facts.{facts, from_facts}

module _ (d : ℕ) where
  length-losses : (cs xs : List ℕ) → length xs ≡ length cs → length (losses d cs xs) ≡ length cs
  unfolding losses
  length-losses [] xs l = refl
  length-losses (c ∷ cs) [] l = omega arith
  length-losses (c ∷ cs) (x ∷ xs) l = omega (arith, length-losses cs xs (omega arith))

  get_or-losses : (cs xs : List ℕ) → length xs ≡ length cs → (i : ℕ) → get_or (losses d cs xs) i 0 ≡ d * get_or cs i 0 - get_or xs i 0
  unfolding losses
  get_or-losses [] xs l i = omega arith
  get_or-losses (c ∷ cs) [] l i = absurd (omega arith)
  get_or-losses (c ∷ cs) (x ∷ xs) l zero = refl
  get_or-losses (c ∷ cs) (x ∷ xs) l (suc i) = get_or-losses cs xs (omega arith) i

  sum-losses : (cs xs : List ℕ) → length xs ≡ length cs → ((i : ℕ) → get_or xs i 0 ≤ d * get_or cs i 0) → sum (losses d cs xs) + sum xs ≡ d * sum cs
  unfolding losses
  sum-losses [] [] l b = omega arith
  sum-losses [] (x ∷ xs) l b = absurd (omega arith)
  sum-losses (c ∷ cs) [] l b = absurd (omega arith)
  sum-losses (c ∷ cs) (x ∷ xs) l b =
      simp sum-cons (omega (arith, b 0, sum-losses cs xs (omega arith) (λ i. b (suc i))))

  pub losses_agree : (e : ℕ) (cs xs : List ℕ) → Agrees d e cs xs → Agrees d (sum cs - e) cs (losses d cs xs)
  losses_agree e cs xs p =
      let lost = get_or-losses cs xs p.paired in
      record {
        parted = p.parted;
        paired = length-losses cs xs p.paired;
        whole = omega (arith, p.whole, sum-losses cs xs p.paired p.below, mul-sub d (sum cs) e);
        below = λ i. omega (arith, lost i);
        plain = λ i j. omega (arith, lost i, lost j, p.plain i j, p.below i, p.below j);
      }

pub lost_alike : LostAlike
lost_alike d e cs xs h = from_facts d _ cs _ (losses_agree d e cs xs (facts d e cs xs h))
