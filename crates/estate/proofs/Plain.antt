-- The plain law: in finer parts it is the same; it divides between two, and no other division does. Assumes nothing.
use Rattle.std.proofs.Common.{◌≡◌, ℕ, ◌-◌, ◌*◌, List, [], ◌∷◌, get_or, arith}
use native.Mathlib.Nat.{mul-sub}
use Rattle.std.proofs.lemmas.Bool.Decides.{nat_tests}
use Rattle.estate.specs.Two.{plainly}
use Rattle.estate.specs.Pairs.{none_above, pairwise}
use Rattle.estate.specs.Division.{Agrees}
use Rattle.estate.specs.Promises.{PlainDivides, OnlyPlain}
use Rattle.estate.proofs.Facts.{facts}

pub plainly_finer : (d s c k : ℕ) → d * plainly s c k ≡ plainly (d * s) (d * c) (d * k)
plainly_finer d s c k = omega (arith, mul-sub d s c, mul-sub d s k, mul-sub d s (s - c), mul-sub d (s - (s - c)) (s - k))

pub plain_divides : PlainDivides
unfolding none_above pairwise
plain_divides e c k h = grind (arith, nat_tests)

two_plainly : (d e c k : ℕ) (xs : List ℕ) → Agrees d e (c ∷ k ∷ []) xs → (2 * get_or xs 0 0 ≡ d * plainly e c k) × (2 * get_or xs 1 0 ≡ d * plainly e k c)
two_plainly d e c k [] p = absurd (omega (arith, p.paired))
two_plainly d e c k (a ∷ []) p = absurd (omega (arith, p.paired))
two_plainly d e c k (a ∷ b ∷ []) p = (omega (arith, p.whole, p.plain 0 1, plainly_finer d e c k), omega (arith, p.whole, p.plain 1 0, plainly_finer d e k c))
two_plainly d e c k (a ∷ b ∷ x ∷ xs) p = absurd (omega (arith, p.paired))

pub only_plain : OnlyPlain
only_plain d e c k xs h = two_plainly d e c k xs (facts d e _ xs h)
