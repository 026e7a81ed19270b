-- Divisions compared, and creditors: more there is nobody's loss, so there is just one; who claims more gets no less and
-- loses no less. Assumes nothing.
use Rattle.std.proofs.Common.{◌≡◌, ◌-◌, true, ℕ, ◌*◌, ◌<◌, ◌≤◌, List, get_or, ap, ◌∙◌, mul-le-mul_left, arith}
use Rattle.estate.specs.Division.{Agrees, divides}
use Rattle.estate.specs.Promises.{MoreThere, JustOne}
use Rattle.estate.proofs.Rows.{sum_apart}
use Rattle.estate.proofs.Facts.{facts}
use Rattle.estate.proofs.Plain.{plainly_finer}

module _ (d f e g : ℕ) (cs xs ys : List ℕ) (p : Agrees d e cs xs) (q : Agrees f g cs ys) where
  -- where one has less of g cents than of e, nobody has more of them
  nobody_more : (i : ℕ) → d * get_or ys i 0 < f * get_or xs i 0 → (j : ℕ) → d * get_or ys j 0 ≤ f * get_or xs j 0
  nobody_more i h j =
      let of_e = ap (λ (z : ℕ). f * z) (p.plain i j) ∙ plainly_finer f _ _ _ in
      let of_g = ap (λ (z : ℕ). d * z) (q.plain i j) ∙ plainly_finer d _ _ _ in
      omega (arith, mul-le-mul_left f (p.below i), mul-le-mul_left d (q.below j))

  less_of_more : e ≤ g → (i : ℕ) → d * get_or ys i 0 < f * get_or xs i 0 → ⊥
  less_of_more h i r =
      omega (arith, ap (λ (z : ℕ). f * z) p.whole, ap (λ (z : ℕ). d * z) q.whole, mul-le-mul_left (d * f) h, sum_apart d f ys xs (nobody_more i r) i)

  no_less : e ≤ g → (i : ℕ) → get_or xs i 0 * f ≤ get_or ys i 0 * d
  no_less h i = omega (arith, less_of_more h i)

pub more_there : MoreThere
more_there d f e g i cs xs ys h p q = no_less d f e g cs xs ys (facts d e cs xs p) (facts f g cs ys q) h i

pub just_one : JustOne
just_one d f e i cs xs ys p q =
    omega (arith, more_there d f e e i cs xs ys (omega arith) p q, more_there f d e e i cs ys xs (omega arith) q p)

module _ (d e i j : ℕ) (cs xs : List ℕ) (h : divides d e cs xs ≡ true) (less : get_or cs i 0 ≤ get_or cs j 0) where
  p : Agrees d e cs xs
  p = facts d e cs xs h

  claimed : d * get_or cs i 0 ≤ d * get_or cs j 0
  claimed = mul-le-mul_left d less

  pub gets_no_less : get_or xs i 0 ≤ get_or xs j 0
  gets_no_less = omega (arith, claimed, p.plain i j, p.below i)

  pub loses_no_less : d * get_or cs i 0 - get_or xs i 0 ≤ d * get_or cs j 0 - get_or xs j 0
  loses_no_less = omega (arith, claimed, p.plain i j, p.below i, p.below j)
