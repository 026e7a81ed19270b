-- Who is paid a whole number of cents and goes changes nothing for the others. Assumes nothing.
use Rattle.std.proofs.Common.{◌≡◌, ℕ, suc, ◌+◌, ◌-◌, ◌*◌, cond, ltb, List, get_or, arith, sum}
use native.Mathlib.Nat.{mul-sub}
use Rattle.std.specs.List.{remove as without}
use Rattle.std.proofs.lemmas.List.{places}
use Rattle.std.proofs.lemmas.Grind.{common_steps}
use Rattle.std.proofs.lemmas.Bool.Decides.{nat_tests}
use Rattle.std.proofs.lemmas.List.Sums.{sum_by-remove}
use Rattle.estate.specs.Division.{Agrees}
use Rattle.estate.specs.Promises.{WhoGoes}
use Rattle.estate.proofs.Facts.{facts, from_facts}

-- where the one at j stood before the one at i went
abbrev stood : ℕ → ℕ → ℕ
stood i j = cond (ltb j i) j (suc j)

get_or-without : (xs : List ℕ) (i j : ℕ) → get_or (without xs i) j 0 ≡ get_or xs (stood i j) 0
get_or-without xs i j = grind (arith, places, nat_tests)

sum-without : (xs : List ℕ) (i : ℕ) → get_or xs i 0 + sum (without xs i) ≡ sum xs
sum-without xs i = grind (arith, common_steps, sum_by-remove (λ x. x) xs i 0)

others_agree : (d e i x : ℕ) (cs xs : List ℕ) → Agrees d e cs xs → get_or xs i 0 ≡ d * x → Agrees d (e - x) (without cs i) (without xs i)
others_agree d e i x cs xs p paid = record {
  parted = p.parted;
  paired = grind (arith, places, p.paired);
  whole = omega (arith, p.whole, sum-without xs i, mul-sub d e x);
  below = λ j. simp get_or-without (p.below (stood i j));
  plain = λ j k. simp get_or-without (p.plain (stood i j) (stood i k));
}

pub who_goes : WhoGoes
who_goes d e i x cs xs h paid = from_facts d _ _ _ (others_agree d e i x cs xs (facts d e cs xs h) paid)
