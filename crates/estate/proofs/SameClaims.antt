-- Claims in order are the same claims, each as often, and no others that ascend are. Assumes nothing.
use Rattle.std.proofs.Common.{◌≡◌, ℕ, suc, ◌<◌, cond, eqb, List, [], ◌∷◌, length, get_or, count_by, sym, refl, ap, ⊎_elim, arith}
use Rattle.std.specs.List.{remove}
use Rattle.std.specs.List.Sorted.{IsNonDecreasing}
use Rattle.std.proofs.lemmas.Bool.{cases_eq}
use Rattle.std.proofs.lemmas.Bool.Decides.{nat_tests}
use Rattle.std.proofs.lemmas.List.Sums.{sum_by-cons, sum_by-remove}
use Rattle.estate.specs.Order.{insert, sorted, SameClaims}
use Rattle.estate.proofs.Ordered.{sum_by-sorted, rising_tail}
use Rattle.estate.proofs.Reordered.{sorted_apart}

-- how often a claim is another
abbrev times : ℕ → ℕ → ℕ
times c k = cond (eqb c k) 1 0

pub same_sorted : (cs : List ℕ) → SameClaims (sorted cs) cs
same_sorted cs c = sum_by-sorted (times c) cs

-- and no others that ascend are
counted_stands : (c : ℕ) (cs : List ℕ) → 0 < count_by (eqb c) cs → (i : ℕ) × (i < length cs) × (get_or cs i 0 ≡ c)
counted_stands c [] h = absurd (omega arith)
counted_stands c (k ∷ cs) h =
    ⊎_elim
    (λ (t : c ≡ k). (0, omega arith, sym t))
    (λ (t : c ≡ k → ⊥).
    let more = sum_by-cons (times c) k cs in
    let rest = counted_stands c cs (grind (arith, nat_tests)) in
    (suc rest.0, omega (arith, rest.1), rest.2))
    (cases_eq c k)

insert_least : (k : ℕ) (ks : List ℕ) → IsNonDecreasing (k ∷ ks) → insert k ks ≡ k ∷ ks
unfolding insert
insert_least k [] rise = refl
insert_least k (j ∷ ks) rise = let first = rise 0 1 0 (omega arith) (omega arith) in grind (arith, nat_tests)

module _ (k : ℕ) (ks cs : List ℕ) (i : ℕ) (there : i < length cs) (is : get_or cs i 0 ≡ k) where
  same_rest : SameClaims (k ∷ ks) cs → SameClaims ks (remove cs i)
  same_rest same c =
      omega (arith, same c, sum_by-cons (times c) k ks, sum_by-remove (times c) cs i 0 there, ap (times c) is)

  first_back : IsNonDecreasing (k ∷ ks) → ks ≡ sorted (remove cs i) → k ∷ ks ≡ sorted cs
  first_back rise rest = let least = insert_least k ks rise in let apart = sorted_apart cs i there in cc

pub only_sorted : (ks cs : List ℕ) → IsNonDecreasing ks → SameClaims ks cs → ks ≡ sorted cs
unfolding sorted
only_sorted [] [] rise same = refl
only_sorted [] (c ∷ cs) rise same = absurd (grind (arith, nat_tests, same c, sum_by-cons (times c) c cs))
only_sorted (k ∷ ks) cs rise same =
    let at = counted_stands k cs (grind (arith, nat_tests, same k, sum_by-cons (times k) k ks)) in
    let rest = only_sorted ks (remove cs at.0) (rising_tail k ks rise) (same_rest k ks cs at.0 at.1 at.2 same) in
    first_back k ks cs at.0 at.1 at.2 rise rest
