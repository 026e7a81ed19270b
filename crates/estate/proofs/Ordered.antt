-- Claims in order: they rise, and they are the same claims, so that every sum over them stays. Assumes nothing.
use Rattle.std.proofs.Common.{◌≡◌, ℕ, zero, suc, ◌≤◌, eqb, leb, List, [], ◌∷◌, length, All, sum_by, sum, IsPermutation, refl, arith}
use Rattle.std.specs.List.Sorted.{IsNonDecreasing}
use Rattle.std.proofs.lemmas.Bool.{leb-true, leb-false, cond_both}
use Rattle.std.proofs.lemmas.List.Elements.{All-nil, All-cons, All-head, All-tail}
use Rattle.std.proofs.lemmas.List.Sorted.{IsNonDecreasingBy-short, IsPermutation-refl, IsPermutation-cons, IsPermutation-swap, IsPermutation-trans, length_permutation, sum_by-IsPermutation, All-permutation}
use Rattle.estate.specs.Order.{insert, remove, sorted}

moved_insert : (c : ℕ) (ks : List ℕ) → IsPermutation (c ∷ ks) (insert c ks)
unfolding insert
moved_insert c [] = IsPermutation-refl (c ∷ [])
moved_insert c (k ∷ ks) =
    let behind = IsPermutation-cons k _ _ (moved_insert c ks) in
    let turned = IsPermutation-swap (c ∷ k ∷ ks) (k ∷ c ∷ ks) 0 1 (omega arith) (omega arith) refl in
    cond_both (leb c k) _ _ (IsPermutation (c ∷ k ∷ ks)) (λ _. IsPermutation-refl _) (λ _. IsPermutation-trans _ _ _ turned behind)

pub moved_sorted : (cs : List ℕ) → IsPermutation cs (sorted cs)
unfolding sorted
moved_sorted [] = IsPermutation-refl []
moved_sorted (c ∷ cs) =
    IsPermutation-trans _ _ _ (IsPermutation-cons c _ _ (moved_sorted cs)) (moved_insert c (sorted cs))

pub sum_by-sorted : (f : ℕ → ℕ) (cs : List ℕ) → sum_by f (sorted cs) ≡ sum_by f cs
sum_by-sorted f cs = sum_by-IsPermutation f _ _ (moved_sorted cs)

pub sum-sorted : (cs : List ℕ) → sum (sorted cs) ≡ sum cs
sum-sorted = sum_by-sorted (λ x. x)

pub length-sorted : (cs : List ℕ) → length (sorted cs) ≡ length cs
length-sorted cs = length_permutation _ _ (moved_sorted cs)

rising_cons : (c : ℕ) (ks : List ℕ) → All (λ k. c ≤ k) ks → IsNonDecreasing ks → IsNonDecreasing (c ∷ ks)
rising_cons c ks above rise zero zero d h l = omega arith
rising_cons c ks above rise zero (suc j) d h l = above j d (omega arith)
rising_cons c ks above rise (suc i) zero d h l = absurd (omega arith)
rising_cons c ks above rise (suc i) (suc j) d h l = rise i j d (omega arith) (omega arith)

module _ (c : ℕ) (ks : List ℕ) (rise : IsNonDecreasing (c ∷ ks)) where
  pub rising_head : All (λ k. c ≤ k) ks
  rising_head i d l = rise 0 (suc i) d (omega arith) (omega arith)

  pub rising_tail : IsNonDecreasing ks
  rising_tail i j d h l = rise (suc i) (suc j) d (omega arith) (omega arith)

pub rising_insert : (c : ℕ) (ks : List ℕ) → IsNonDecreasing ks → IsNonDecreasing (insert c ks)
unfolding insert
rising_insert c [] rise = IsNonDecreasingBy-short (λ x. x) (c ∷ []) (omega arith)
rising_insert c (k ∷ ks) rise =
    let rest = rising_insert c ks (rising_tail k ks rise) in
    let above = λ (h : k ≤ c). All-permutation (λ y. k ≤ y) _ _ (moved_insert c ks) (All-cons (λ y. k ≤ y) c ks h (rising_head k ks rise)) in
    cond_both (leb c k) _ _ IsNonDecreasing (λ t. rising_cons c (k ∷ ks) (λ i d l. omega (arith, leb-true c k t, rise 0 i d (omega arith) l)) rise) (λ t. rising_cons k _ (above (omega (arith, leb-false c k t))) rest)

all_remove : (P : ℕ → Type 0) (c : ℕ) (ks : List ℕ) → All P ks → All P (remove c ks)
unfolding remove
all_remove P c [] rest = All-nil P
all_remove P c (k ∷ ks) rest =
    let behind = All-tail P k ks rest in
    cond_both (eqb c k) _ _ (All P) (λ _. behind) (λ _. All-cons P k _ (All-head P k ks rest) (all_remove P c ks behind))

pub rising_remove : (c : ℕ) (ks : List ℕ) → IsNonDecreasing ks → IsNonDecreasing (remove c ks)
unfolding remove
rising_remove c [] rise = rise
rising_remove c (k ∷ ks) rise =
    let rest = rising_remove c ks (rising_tail k ks rise) in
    let above = all_remove (λ y. k ≤ y) c ks (rising_head k ks rise) in
    cond_both (eqb c k) _ _ IsNonDecreasing (λ _. rising_tail k ks rise) (λ _. rising_cons k _ above rest)

pub rising_sorted : (cs : List ℕ) → IsNonDecreasing (sorted cs)
unfolding sorted
rising_sorted [] = IsNonDecreasingBy-short (λ x. x) [] (omega arith)
rising_sorted (c ∷ cs) = rising_insert c (sorted cs) (rising_sorted cs)
