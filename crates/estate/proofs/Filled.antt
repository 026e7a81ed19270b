-- Filling claims that rise: some share the level, no more than there are, and what is filled in is all of it. Assumes nothing.
use Rattle.std.proofs.Common.{◌≡◌, ℕ, suc, ◌+◌, ◌-◌, ◌*◌, ◌<◌, ◌≤◌, leb, List, [], ◌∷◌, length, All, sum_by, sum, ◌∙◌, mul-le-mul_left, arith}
use native.Mathlib.Nat.{mul-sub}
use Rattle.std.specs.List.Sorted.{IsNonDecreasing}
use Rattle.std.proofs.lemmas.Bool.{leb-true, leb-false, cond_both}
use Rattle.std.proofs.lemmas.Bool.Decides.{nat_tests}
use Rattle.std.proofs.lemmas.List.Elements.{All-cons, All-tail}
use Rattle.std.proofs.lemmas.List.Sums.{sum_by-cons}
use Rattle.estate.specs.Level.{Level, fill}
use Rattle.estate.specs.Closed.{half}
use Rattle.estate.proofs.Rows.{sum-cons}
use Rattle.estate.proofs.Ordered.{rising_head, rising_tail}

pub few_share : (n : ℕ) (cs : List ℕ) → (fill n cs).sharers ≤ length cs
unfolding fill
few_share n [] = omega arith
few_share n (c ∷ cs) = let rest = few_share (n - c) cs in grind (arith, nat_tests)

pub some_share : (n : ℕ) (cs : List ℕ) → 0 < length cs → n ≤ sum cs → 0 < (fill n cs).sharers
unfolding fill
some_share n [] l h = absurd (omega arith)
some_share n (c ∷ []) l h = grind (arith, nat_tests)
some_share n (c ∷ k ∷ ks) l h =
    let rest = some_share (n - c) (k ∷ ks) (omega arith) (omega (arith, sum-cons c (k ∷ ks))) in
    grind (arith, nat_tests)

pub spread_below : (n : ℕ) (cs : List ℕ) → (fill n cs).spread ≤ n
unfolding fill
spread_below n [] = omega arith
spread_below n (c ∷ cs) = let rest = spread_below (n - c) cs in grind (arith, nat_tests)

-- a claim that all who are left can have, and none of them claims less, lies below the level
reaches : (n c : ℕ) (cs : List ℕ) → All (λ k. c ≤ k) cs → length cs * c ≤ n → (fill n cs).sharers * c ≤ (fill n cs).spread
unfolding fill
reaches n c [] above h = omega arith
reaches n c (k ∷ ks) above h =
    let first = mul-le-mul_left (length ks) (above 0 0 (omega arith)) in
    let rest = λ (t : suc (length ks) * k < n). reaches (n - k) c ks (All-tail (λ y. c ≤ y) k ks above) (omega arith) in
    grind (arith, nat_tests)

-- all whose claims reach the level have as much
at_level : (v : Level) (c : ℕ) → v.spread ≤ v.sharers * c → (cs : List ℕ) → All (λ k. c ≤ k) cs → sum_by (half v) cs ≡ length cs * v.spread
at_level v c h [] above = omega arith
at_level v c h (k ∷ ks) above =
    omega (arith, sum_by-cons (half v) k ks, mul-le-mul_left v.sharers (above 0 0 (omega arith)), at_level v c h ks (All-tail (λ y. c ≤ y) k ks above))

-- the least is filled, and the rest goes on
filled_more : (n c s : ℕ) (v : Level) → c ≤ n → v.sharers * c ≤ v.spread → s ≡ v.sharers * (n - c) → half v c + s ≡ v.sharers * n
filled_more n c s v h below rest = omega (arith, mul-sub v.sharers n c, mul-le-mul_left v.sharers h)

pub filled : (n : ℕ) (cs : List ℕ) → IsNonDecreasing cs → n ≤ sum cs → sum_by (half (fill n cs)) cs ≡ (fill n cs).sharers * n
unfolding fill
filled n [] rise h = omega arith
filled n (c ∷ cs) rise h =
    let above = rising_head c cs rise in
    let rest = filled (n - c) cs (rising_tail c cs rise) (omega (arith, sum-cons c cs)) in
    let stop = λ (t : n ≤ suc (length cs) * c). at_level (record { spread = n; sharers = suc (length cs) }) c t (c ∷ cs) (All-cons (λ y. c ≤ y) c cs (omega arith) above) in
    let on = λ (t : suc (length cs) * c < n). filled_more n c _ (fill (n - c) cs) (omega arith) (reaches (n - c) c cs above (omega arith)) rest in
    cond_both (leb n (suc (length cs) * c)) _ _ (λ v. sum_by (half v) (c ∷ cs) ≡ v.sharers * n) (λ t. stop (leb-true _ _ t)) (λ t. sum_by-cons _ c cs ∙ on (leb-false _ _ t))
