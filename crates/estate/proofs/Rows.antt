-- Rows of numbers at every place, where past the end each is 0. Assumes nothing.
use Rattle.std.proofs.Common.{◌≡◌, ℕ, zero, suc, ◌+◌, ◌-◌, ◌*◌, ◌<◌, ◌≤◌, List, [], ◌∷◌, map, length, get_or, arith, sum}
use Rattle.std.proofs.Math.ListN.{get_or-map}
use Rattle.std.proofs.lemmas.Grind.{common_steps}
use Rattle.std.proofs.lemmas.List.Sums.{sum_by-cons}

pub get_or-map_zero : (f : ℕ → ℕ) → f 0 ≡ 0 → (xs : List ℕ) (i : ℕ) → get_or (map f xs) i 0 ≡ f (get_or xs i 0)
get_or-map_zero f z xs i = rw z at (get_or-map f xs i 0)

pub inside : (xs : List ℕ) (i : ℕ) → 0 < get_or xs i 0 → i < length xs
inside xs i h = grind (arith, common_steps)

pub sum-cons : (x : ℕ) (xs : List ℕ) → sum (x ∷ xs) ≡ x + sum xs
sum-cons = sum_by-cons (λ x. x)

-- where no place has more, the sums are apart by no less than any place
pub sum_apart : (d f : ℕ) (xs ys : List ℕ) → ((j : ℕ) → d * get_or xs j 0 ≤ f * get_or ys j 0) → (i : ℕ) → d * sum xs + (f * get_or ys i 0 - d * get_or xs i 0) ≤ f * sum ys
sum_apart d f [] [] h i = omega arith
sum_apart d f [] (y ∷ ys) h zero = simp sum-cons (omega arith)
sum_apart d f [] (y ∷ ys) h (suc i) = simp sum-cons (omega (arith, sum_apart d f [] ys (λ j. h (suc j)) i))
sum_apart d f (x ∷ xs) [] h i = simp sum-cons (omega (arith, h 0, sum_apart d f xs [] (λ j. h (suc j)) i))
sum_apart d f (x ∷ xs) (y ∷ ys) h zero = simp sum-cons (omega (arith, h 0, sum_apart d f xs ys (λ j. h (suc j)) 0))
sum_apart d f (x ∷ xs) (y ∷ ys) h (suc i) = simp sum-cons (omega (arith, h 0, sum_apart d f xs ys (λ j. h (suc j)) i))
