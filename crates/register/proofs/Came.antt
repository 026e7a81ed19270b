-- Of words that may hold anything, the claims as they came, after one more and after a change. Assumes nothing.
use Rattle.std.proofs.Common.{◌≡◌, ℕ, ◌+◌, ◌<◌, ◌≤◌, List, [], ◌∷◌, ◌++◌, length, take, slice_index, slice_set, ◌∙◌, arith}
use Rattle.std.proofs.lemmas.List.{places, ext_get_or}
use Rattle.std.proofs.lemmas.Grind.{elements}
use Rattle.std.proofs.Math.Seq.{take-set-lt}
use Rattle.register.specs.Rows.{Addition, Change}

-- what is the same below a place has the same words before it
same_front : (n : ℕ) (xs ys : List ℕ) → n ≤ length xs → length xs ≡ length ys → ((k : ℕ) → k < n → slice_index xs k ≡ slice_index ys k) → take n xs ≡ take n ys
same_front n xs ys few long same =
    ext_get_or 0 _ _ (grind (arith, places)) (λ k h. grind (arith, places))

pub came_added : (n c at : ℕ) (ws new : List ℕ) → Addition n c at ws new → take (n + 1) new ≡ take n ws ++ c ∷ []
came_added n c at ws new a =
    let long = a.inserted.carried.long in
    let front = same_front (n + 1) new (slice_set ws n c) (omega arith) long (λ k h. a.inserted.carried.below k (omega (arith, a.inserted.fits.above)) (omega arith)) in
    let last : take (n + 1) (slice_set ws n c) ≡ take n ws ++ c ∷ [] = grind (arith, elements) in
    front ∙ last

pub came_changed : (n i c from to : ℕ) (ws new : List ℕ) → Change n i c from to ws new → take n new ≡ slice_set (take n ws) i c
came_changed n i c from to ws new a =
    let there = a.there in
    let long = a.replaced.carried.long in
    let front = same_front n new (slice_set ws i c) (omega arith) long (λ k h. a.replaced.carried.below k (omega (arith, a.replaced.goes.above)) (omega (arith, a.replaced.stood.fits.above))) in
    front ∙ take-set-lt n ws i c there
