-- Sums over claims in order. Assumes nothing.
use Rattle.std.proofs.Common.{◌≡◌, ℕ, suc, zero, ◌+◌, ◌-◌, ◌<◌, List, [], ◌∷◌, ◌++◌, length, take, drop, sum, slice_index, add-one, add-zero, refl, ap, ◌∙◌, arith}
use Rattle.std.proofs.lemmas.List.{take_all}
use Rattle.estate.proofs.Rows.{sum-cons}
use Rattle.level.specs.Words.{held}
use Rattle.sums.specs.Sums.{sums_from, sums_of, total_of}

pub sums_long : (n : ℕ) (ks : List ℕ) → length (sums_from n ks) ≡ length ks
unfolding sums_from
sums_long n [] = refl
sums_long n (k ∷ ks) = ap suc (sums_long (n + k) ks)

-- the first of them are those over the first claims
pub sums_taken : (p n : ℕ) (ks : List ℕ) → take p (sums_from n ks) ≡ sums_from n (take p ks)
unfolding sums_from
sums_taken zero n ks = refl
sums_taken (suc p) n [] = refl
sums_taken (suc p) n (k ∷ ks) = ap (λ ws. held (n + k) ∷ ws) (sums_taken p (n + k) ks)

-- and behind those the sums go on with what they come to
pub sums_apart : (p n : ℕ) (ks : List ℕ) → sums_from n (take p ks) ++ sums_from (n + sum (take p ks)) (drop p ks) ≡ sums_from n ks
unfolding sums_from
sums_apart zero n ks = rw add-zero refl
sums_apart (suc p) n [] = refl
sums_apart (suc p) n (k ∷ ks) =
    let all : n + sum (k ∷ take p ks) ≡ n + k + sum (take p ks) = omega (arith, sum-cons k (take p ks)) in
    rw all (ap (λ ws. held (n + k) ∷ ws) (sums_apart p (n + k) ks))

-- it does not matter whether what is claimed before them is the largest word or more
pub sums_held : (m n : ℕ) (ks : List ℕ) → held m ≡ held n → sums_from m ks ≡ sums_from n ks
unfolding sums_from
sums_held m n [] same = refl
sums_held m n (k ∷ ks) same =
    let here : held (m + k) ≡ held (n + k) = omega arith in
    rw (here, sums_held (m + k) (n + k) ks here) refl

sum_after : (j n : ℕ) (ks : List ℕ) → j < length ks → slice_index (sums_from n ks) j ≡ held (n + sum (take (suc j) ks))
unfolding sums_from
sum_after j n [] l = absurd (omega arith)
sum_after zero n (k ∷ ks) l = omega (arith, sum-cons k [])
sum_after (suc j) n (k ∷ ks) l =
    omega (arith, sum_after j (n + k) ks (omega arith), sum-cons k (take (suc j) ks))

pub sum_at : (j : ℕ) (ks : List ℕ) → j < length ks → slice_index (sums_of ks) j ≡ held (sum (take (j + 1) ks))
sum_at j ks l = rw add-one (omega (arith, sum_after j 0 ks l))

pub total_sums : (ks : List ℕ) → total_of (sums_of ks) ≡ held (sum ks)
unfolding sums_from
total_sums [] = refl
total_sums (k ∷ ks) =
    let last : length (sums_of (k ∷ ks)) - 1 ≡ length ks = omega (arith, sums_long 0 (k ∷ ks)) in
    ap (slice_index (sums_of (k ∷ ks))) last
    ∙ sum_at (length ks) (k ∷ ks) (omega arith)
    ∙ ap (λ cs. held (sum cs)) (take_all (length ks + 1) (k ∷ ks) (omega arith))

pub total_claimed : (ks ws : List ℕ) (r : ℕ) → r ≡ total_of ws → ws ≡ sums_of ks → r ≡ held (sum ks)
total_claimed ks ws r is same = is ∙ rw same (total_sums ks)

-- what the words before a place tell
pub total_taken : (p : ℕ) (ks : List ℕ) → total_of (take p (sums_of ks)) ≡ held (sum (take p ks))
total_taken p ks = ap total_of (sums_taken p 0 ks) ∙ total_sums (take p ks)
