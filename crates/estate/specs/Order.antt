-- Claims in the order of what is claimed. Only values are kept in order, so equal claims need no places. Assumes nothing.
use Rattle.std.specs.Prelude.{◌≡◌, ℕ, List, [], ◌∷◌, count_by, if◌then◌else◌, ◌==◌, nat_eq, nat_le}

-- one more among claims in order: before the first that is not smaller
unfoldable pub insert : ℕ → List ℕ → List ℕ
insert c [] = c ∷ []
insert c (k ∷ ks) = if nat_le c k then c ∷ k ∷ ks else k ∷ insert c ks

-- one less: the first that is equal goes; where there is none, everything stays
unfoldable pub remove : ℕ → List ℕ → List ℕ
remove c [] = []
remove c (k ∷ ks) = if c == k then ks else k ∷ remove c ks

-- claims in ascending order
unfoldable pub sorted : List ℕ → List ℕ
sorted [] = []
sorted (c ∷ cs) = insert c (sorted cs)

-- these are the same claims, in whatever order: each is there as often
abbrev pub SameClaims : List ℕ → List ℕ → Type 0
SameClaims ks cs = (c : ℕ) → count_by (nat_eq c) ks ≡ count_by (nat_eq c) cs
