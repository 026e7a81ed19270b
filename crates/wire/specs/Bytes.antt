-- Numbers as bytes, eight bytes each, low byte first. Assumes nothing.
use Rattle.std.specs.Prelude.{ℕ, zero, suc, ◌^◌, ◌<◌, List, [], ◌∷◌, take, drop, slice_index}
use Rattle.std.specs.Int.{w64, to_le_bytes, from_le_bytes}
use Rattle.std.specs.List.{flat_map}

-- each of these is below m
abbrev pub Below : ℕ → List ℕ → Type 0
Below m ns = (i : ℕ) → slice_index ns i < m

abbrev pub Bytes : List ℕ → Type 0
Bytes bs = Below 256 bs

-- each fits eight bytes
abbrev pub Fitting : List ℕ → Type 0
Fitting ns = Below (2 ^ 64) ns

unfoldable pub eight : ℕ → List ℕ
eight n = to_le_bytes w64 n

-- the number whose eight bytes begin at a place
abbrev pub number_at : List ℕ → ℕ → ℕ
number_at bs i = from_le_bytes w64 (take 8 (drop i bs))

-- the first n numbers in a row of bytes
unfoldable pub numbers : ℕ → List ℕ → List ℕ
numbers zero bs = []
numbers (suc n) bs = number_at bs 0 ∷ numbers n (drop 8 bs)

-- a row: a kind, and numbers behind it
unfoldable pub row : ℕ → List ℕ → List ℕ
row k ns = k ∷ flat_map eight ns
