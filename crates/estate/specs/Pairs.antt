-- Creditors two by two: claims in whole cents beside shares in d-ths of a cent. Assumes nothing.
use Rattle.std.specs.Prelude.{ℕ, ◌+◌, ◌*◌, Bool, List, length, nat_le, slice_index}
use Rattle.std.specs.List.{list_all, range_with_len}
use Rattle.estate.specs.Two.{as_two}

-- the places of all claims
abbrev pub all_places : List ℕ → List ℕ
all_places cs = range_with_len 0 (length cs)

-- nobody has more than it claims
unfoldable pub none_above : ℕ → List ℕ → List ℕ → Bool
none_above d cs xs = list_all (λ i. nat_le (slice_index xs i) (d * slice_index cs i)) (all_places cs)

-- the two at these places divide as two do what they have together
abbrev pub as_two_at : ℕ → List ℕ → List ℕ → ℕ → ℕ → Bool
as_two_at d cs xs i j =
    let a : ℕ = slice_index xs i in
    as_two (a + slice_index xs j) (d * slice_index cs i) (d * slice_index cs j) a

-- so do each two, either of them first; beside itself anybody does
unfoldable pub pairwise : ℕ → List ℕ → List ℕ → Bool
pairwise d cs xs = list_all (λ i. list_all (as_two_at d cs xs i) (all_places cs)) (all_places cs)
