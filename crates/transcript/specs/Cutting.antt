-- How a file is cut into calls. Assumes nothing.
use Rattle.std.specs.Prelude.{◌≡◌, ℕ, ◌<◌, ◌≤◌, List, [], ◌∷◌, length, take, drop, slice_index}
use Rattle.estate.specs.Calls.{Call}
use Rattle.wire.specs.Calls.{extent, last_call}
use Rattle.wire.specs.Reading.{read, first_extent}

-- The bytes hold these calls, one behind the other: the first is what the bytes that it takes are read as, and the others
-- are held by those behind it. What cannot be read takes all the bytes that are left, so nothing is behind it.
unfoldable pub Holds : List ℕ → List Call → Type 0
Holds bs [] = bs ≡ []
Holds bs (c ∷ cs) =
    (0 < length bs) × (c ≡ read (take (first_extent bs) bs)) × Holds (drop (first_extent bs) bs) cs

-- What stands behind the last call that can be read, where something does: it begins with a byte that no call has, which is
-- at place 0 of it; or with that of a call of which it has not all bytes, and the place is behind the last.
pub data Unread (bs : List ℕ) : ℕ → Type 0 where
  unknown : 0 < length bs → last_call < slice_index bs 0 → Unread bs 0
  cut_short : 0 < length bs → slice_index bs 0 ≤ last_call → length bs < extent (slice_index bs 0) → Unread bs (length bs)
