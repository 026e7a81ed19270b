-- Who is marked. Assumes nothing.
use Rattle.std.specs.Prelude.{ℕ, ◌/◌, ◌%◌, Bool, ◌==◌, slice_index}
use Rattle.std.specs.Int.{bit_at}
use Rattle.cents.specs.declared.bits.Marks.{Marks}

-- each word has the marks of 64, the lowest bit first
unfoldable pub is_marked : Marks → ℕ → Bool
is_marked m i = bit_at (slice_index m.words (i / 64)) (i % 64) == 1
