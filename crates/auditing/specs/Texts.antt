-- The lines of a text. Assumes nothing.
use Rattle.std.specs.Prelude.{ℕ, ◌+◌, List, [], ◌∷◌, take, drop, Some, None, Option, ◌==◌, if◌then◌else◌}
use Rattle.std.specs.List.{position_or_len}
use Rattle.text.specs.Read.{is_blank}

-- the place of the first feed, which ends a line, or that behind the last byte
abbrev pub feed_at : List ℕ → ℕ
feed_at text = position_or_len (λ b. b == 10) text

abbrev pub first_line : List ℕ → List ℕ
first_line text = take (feed_at text) text

-- what is behind the first feed
abbrev pub rest_of : List ℕ → List ℕ
rest_of text = drop (feed_at text + 1) text

-- behind so many lines, how many are before the first that is not blank
unfoldable pub blank_lines : ℕ → List ℕ → Option ℕ
blank_lines n [] = None
blank_lines n (b ∷ bs) =
    if is_blank b then blank_lines n bs else (if b == 10 then blank_lines (n + 1) bs else Some n)
