-- What numbers and answers are as text. Assumes nothing.
use Rattle.std.specs.Prelude.{ℕ, List, [], ◌∷◌, ◌++◌, decimal, codes}
use Rattle.std.specs.List.{flat_map}
use Rattle.estate.specs.Answers.{Answer, refused, number, parts, amounts}
use Rattle.wire.specs.Texts.{refused_text}

-- a number with a space before it
abbrev pub apart : ℕ → List ℕ
apart n = codes " " ++ decimal n

-- numbers with a space before each
abbrev pub behind : List ℕ → List ℕ
behind ns = flat_map apart ns

-- numbers with a space between each two
abbrev pub spaced : List ℕ → List ℕ
spaced [] = []
spaced (n ∷ ns) = decimal n ++ behind ns

-- with the feed that ends a line
abbrev pub as_line : List ℕ → List ℕ
as_line text = text ++ (10 ∷ [])

-- an answer
abbrev pub answer_text : Answer → List ℕ
answer_text (refused n p) = refused_text n p
answer_text (number n) = decimal n
answer_text (parts d xs) = codes "d " ++ decimal d ++ codes ":" ++ behind xs
answer_text (amounts xs) = spaced xs
