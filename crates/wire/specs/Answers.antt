-- Answers as rows of bytes. Assumes nothing.
use Rattle.std.specs.Prelude.{◌≡◌, ℕ, ◌^◌, ◌<◌, ◌≤◌, List, [], ◌∷◌, length, Some, None, Option, ◌≢◌}
use Rattle.estate.specs.Answers.{Answer, refused, number, parts, amounts}
use Rattle.estate.specs.Refusals.{last_refusal}
use Rattle.wire.specs.Bytes.{Fitting, row}

-- an answer's number and its values: a list follows its count
abbrev pub kind : Answer → ℕ
kind (refused n p) = 0
kind (number n) = 1
kind (parts d xs) = 2
kind (amounts xs) = 3

-- the number of the last kind of answer
abbrev pub last_answer : ℕ
last_answer = 3

abbrev pub fields : Answer → List ℕ
fields (refused n p) = n ∷ p ∷ []
fields (number n) = n ∷ []
fields (parts d xs) = d ∷ length xs ∷ xs
fields (amounts xs) = length xs ∷ xs

abbrev pub answer_row : Answer → List ℕ
answer_row a = row (kind a) (fields a)

-- a refusal is one of the five, at a place of 32 bits
abbrev pub Listed : Answer → Type 0
Listed (refused n p) = (1 ≤ n) × (n ≤ last_refusal) × (p < 2 ^ 32)
Listed (number n) = Unit {0}
Listed (parts d xs) = Unit {0}
Listed (amounts xs) = Unit {0}

-- an answer that can be written: each of its numbers fits eight bytes
pub record Sendable (a : Answer) : Type 0 where
  pub listed : Listed a
  pub fitting : Fitting (fields a)

-- what a kind and the numbers behind it are as an answer
abbrev pub Shaped : ℕ → List ℕ → Option Answer → Type 0
Shaped k ns None = (a : Answer) → Listed a → kind a ≡ k → fields a ≢ ns
Shaped k ns (Some a) = Listed a × (kind a ≡ k) × (fields a ≡ ns)

-- what bytes are as an answer: the one whose bytes they are, or none has them
abbrev pub Received : List ℕ → Option Answer → Type 0
Received bs None = (a : Answer) → Sendable a → answer_row a ≢ bs
Received bs (Some a) = Sendable a × (answer_row a ≡ bs)
