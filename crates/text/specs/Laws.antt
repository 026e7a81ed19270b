-- What is true of lines that are read. Assumes nothing.
use Rattle.std.specs.Prelude.{◌≡◌, ◌≢◌, ℕ, suc, ◌<◌, ◌≤◌, List, ◌∷◌, ◌++◌, length, take, Ok, Err}
use Rattle.estate.specs.Answers.{parts}
use Rattle.wire.specs.Bytes.{Fitting}
use Rattle.text.specs.Printed.{spaced, answer_text}
use Rattle.text.specs.Read.{Reading, numbers_of, shares_of}

-- numbers that were printed are read as they were
abbrev pub NumbersBack : Type 0
NumbersBack = (ns : List ℕ) → Fitting ns → numbers_of (spaced ns) ≡ Ok ns

-- and so are shares
abbrev pub SharesBack : Type 0
SharesBack =
    (d : ℕ) (xs : List ℕ) → Fitting (d ∷ xs) → shares_of (answer_text (parts d xs)) ≡ Ok (d, xs)

-- Place p is that of the first byte that does not fit: some line that can be read begins with the bytes before it, and none
-- with these and the one at p, if there is one.
pub record LineMisfit {A : Type 0} (read : List ℕ → Reading A) (line : List ℕ) (p : ℕ) : Type 0 where
  pub within : p ≤ length line
  pub before : (rest : List ℕ) × (x : A) × (read (take p line ++ rest) ≡ Ok x)
  pub with_it : p < length line → (rest : List ℕ) (x : A) → read (take (suc p) line ++ rest) ≢ Ok x

-- what is answered of a line that cannot be read is this place
abbrev pub MisfitsFirst : {A : Type 0} → (List ℕ → Reading A) → Type 0
MisfitsFirst read = (line : List ℕ) (p : ℕ) → read line ≡ Err p → LineMisfit read line p
