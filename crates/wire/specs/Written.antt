-- What writing leaves in lent memory. Assumes nothing.
use Rattle.std.specs.Prelude.{◌≡◌, ℕ, ◌<◌, ◌≤◌, List, ◌++◌, length, drop, Ok, Err, Result}
use Rattle.estate.specs.Answers.{Answer}
use Rattle.wire.specs.Answers.{answer_row, Sendable}
use Rattle.wire.specs.declared.refusals.Refusal.{Refusal}
use Rattle.wire.specs.declared.refusals.Refusal.TheVariants.{NotLent}

-- the row stands first, everything behind it is as it was, and its length is answered
pub record IsWritten (row old new : List ℕ) (n : ℕ) : Type 0 where
  pub long : n ≡ length row
  pub room : n ≤ length old
  pub holds : new ≡ row ++ drop n old

-- too little is lent, and nothing is written
pub record IsRefused (row old new : List ℕ) (why : Refusal) : Type 0 where
  pub refused : why ≡ NotLent
  pub short : length old < length row
  pub same : new ≡ old

-- what writing a row into lent memory, which held old, leaves and answers
abbrev pub Written : List ℕ → List ℕ → List ℕ → Result ℕ Refusal → Type 0
Written row old new (Ok n) = IsWritten row old new n
Written row old new (Err why) = IsRefused row old new why

-- an answer was to be written, and it is one that can be read back
pub record Sent (a : Answer) (old new : List ℕ) (r : Result ℕ Refusal) : Type 0 where
  pub written : Written (answer_row a) old new r
  pub sendable : Sendable a
