-- What a desk answers. Assumes nothing.
use Rattle.std.specs.Prelude.{ℕ, List}

pub data Answer : Type 0 where
  refused : ℕ → ℕ → Answer  -- a refusal's number, and its place
  number : ℕ → Answer
  parts : ℕ → List ℕ → Answer  -- the parts of a cent, and how many of them each creditor has
  amounts : List ℕ → Answer  -- how many cents each creditor has
