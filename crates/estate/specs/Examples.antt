-- Estates with their shares and cents, worked out by hand. Assumes nothing.
use Rattle.std.specs.Prelude.{◌≡◌, ℕ, List, [], ◌∷◌}
use Rattle.estate.specs.Calls.{shares, cents}
use Rattle.estate.specs.Answers.{parts, amounts}
use Rattle.estate.specs.Estates.{Estate, new_estate, with_there, with_claimed, Shared}
use Rattle.estate.specs.Right.{says}

pub record Example : Type 0 where
  pub estate : Estate
  pub d : ℕ
  pub in_parts : List ℕ
  pub in_whole : List ℕ

abbrev pub example : ℕ → List ℕ → ℕ → List ℕ → List ℕ → Example
example there claimed d xs ys = record { estate = with_claimed (with_there new_estate there) claimed; d = d; in_parts = xs; in_whole = ys }

abbrev pub table : List Example
table =
    example 100 (100 ∷ 200 ∷ 300 ∷ []) 6 (200 ∷ 200 ∷ 200 ∷ []) (34 ∷ 33 ∷ 33 ∷ [])
    ∷ example 200 (100 ∷ 200 ∷ 300 ∷ []) 4 (200 ∷ 300 ∷ 300 ∷ []) (50 ∷ 75 ∷ 75 ∷ [])
    ∷ example 300 (100 ∷ 200 ∷ 300 ∷ []) 2 (100 ∷ 200 ∷ 300 ∷ []) (50 ∷ 100 ∷ 150 ∷ [])
    ∷ example 4 (4 ∷ 2 ∷ []) 4 (12 ∷ 4 ∷ []) (3 ∷ 1 ∷ [])
    ∷ example 5 (10 ∷ 10 ∷ 10 ∷ []) 6 (10 ∷ 10 ∷ 10 ∷ []) (2 ∷ 2 ∷ 1 ∷ [])
    ∷ example 1 (1 ∷ 1 ∷ []) 4 (2 ∷ 2 ∷ []) (1 ∷ 0 ∷ [])
    ∷ example 7 (3 ∷ 3 ∷ 3 ∷ 3 ∷ []) 8 (14 ∷ 14 ∷ 14 ∷ 14 ∷ []) (2 ∷ 2 ∷ 2 ∷ 1 ∷ [])
    ∷ example 20 (5 ∷ 6 ∷ []) 4 (20 ∷ 24 ∷ []) (5 ∷ 6 ∷ [])
    ∷ example 10 [] 1 [] []
    ∷ []

-- the estate's answers are these, and its shares divide it
pub record Worked (x : Example) : Type 0 where
  pub parted : says x.estate shares ≡ parts x.d x.in_parts
  pub whole : says x.estate cents ≡ amounts x.in_whole
  pub divides : Shared x.estate x.d x.in_parts
