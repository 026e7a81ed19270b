-- The terms of a division. Assumes nothing.
use Rattle.std.specs.Prelude.{◌≡◌, ℕ, ◌<◌, ◌≤◌, List, Some, None, Option, sum}
use Rattle.estate.specs.Limits.{most_there}
use Rattle.estate.specs.Level.{divided_of_sum, scarce_of_sum, target_of_sum}
use Rattle.estate.specs.Closed.{share, parts_at}
use Rattle.level.specs.Sides.{gains}
use Rattle.level.specs.Levels.{level_of, Fills}
use Rattle.level.specs.declared.closed.Terms.{Terms}

-- the parts of a cent on these terms
abbrev pub parts_of : Terms → ℕ
parts_of t = parts_at (level_of t.level)

-- the terms on which e cents, of a sum s that is claimed, are divided among claims in ascending order
pub record AreTerms (e s : ℕ) (ks : List ℕ) (t : Terms) : Type 0 where
  pub side : gains t.side ≡ scarce_of_sum e s
  pub level : Fills ks (target_of_sum e s) t.level

-- what is found: no terms where more is there than may be, and else those on which what is there is divided
abbrev pub Found : ℕ → List ℕ → Option Terms → Type 0
Found there ks None = most_there < there
Found there ks (Some t) = (there ≤ most_there) × AreTerms (divided_of_sum there (sum ks)) (sum ks) ks t

-- what a claim of c gets on these terms, in these parts
abbrev pub share_by : Terms → ℕ → ℕ
share_by t c = share (gains t.side) (level_of t.level) c
