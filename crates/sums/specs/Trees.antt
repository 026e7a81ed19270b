-- When claims and the words beside them are a tree; and what is found going down such words, whatever they are. Assumes
-- nothing.
use Rattle.std.specs.Prelude.{◌≡◌, ℕ, ◌<◌, ◌≤◌, List, length, Some, None, Option}
use Rattle.estate.specs.Limits.{most_there}
use Rattle.std.specs.List.Sorted.{IsNonDecreasing}
use Rattle.estate.specs.Level.{divided_of_sum, scarce_of_sum, target_of_sum}
use Rattle.level.specs.Sides.{gains}
use Rattle.level.specs.declared.closed.Terms.{Terms}
use Rattle.level.specs.Levels.{level_of}
use Rattle.sums.specs.Sums.{sums_of, total_of}
use Rattle.sums.specs.Descending.{IsHeight, Goes, start, level_behind}
use Rattle.sums.specs.declared.descending.Way.{Way}
use Rattle.sums.specs.declared.descending.Descent.{Descent}
use Rattle.sums.specs.declared.tree.Tree.{Tree}

-- It is a tree: the claims ascend, and the sums are those over them.
pub record IsTree (t : Tree) : Type 0 where
  pub rising : IsNonDecreasing t.claims.now
  pub sums : t.sums.now ≡ sums_of t.claims.now

-- What is found going down words ws beside claims ks, whatever they are: where the way down a tree of that height ends.
pub record Descended (ks ws : List ℕ) (n : ℕ) (d : Descent) : Type 0 where
  pub height : ℕ
  pub high : IsHeight (length ks) height
  pub end : Way
  pub goes : Goes height n ks ws start end
  pub few : end.steps ≤ height
  pub level : level_of d.level ≡ level_behind end.filled n ks ws
  pub steps : d.steps ≡ end.steps

-- The terms on which e cents, of a sum s that is claimed, are divided, as the way down this tree gives them.
pub record Leads (e s : ℕ) (t : Tree) (r : Terms) : Type 0 where
  pub side : gains r.side ≡ scarce_of_sum e s
  pub way : Descent
  pub level : r.level ≡ way.level
  pub down : Descended t.claims.now t.sums.now (target_of_sum e s) way

-- The terms that are found where so much is there: none where that is more than may be, and else those on which it is
-- divided. No more is divided than the words tell that is claimed.
abbrev pub LeadsTo : ℕ → Tree → Option Terms → Type 0
LeadsTo there t None = most_there < there
LeadsTo there t (Some r) =
    (there ≤ most_there) × Leads (divided_of_sum there (total_of t.sums.now)) (total_of t.sums.now) t r
