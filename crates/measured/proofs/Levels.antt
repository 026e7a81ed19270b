-- What is measured of a ledger. Assumes nothing.
use Rattle.std.proofs.Common.{◌≡◌, ℕ, ◌*◌, ◌<◌, true, false, List, Some, refl}
use mathlib.Core.Logic.{inl, inr}
use Rattle.estate.specs.Limits.{most_there}
use Rattle.level.specs.Terms.{Found}
use Rattle.level.specs.declared.closed.Terms.{Terms}
use Rattle.register.specs.Row.{part}
use Rattle.sums.specs.Ledger.{room}
use Rattle.sums.specs.Trees.{IsTree, LeadsTo}
use Rattle.sums.specs.declared.tree.Tree.{Tree}
use Rattle.measured.specs.declared.Level.{Level}
use Rattle.measured.specs.Levels.{Measured}

module _ (ws : List ℕ) (n there : ℕ) (old : Level) where
  -- a level is found in a tree
  pub level_found : (new : Level) (t : Terms) (tree : Tree) → new ≡ record { numerator = t.level.numerator; denominator = t.level.denominator } → tree.claims.now ≡ part (room ws) n ws → tree.sums.now ≡ part (2 * room ws) n ws → LeadsTo there tree (Some t) → (IsTree tree → Found there tree.claims.now (Some t)) → Measured ws n there old new true
  unfolding Measured
  level_found new t tree same claims sums leads found =
      record { terms = t; same = same; tree = tree; claims = claims; sums = sums; leads = leads; found = found }

  -- there is no room for so many claims
  pub no_room : room ws < n → Measured ws n there old old false
  unfolding Measured
  no_room few = (refl, inl few)

  -- more is there than may be
  pub too_much : most_there < there → Measured ws n there old old false
  unfolding Measured
  too_much more = (refl, inr more)

pub ruleset measured = (level_found, no_room, too_much)
