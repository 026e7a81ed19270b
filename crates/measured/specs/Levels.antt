-- What is measured of a ledger. Assumes nothing.
use Rattle.std.specs.Prelude.{◌≡◌, ℕ, ◌*◌, ◌<◌, ◌⊎◌, Bool, true, false, List, Some}
use Rattle.estate.specs.Limits.{most_there}
use Rattle.level.specs.Terms.{Found}
use Rattle.level.specs.declared.closed.Terms.{Terms}
use Rattle.register.specs.Row.{part}
use Rattle.sums.specs.Ledger.{room}
use Rattle.sums.specs.Trees.{IsTree, LeadsTo}
use Rattle.sums.specs.declared.tree.Tree.{Tree}
use Rattle.measured.specs.declared.Level.{Level}

-- This is the level at which so much there is divided among the first n claims in order of a ledger: what is found in these
-- words, and, where they are claims in order and the sums over them, what the definitions give.
pub record IsLevel (ws : List ℕ) (n there : ℕ) (level : Level) : Type 0 where
  pub terms : Terms
  pub same : level ≡ record { numerator = terms.level.numerator; denominator = terms.level.denominator }
  pub tree : Tree
  pub claims : tree.claims.now ≡ part (room ws) n ws
  pub sums : tree.sums.now ≡ part (2 * room ws) n ws
  pub leads : LeadsTo there tree (Some terms)
  pub found : IsTree tree → Found there tree.claims.now (Some terms)

-- Such a level was written; or none was, since there is no room for so many claims, or more than there may be.
unfoldable pub Measured : List ℕ → ℕ → ℕ → Level → Level → Bool → Type 0
Measured ws n there old new true = IsLevel ws n there new
Measured ws n there old new false = (new ≡ old) × ((room ws < n) ⊎ (most_there < there))
