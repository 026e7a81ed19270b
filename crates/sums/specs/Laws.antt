-- What the contracts of a ledger come to, said of claims. The contracts of `add`, `change` and `tree_of` name them. Assumes
-- nothing.
use Rattle.std.specs.Prelude.{◌≡◌, ℕ, ◌*◌, ◌≤◌, List, [], ◌∷◌, ◌++◌, length, slice_set}
use Rattle.estate.specs.Order.{sorted}
use Rattle.register.specs.Row.{part}
use Rattle.register.specs.Rows.{IsUnfit}
use Rattle.register.specs.declared.rows.Unfit.TheVariants.{OutOfOrder}
use Rattle.sums.specs.Ledger.{room, register, ledger, Entered, Amended}
use Rattle.sums.specs.Trees.{IsTree}
use Rattle.sums.specs.declared.tree.Tree.{Tree}

-- A ledger of no claims is any memory.
unfoldable pub Starts : Type 0
Starts = (ws : List ℕ) → ledger ws [] ≡ ws

-- With one more claim a ledger is that of the claims with it last.
unfoldable pub Adds : Type 0
Adds =
    (c at : ℕ) (ws cs new : List ℕ) → length cs ≤ room ws → Entered (length cs) c at (ledger ws cs) new → new ≡ ledger ws (cs ++ c ∷ [])

-- With another claim at a place it is that of the claims with the other there.
unfoldable pub Changes : Type 0
Changes =
    (i c from to : ℕ) (ws cs new : List ℕ) → length cs ≤ room ws → Amended (length cs) i c from to (ledger ws cs) new → new ≡ ledger ws (slice_set cs i c)

-- No ledger is out of order.
unfoldable pub NeverOutOfOrder : Type 0
NeverOutOfOrder =
    (i : ℕ) (ws cs : List ℕ) → length cs ≤ room ws → IsUnfit (length cs) i (register (ledger ws cs)) OutOfOrder → ⊥

-- What is read of a ledger is a tree over its claims in order.
unfoldable pub Reads : Type 0
Reads =
    (ws cs : List ℕ) (t : Tree) → length cs ≤ room ws → t.claims.now ≡ part (room ws) (length cs) (ledger ws cs) → t.sums.now ≡ part (2 * room ws) (length cs) (ledger ws cs) → IsTree t × (t.claims.now ≡ sorted cs)
