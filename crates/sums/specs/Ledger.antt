-- A ledger of claims: three rows of words of the same length, side by side in lent memory, for claims as they came, for the
-- same in order, and for the sums over these. The first two are a register. Assumes nothing.
use Rattle.std.specs.Prelude.{◌≡◌, ℕ, ◌+◌, ◌-◌, ◌*◌, ◌/◌, ◌≤◌, min, List, ◌++◌, length, take, drop, Some, None, Ok, Err, Option, Result}
use Rattle.estate.specs.Order.{sorted}
use Rattle.register.specs.Row.{part}
use Rattle.register.specs.Rows.{kept, over, Addition, Change, IsUnfit}
use Rattle.register.specs.declared.row.Moved.{Moved}
use Rattle.register.specs.declared.rows.Unfit.{Unfit}
use Rattle.sums.specs.Sums.{sums_of, renewed}

-- how many claims there is room for
abbrev pub room : List ℕ → ℕ
room ws = length ws / 3

-- the first two rows, which are the register
abbrev pub register : List ℕ → List ℕ
register ws = take (2 * room ws) ws

-- Memory that held ws, with a ledger of these claims in it. Every other word is as it was.
abbrev pub ledger : List ℕ → List ℕ → List ℕ
ledger ws cs = kept (register ws) cs ++ over (sums_of (sorted cs)) (drop (2 * room ws) ws)

-- Rows whose register has become `front`, in which the n claims in order may be others from place a on: so the sums are
-- renewed from there on. Every other word is as it was.
abbrev pub resummed : ℕ → ℕ → List ℕ → List ℕ → List ℕ
resummed n a ws front =
    front ++ (renewed a (part (room ws) n front) (part (2 * room ws) n ws) ++ drop n (drop (2 * room ws) ws))

-- One more claim: in the register, and in the sums over the claims from its place in order on.
pub record Entered (n c at : ℕ) (ws new : List ℕ) : Type 0 where
  pub front : List ℕ
  pub added : Addition n c at (register ws) front
  pub words : new ≡ resummed (n + 1) (at - room ws) ws front

-- what adding leaves and answers
unfoldable pub Enters : ℕ → ℕ → List ℕ → List ℕ → Option ℕ → Type 0
Enters n c ws new None = (room ws ≤ n) × (new ≡ ws)
Enters n c ws new (Some at) = Entered n c at ws new

-- Another claim at place i: in the register, and in the sums from the lower of its places in order on, before and after.
pub record Amended (n i c from to : ℕ) (ws new : List ℕ) : Type 0 where
  pub front : List ℕ
  pub changed : Change n i c from to (register ws) front
  pub words : new ≡ resummed n (min from to - room ws) ws front

-- what changing leaves and answers
unfoldable pub Amends : ℕ → ℕ → ℕ → List ℕ → List ℕ → Result Moved Unfit → Type 0
Amends n i c ws new (Ok m) = Amended n i c m.from m.to ws new
Amends n i c ws new (Err why) = IsUnfit n i (register ws) why × (new ≡ ws)
