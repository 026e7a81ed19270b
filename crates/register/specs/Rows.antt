-- A register: two rows of words of the same length, side by side in lent memory, for claims as they came and, from the
-- middle on, for the same claims in order. Assumes nothing.
use Rattle.std.specs.Prelude.{◌≡◌, ℕ, ◌+◌, ◌/◌, ◌<◌, ◌≤◌, ◌⊎◌, List, ◌++◌, length, take, drop, Some, None, Ok, Err, Option, Result, codes, slice_index, slice_set}
use Rattle.estate.specs.Order.{sorted}
use Rattle.register.specs.Row.{grown, Missing, Insertion, Replacement}
use Rattle.register.specs.declared.row.Moved.{Moved}
use Rattle.register.specs.declared.rows.Register.{Register}
use Rattle.register.specs.declared.rows.Unfit.{Unfit}
use Rattle.register.specs.declared.rows.Unfit.TheVariants.{NotThere, OutOfOrder}

-- how many claims there is room for, and where the row in order begins
abbrev pub middle : List ℕ → ℕ
middle ws = length ws / 2

-- One more claim, last among those that came, and where it fits among those in order.
pub record Addition (n c at : ℕ) (ws new : List ℕ) : Type 0 where
  pub room : n < middle ws
  pub inserted : Insertion (middle ws) n c at (slice_set ws n c) new

-- what adding leaves and answers
abbrev pub Added : ℕ → ℕ → List ℕ → List ℕ → Option ℕ → Type 0
Added n c ws new None = (middle ws ≤ n) × (new ≡ ws)
Added n c ws new (Some at) = Addition n c at ws new

-- Another claim at place i among those that came, and for the one that was there among those in order.
pub record Change (n i c from to : ℕ) (ws new : List ℕ) : Type 0 where
  pub room : n ≤ middle ws
  pub there : i < n
  pub replaced : Replacement (middle ws) n (slice_index ws i) c from to (slice_set ws i c) new

-- this is why nothing is changed
abbrev pub IsUnfit : ℕ → ℕ → List ℕ → Unfit → Type 0
IsUnfit n i ws NotThere = (middle ws < n) ⊎ (n ≤ i)
IsUnfit n i ws OutOfOrder =
    (n ≤ middle ws) × (i < n) × Missing (middle ws) (middle ws + n) (slice_index ws i) ws

-- what is printed of it
abbrev pub unfit_text : Unfit → List ℕ
unfit_text NotThere = codes "no such claim is there"
unfit_text OutOfOrder = codes "the claims are not in order"

-- what changing leaves and answers
abbrev pub Changed : ℕ → ℕ → ℕ → List ℕ → List ℕ → Result Moved Unfit → Type 0
Changed n i c ws new (Ok m) = Change n i c m.from m.to ws new
Changed n i c ws new (Err why) = IsUnfit n i ws why × (new ≡ ws)

-- What adding leaves of a register, and answers. Its words are those that were lent.
pub record AddedTo (c : ℕ) (old new : Register) (r : Option ℕ) : Type 0 where
  pub lent : new.rows.ghost_name ≡ old.rows.ghost_name
  pub count : new.count ≡ grown old.count r
  pub added : Added old.count c old.rows.now new.rows.now r

-- What changing leaves of it, and answers.
pub record ChangedIn (i c : ℕ) (old new : Register) (r : Result Moved Unfit) : Type 0 where
  pub lent : new.rows.ghost_name ≡ old.rows.ghost_name
  pub count : new.count ≡ old.count
  pub changed : Changed old.count i c old.rows.now new.rows.now r

-- claims at the start of a row, and what lay behind them
abbrev pub over : List ℕ → List ℕ → List ℕ
over cs row = cs ++ drop (length cs) row

-- Memory that held ws, with a register of these claims in it: as they came, and in order. Every other word is as it was.
abbrev pub kept : List ℕ → List ℕ → List ℕ
kept ws cs = over cs (take (middle ws) ws) ++ over (sorted cs) (drop (middle ws) ws)
