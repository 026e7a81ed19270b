-- A desk, and what is promised of it: two statements, which the contract of `call` in `desk` names of every desk that does
-- as the contracts say. Assumes nothing.
use Rattle.std.specs.Prelude.{◌≡◌, ℕ, ◌<◌, ◌≤◌, List, [], ◌∷◌}
use Rattle.estate.specs.Calls.{Call}
use Rattle.estate.specs.Answers.{Answer}
use Rattle.estate.specs.Limits.{Limits, most_creditors}
use Rattle.estate.specs.Estates.{new_estate}
use Rattle.estate.specs.Refusals.{turned}
use Rattle.estate.specs.Changes.{ran}
use Rattle.estate.specs.Right.{AllRight}

-- what the lent memory holds
pub record Memory : Type 0 where
  pub words : List ℕ

-- A desk: what its memory is once it is opened, what a call makes of the memory, and what it answers.
pub record Desk : Type 0 where
  pub opened : Limits → Memory
  pub next : Memory → Call → Memory
  pub says : Memory → Call → Answer

-- what it says to a row of calls
unfoldable pub all_said : Desk → Memory → List Call → List Answer
all_said k m [] = []
all_said k m (c ∷ cs) = k.says m c ∷ all_said k (k.next m c) cs

-- the memory after a row of calls
unfoldable pub left_by : Desk → Memory → List Call → Memory
left_by k m [] = m
left_by k m (c ∷ cs) = left_by k (k.next m c) cs

-- The main promise: for every row of calls each answer is right for the estate that the calls before it left. So shares are
-- between each two creditors as two divide, and they add up to what is divided.
abbrev pub AnswersRight : Desk → Type 0
AnswersRight k =
    (l : Limits) (cs : List Call) → l.creditors ≤ most_creditors → AllRight l new_estate cs (all_said k (k.opened l) cs)

-- a call that is turned away changes nothing
abbrev pub RefusalKeeps : Desk → Type 0
RefusalKeeps k =
    (l : Limits) (cs : List Call) (c : Call) → l.creditors ≤ most_creditors → 0 < turned l (ran l new_estate cs) c → k.next (left_by k (k.opened l) cs) c ≡ left_by k (k.opened l) cs
