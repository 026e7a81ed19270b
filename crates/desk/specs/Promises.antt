-- What is promised of a desk, said of every desk that does as the contracts of `open` and `call` say. Each is named by one
-- of these contracts. Assumes nothing.
use Rattle.std.specs.Prelude.{◌≡◌, ◌≢◌, ℕ, ◌≤◌, true, false, List, ◌++◌, ◌==◌, Ok, Result}
use Rattle.estate.specs.Calls.{Call}
use Rattle.estate.specs.Changes.{after}
use Rattle.estate.specs.Desks.{Memory, Desk, AnswersRight, RefusalKeeps}
use Rattle.estate.specs.Estates.{Estate, new_estate}
use Rattle.estate.specs.Limits.{Limits, most_creditors}
use Rattle.estate.specs.Refusals.{unreadable, too_large, turned}
use Rattle.estate.specs.Right.{answered}
use Rattle.wire.specs.declared.refusals.TurnedAway.{TurnedAway}
use Rattle.desk.specs.Memory.{layout, limits_of, estate_of, rest_of, Allowed, Stands, Lent}
use Rattle.desk.specs.Opening.{Opened}
use Rattle.desk.specs.Calling.{Given, Called, turned_alone, turned_unlent}

-- It leaves and answers what these contracts allow: when it is opened in some memory, and with each call, also one that no
-- bytes hold, whatever bytes are lent for the answer, if these are enough.
pub record Obeys (k : Desk) : Type 0 where
  pub opens : (l : Limits) → l.creditors ≤ most_creditors → (m : List ℕ) × Opened l.creditors m (k.opened l).words (Ok tt)
  pub calls : (m : Memory) (c : Call) (out : List ℕ) → Stands m.words → Lent m.words out → (sent : List ℕ) × (r : Result ℕ TurnedAway) × Called c m.words (k.next m c).words out sent r × Given (k.says m c) out sent r

-- the main promise: each answer is right, whatever calls came before
abbrev pub DesksRight : Type 0
DesksRight = (k : Desk) → Obeys k → AnswersRight k

-- a call that is turned away changes nothing
abbrev pub RefusalsKeep : Type 0
RefusalsKeep = (k : Desk) → Obeys k → RefusalKeeps k

-- a call that is turned away by itself gets that answer on every estate and under every limit; any other no estate refuses
-- as unreadable or too large
unfoldable pub RefusedAlone : Type 0
RefusedAlone =
    (l : Limits) (e : Estate) (c : Call) → ((turned_alone c == 0) ≡ false → answered l e c ≡ turned_unlent c) × ((turned_alone c == 0) ≡ true → (turned l e c ≢ unreadable) × (turned l e c ≢ too_large))

-- the desk that the definitions describe
abbrev pub described_desk : Desk
described_desk = record {
  opened = λ l. record { words = layout l new_estate };
  next = λ m c. record { words = layout (limits_of m.words) (after (limits_of m.words) (estate_of m.words) c) ++ rest_of m.words };
  says = λ m c. answered (limits_of m.words) (estate_of m.words) c;
}

-- is one that does as the contracts say
abbrev pub DescribedObeys : Type 0
DescribedObeys = Obeys described_desk

-- in the same memory stands one estate, with the same limits and the same words behind it
abbrev pub OneEstate : Type 0
OneEstate =
    (l k : Limits) (e f : Estate) (rest more : List ℕ) → Allowed l e → Allowed k f → layout l e ++ rest ≡ layout k f ++ more → (l ≡ k) × (e ≡ f) × (rest ≡ more)

-- a new estate is one that a desk may have
unfoldable pub NewDesk : Type 0
NewDesk = (l : Limits) → l.creditors ≤ most_creditors → Allowed l new_estate

-- where such a desk is laid one stands, and the estate after each call is again such
unfoldable pub StaysDesk : Type 0
StaysDesk =
    (l : Limits) (e : Estate) (rest : List ℕ) → Allowed l e → Stands (layout l e ++ rest) × ((c : Call) → Allowed l (after l e c))
