-- A row of claims in a part of lent memory, and what is done to it. Places are those of words in the memory. Assumes
-- nothing.
use Rattle.std.specs.Prelude.{◌≡◌, ℕ, ◌+◌, ◌-◌, ◌<◌, ◌≤◌, ◌⊎◌, List, length, take, drop, Some, None, Option, slice_index}
use Rattle.register.specs.declared.row.Moved.{Moved}
use Rattle.register.specs.declared.row.Row.{Row}

-- the n words from low on
abbrev pub part : ℕ → ℕ → List ℕ → List ℕ
part low n ws = take n (drop low ws)

-- Of the words from low on and before high: a claim fits where what stands just before is smaller, and what stands there
-- is not.
pub record Fits (low high c : ℕ) (ws : List ℕ) (at : ℕ) : Type 0 where
  pub above : low ≤ at
  pub within : at ≤ high
  pub before : low < at → slice_index ws (at - 1) < c
  pub behind : at < high → c ≤ slice_index ws at

-- It stands where it fits.
pub record Stands (low high c : ℕ) (ws : List ℕ) (at : ℕ) : Type 0 where
  pub fits : Fits low high c ws at
  pub within : at < high
  pub here : slice_index ws at ≡ c

-- It does not stand where it fits.
pub record Missing (low high c : ℕ) (ws : List ℕ) : Type 0 where
  pub at : ℕ
  pub fits : Fits low high c ws at
  pub other : at < high → c < slice_index ws at

-- where a claim was found, if it was
abbrev pub Found : ℕ → ℕ → ℕ → List ℕ → Option ℕ → Type 0
Found low high c ws None = Missing low high c ws
Found low high c ws (Some at) = Stands low high c ws at

-- Where a claim goes that comes for the one at a place: if it is more, before one of those behind, which are then one place
-- further down; else it fits among those before.
pub record Goes (low high from c : ℕ) (ws : List ℕ) (to : ℕ) : Type 0 where
  pub above : low ≤ to
  pub within : to < high
  pub more : slice_index ws from < c → Fits (from + 1) high c ws (to + 1)
  pub less : c ≤ slice_index ws from → Fits low from c ws to

-- What stood at one place is out, and c is in at another; what lay between has moved by one, and nothing else is changed.
pub record Carried (from to c : ℕ) (ws new : List ℕ) : Type 0 where
  pub long : length new ≡ length ws
  pub here : slice_index new to ≡ c
  pub below : (k : ℕ) → k < to → k < from → slice_index new k ≡ slice_index ws k
  pub above : (k : ℕ) → to < k → from < k → slice_index new k ≡ slice_index ws k
  pub down : (k : ℕ) → from ≤ k → k < to → slice_index new k ≡ slice_index ws (k + 1)
  pub up : (k : ℕ) → to < k → k ≤ from → slice_index new k ≡ slice_index ws (k - 1)

-- One more claim in a row of n: the word behind the row becomes its last.
pub record Insertion (low n c at : ℕ) (ws new : List ℕ) : Type 0 where
  pub room : low + n < length ws
  pub fits : Fits low (low + n) c ws at
  pub carried : Carried (low + n) at c ws new

-- what inserting leaves and answers
abbrev pub Inserted : ℕ → ℕ → ℕ → List ℕ → List ℕ → Option ℕ → Type 0
Inserted low n c ws new None = (length ws ≤ low + n) × (new ≡ ws)
Inserted low n c ws new (Some at) = Insertion low n c at ws new

-- One claim less: the last word of the row becomes 0.
pub record Removal (low n c at : ℕ) (ws new : List ℕ) : Type 0 where
  pub room : low + n ≤ length ws
  pub stood : Stands low (low + n) c ws at
  pub carried : Carried at (low + n - 1) 0 ws new

-- what removing leaves and answers
abbrev pub Removed : ℕ → ℕ → ℕ → List ℕ → List ℕ → Option ℕ → Type 0
Removed low n c ws new None = ((length ws < low + n) ⊎ Missing low (low + n) c ws) × (new ≡ ws)
Removed low n c ws new (Some at) = Removal low n c at ws new

-- A claim in the place of another.
pub record Replacement (low n old c from to : ℕ) (ws new : List ℕ) : Type 0 where
  pub room : low + n ≤ length ws
  pub stood : Stands low (low + n) old ws from
  pub goes : Goes low (low + n) from c ws to
  pub carried : Carried from to c ws new

-- what replacing leaves and answers
abbrev pub Replaced : ℕ → ℕ → ℕ → ℕ → List ℕ → List ℕ → Option Moved → Type 0
Replaced low n old c ws new None = ((length ws < low + n) ⊎ Missing low (low + n) old ws) × (new ≡ ws)
Replaced low n old c ws new (Some m) = Replacement low n old c m.from m.to ws new

-- how many claims there are once one more was to be put in, and once one was to be taken out
abbrev pub grown : ℕ → Option ℕ → ℕ
grown n None = n
grown n (Some at) = n + 1

abbrev pub shrunk : ℕ → Option ℕ → ℕ
shrunk n None = n
shrunk n (Some at) = n - 1

-- It is the row from the same place on, of the same lent words, and n of these are claims.
pub record SameRow (old new : Row) (n : ℕ) : Type 0 where
  pub lent : new.words.ghost_name ≡ old.words.ghost_name
  pub start : new.start ≡ old.start
  pub count : new.count ≡ n

-- What inserting leaves of a row that is lent, and answers.
pub record InsertedInto (c : ℕ) (old new : Row) (r : Option ℕ) : Type 0 where
  pub row : SameRow old new (grown old.count r)
  pub inserted : Inserted old.start old.count c old.words.now new.words.now r

-- What removing leaves of it, and answers.
pub record RemovedFrom (c : ℕ) (old new : Row) (r : Option ℕ) : Type 0 where
  pub row : SameRow old new (shrunk old.count r)
  pub removed : Removed old.start old.count c old.words.now new.words.now r

-- What replacing leaves of it, and answers.
pub record ReplacedIn (gone c : ℕ) (old new : Row) (r : Option Moved) : Type 0 where
  pub row : SameRow old new old.count
  pub replaced : Replaced old.start old.count gone c old.words.now new.words.now r
