-- What is entered in a register, and the claims that it then has. Assumes nothing.
use Rattle.std.specs.Prelude.{◌≡◌, ℕ, ◌≤◌, if◌then◌else◌, List, [], ◌∷◌, ◌++◌, length, fold, Option, Result, nat_lt, slice_set}
use Rattle.register.specs.Rows.{middle, kept, AddedTo, ChangedIn}
use Rattle.register.specs.declared.row.Moved.{Moved}
use Rattle.register.specs.declared.rows.Register.{Register}
use Rattle.register.specs.declared.rows.Unfit.{Unfit}
use Rattle.register.specs.declared.entries.Entry.{Entry}
use Rattle.register.specs.declared.entries.Entry.TheVariants.{Add, Change}

-- one more claim, last, where there is room; or a claim that is another from now on, where it is there
abbrev pub entered : ℕ → List ℕ → Entry → List ℕ
entered room cs (Add c) = if nat_lt (length cs) room then cs ++ c ∷ [] else cs
entered room cs (Change i c) = slice_set cs i c

-- the claims after all entries, from none
abbrev pub claims_of : ℕ → List Entry → List ℕ
claims_of room es = fold (entered room) [] es

-- memory ws has become a register of these claims, of which there are n
pub record Keeps (ws cs : List ℕ) (new : List ℕ) (n : ℕ) : Type 0 where
  pub count : n ≡ length cs
  pub room : n ≤ middle ws
  pub words : new ≡ kept ws cs

-- what entering leaves, whatever the words hold
abbrev pub Done : Entry → Register → Register → Type 0
Done (Add c) old new = (r : Option ℕ) × AddedTo c old new r
Done (Change i c) old new = (r : Result Moved Unfit) × ChangedIn i c old new r
