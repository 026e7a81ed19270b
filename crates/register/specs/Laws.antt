-- What the contracts of this crate come to, said in lists. The contract of `enter_all` names each. Assumes nothing.
use Rattle.std.specs.Prelude.{◌≡◌, ℕ, ◌+◌, ◌-◌, ◌≤◌, List, [], ◌∷◌, ◌++◌, length, Contains, slice_set}
use borrow.Rule.Slice.PartMut.{put_mid}
use Rattle.std.specs.List.{insert as inserted, remove as removed}
use Rattle.std.specs.List.Sorted.{IsNonDecreasing}
use Rattle.estate.specs.Order.{insert, remove, sorted, SameClaims}
use Rattle.register.specs.Row.{part, Fits, Missing, Insertion, Removal, Replacement}
use Rattle.register.specs.Rows.{middle, kept, Addition, Change, IsUnfit}
use Rattle.register.specs.declared.rows.Unfit.TheVariants.{OutOfOrder}

-- Whatever memory holds, the claim is in the part, at its place, and nothing outside the part is changed. Of a part in
-- order, the claim is in before the first that is not smaller.
abbrev pub Inserts : Type 0
Inserts =
    (low n c at : ℕ) (ws new : List ℕ) → Insertion low n c at ws new → (new ≡ put_mid low (n + 1) ws (inserted (part low n ws) (at - low) c)) × (IsNonDecreasing (part low n ws) → inserted (part low n ws) (at - low) c ≡ insert c (part low n ws))

-- The claim is out, and 0 stands last.
abbrev pub Removes : Type 0
Removes =
    (low n c at : ℕ) (ws new : List ℕ) → Removal low n c at ws new → (new ≡ put_mid low n ws (removed (part low n ws) (at - low) ++ 0 ∷ [])) × (IsNonDecreasing (part low n ws) → removed (part low n ws) (at - low) ≡ remove c (part low n ws))

-- One is out, and the other is in.
abbrev pub Replaces : Type 0
Replaces =
    (low n old c from to : ℕ) (ws new : List ℕ) → Replacement low n old c from to ws new → (new ≡ put_mid low n ws (inserted (removed (part low n ws) (from - low)) (to - low) c)) × (IsNonDecreasing (part low n ws) → inserted (removed (part low n ws) (from - low)) (to - low) c ≡ insert c (remove old (part low n ws)))

-- In a part in order, or between any two places of it, a claim fits at one place only.
abbrev pub OnePlace : Type 0
OnePlace =
    (low n l h c a b : ℕ) (ws : List ℕ) → IsNonDecreasing (part low n ws) → low + n ≤ length ws → low ≤ l → h ≤ low + n → Fits l h c ws a → Fits l h c ws b → a ≡ b

-- What is missing from a part in order is not in it.
abbrev pub NotIn : Type 0
NotIn =
    (low n c : ℕ) (ws : List ℕ) → low + n ≤ length ws → Missing low (low + n) c ws → IsNonDecreasing (part low n ws) → Contains (part low n ws) c → ⊥

-- Ascending claims stay so with one more, and with one less.
abbrev pub StaysRising : Type 0
StaysRising = (c : ℕ) (ks : List ℕ) → IsNonDecreasing ks → IsNonDecreasing (insert c ks) × IsNonDecreasing (remove c ks)

-- Claims in order ascend, and they are the same claims: each is there as often as it came.
abbrev pub Ascending : Type 0
Ascending = (cs : List ℕ) → IsNonDecreasing (sorted cs) × SameClaims (sorted cs) cs

-- Nothing else ascends and is the same claims.
abbrev pub OnlyAscending : Type 0
OnlyAscending = (ks cs : List ℕ) → IsNonDecreasing ks → SameClaims ks cs → ks ≡ sorted cs

-- With one more claim a register is that of the claims with it last, as they came and in order.
abbrev pub Adds : Type 0
Adds =
    (c at : ℕ) (ws cs new : List ℕ) → length cs ≤ middle ws → Addition (length cs) c at (kept ws cs) new → new ≡ kept ws (cs ++ c ∷ [])

-- With another claim at a place it is that of the claims with the other there.
abbrev pub Changes : Type 0
Changes =
    (i c from to : ℕ) (ws cs new : List ℕ) → length cs ≤ middle ws → Change (length cs) i c from to (kept ws cs) new → new ≡ kept ws (slice_set cs i c)

-- No register is out of order.
abbrev pub NeverOutOfOrder : Type 0
NeverOutOfOrder =
    (i : ℕ) (ws cs : List ℕ) → length cs ≤ middle ws → IsUnfit (length cs) i (kept ws cs) OutOfOrder → ⊥
