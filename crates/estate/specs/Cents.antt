-- Whole cents from shares in d-ths of a cent. Assumes nothing.
use Rattle.std.specs.Prelude.{◌≡◌, ℕ, zero, suc, ◌+◌, ◌-◌, ◌*◌, ◌/◌, ◌<◌, ◌≤◌, Bool, List, [], ◌∷◌, map, length, if◌then◌else◌, nat_lt, slice_index, slice_set, sum}

-- each share rounded down
abbrev pub downs : ℕ → List ℕ → List ℕ
downs d xs = map (λ x. x / d) xs

-- Who lacks most of its share xs with the cents ys, of equals the first: its place counted from 1, or 0 where nobody lacks
-- anything. So far i were looked at, and the one at `at` lacks `most`.
unfoldable pub lacks_most : ℕ → List ℕ → List ℕ → ℕ → ℕ → ℕ → ℕ
lacks_most d [] ys i most at = at
lacks_most d (x ∷ xs) [] i most at = at
lacks_most d (x ∷ xs) (y ∷ ys) i most at =
    let more : Bool = nat_lt most (x - d * y) in
    lacks_most d xs ys (suc i) (if more then x - d * y else most) (if more then suc i else at)

-- one cent more for the one at a place counted from 1; for the place 0, which is nobody's, nothing
abbrev pub one_more : List ℕ → ℕ → List ℕ
one_more ys zero = ys
one_more ys (suc i) = slice_set ys i (suc (slice_index ys i))

-- n cents, one after the other, each to who at that moment lacks most of its share
unfoldable pub give_left : ℕ → ℕ → List ℕ → List ℕ → List ℕ
give_left zero d xs ys = ys
give_left (suc n) d xs ys = give_left n d xs (one_more ys (lacks_most d xs ys 0 0 0))

-- e cents, as the shares xs have them, in whole cents
abbrev pub in_cents : ℕ → ℕ → List ℕ → List ℕ
in_cents d e xs = give_left (e - sum (downs d xs)) d xs (downs d xs)

-- y cents are less than a cent away from x of the parts of which a cent has d
abbrev pub Near : ℕ → ℕ → ℕ → Type 0
Near d x y = (d * y < x + d) × (x < d * y + d)

-- The cents ys, of shares xs in d-ths of a cent, pay e cents to the claims cs: an amount for each claim, together e, each
-- less than a cent away from the share, none above the claim.
pub record Pays (d e : ℕ) (cs xs ys : List ℕ) : Type 0 where
  pub paired : length ys ≡ length cs
  pub whole : sum ys ≡ e
  pub near : (i : ℕ) → Near d (slice_index xs i) (slice_index ys i)
  pub below : (i : ℕ) → slice_index ys i ≤ slice_index cs i
