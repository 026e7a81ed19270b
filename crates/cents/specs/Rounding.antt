-- Shares rounded to whole cents, and what is then lacking. Assumes nothing.
use Rattle.std.specs.Prelude.{◌≡◌, ℕ, suc, ◌-◌, ◌/◌, ◌%◌, ◌<◌, Bool, true, false, List, [], ◌∷◌, if◌then◌else◌, slice_index}
use Rattle.std.specs.Int.{div_ceil}
use Rattle.std.specs.List.{sum_by}
use Rattle.estate.specs.Cents.{give_left}
use Rattle.cents.specs.declared.bits.Marks.{Marks}
use Rattle.cents.specs.Marks.{is_marked}

-- a share of d-ths of a cent, rounded up or down
abbrev pub rounded : ℕ → Bool → ℕ → ℕ
rounded d up x = if up then div_ceil x d else x / d

-- the shares of all, rounded up for whom `up` says
unfoldable pub rounded_all : ℕ → (ℕ → Bool) → List ℕ → List ℕ
rounded_all d up [] = []
rounded_all d up (x ∷ xs) = rounded d (up 0) x ∷ rounded_all d (λ i. up (suc i)) xs

-- what the one at place i lacks of its share then: nothing, where it is rounded up
unfoldable pub lack : ℕ → (ℕ → Bool) → List ℕ → ℕ → ℕ
lack d up xs i = if up i then 0 else slice_index xs i % d

-- what all together lack, when each share is rounded down
unfoldable pub lacking : ℕ → List ℕ → ℕ
lacking d xs = sum_by (λ x. x % d) xs

-- the whole cents of all, when n more are given
abbrev pub given : ℕ → List ℕ → ℕ → (ℕ → Bool) → List ℕ
given d xs n up = give_left n d xs (rounded_all d up xs)

-- Where n of the parts of which a cent has d are levelled, a claim above the level has so many whole cents, or loses them,
-- and so much is left of it.
abbrev pub level_whole : Bool → ℕ → ℕ → ℕ
level_whole true d n = n / d
level_whole false d n = div_ceil n d

abbrev pub level_left : Bool → ℕ → ℕ → ℕ
level_left true d n = n % d
level_left false d n = (d - n % d) % d

module _ {P : Type 0} (parts : P → ℕ) (items : P → List ℕ) where
  -- the same of shares as the code has them, rounded up for who is marked
  abbrev pub lacking_of : P → ℕ
  lacking_of p = lacking (parts p) (items p)

  abbrev pub lack_of : P → Marks → ℕ → ℕ
  lack_of p more i = lack (parts p) (is_marked more) (items p) i

  abbrev pub cents_with : P → Marks → List ℕ
  cents_with p more = rounded_all (parts p) (is_marked more) (items p)

  abbrev pub given_of : P → ℕ → Marks → List ℕ
  given_of p n more = given (parts p) (items p) n (is_marked more)

  -- whoever is marked lacks more than n when its share is rounded down
  abbrev pub EachLacks : P → Marks → ℕ → Type 0
  EachLacks p more n =
      (i : ℕ) → is_marked more i ≡ true → n < slice_index (items p) i % parts p
