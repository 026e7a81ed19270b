-- Rows in order: where a claim fits is where it is inserted, and where it stands is where it is removed. Assumes nothing.
use Rattle.std.proofs.Common.{◌≡◌, ℕ, zero, suc, ◌+◌, ◌-◌, ◌<◌, List, [], ◌∷◌, length, arith}
use Rattle.std.specs.List.{insert as inserted, remove as removed, Contains}
use Rattle.std.specs.List.Sorted.{IsNonDecreasing}
use Rattle.std.proofs.lemmas.Grind.{get_or_tail}
use Rattle.std.proofs.lemmas.List.{places, get_or_default}
use Rattle.std.proofs.lemmas.Bool.Decides.{nat_tests}
use Rattle.std.proofs.lemmas.List.Edits.{length-remove, get_or-remove_below, get_or-remove_above}
use Rattle.estate.specs.Order.{insert, remove}
use Rattle.estate.proofs.Ordered.{rising_tail}
use Rattle.register.specs.Row.{Fits, Stands, Missing, Goes}

fits_tail : (k : ℕ) (ks : List ℕ) (c at : ℕ) → Fits 0 (length (k ∷ ks)) c (k ∷ ks) (suc at) → Fits 0 (length ks) c ks at
fits_tail k ks c at f =
    record { above = omega arith; within = omega arith; before = λ h. grind (arith, f.before, get_or_tail); behind = λ h. f.behind (omega arith) }

first_smaller : (k : ℕ) (ks : List ℕ) (c at : ℕ) → IsNonDecreasing (k ∷ ks) → Fits 0 (length (k ∷ ks)) c (k ∷ ks) (suc at) → k < c
first_smaller k ks c at rise f = grind (arith, f.before, rise 0 at 0)

pub inserted_in_order : (ks : List ℕ) (c at : ℕ) → IsNonDecreasing ks → Fits 0 (length ks) c ks at → inserted ks at c ≡ insert c ks
unfolding insert
inserted_in_order [] c at rise f = grind (arith, places)
inserted_in_order (k ∷ ks) c zero rise f = grind (arith, nat_tests, f.behind)
inserted_in_order (k ∷ ks) c (suc at) rise f =
    let rest = inserted_in_order ks c at (rising_tail k ks rise) (fits_tail k ks c at f) in
    grind (arith, nat_tests, first_smaller k ks c at rise f)

pub removed_in_order : (ks : List ℕ) (c at : ℕ) → IsNonDecreasing ks → Stands 0 (length ks) c ks at → removed ks at ≡ remove c ks
unfolding remove
removed_in_order [] c at rise s = absurd (omega (arith, s.within))
removed_in_order (k ∷ ks) c zero rise s = grind (arith, nat_tests)
removed_in_order (k ∷ ks) c (suc at) rise s =
    let rest = removed_in_order ks c at (rising_tail k ks rise) (record { fits = fits_tail k ks c at s.fits; within = omega arith; here = s.here }) in
    grind (arith, nat_tests, first_smaller k ks c at rise s.fits)

pub missing_in_order : (ks : List ℕ) (c : ℕ) → IsNonDecreasing ks → Missing 0 (length ks) c ks → Contains ks c → ⊥
missing_in_order ks c rise m h =
    grind (arith, m.fits.before, m.other, rise h.0 (m.at - 1) 0, rise m.at h.0 0, get_or_default ks h.0 c 0)

-- where a claim goes that comes for another, once that is out
pub goes_in_order : (ks : List ℕ) (from c to : ℕ) → IsNonDecreasing ks → from < length ks → Goes 0 (length ks) from c ks to → Fits 0 (length (removed ks from)) c (removed ks from) to
goes_in_order ks from c to rise h g = record {
  above = omega arith;
  within = omega (arith, g.within, length-remove ks from h);
  before = λ l. grind (arith, g.more, g.less, rise (from - 1) from 0, get_or-remove_below ks from 0 (to - 1), get_or-remove_above ks from 0 (to - 1));
  behind = λ l. grind (arith, g.more, g.less, rise from (from + 1) 0, get_or-remove_below ks from 0 to, get_or-remove_above ks from 0 to, length-remove ks from);
}
