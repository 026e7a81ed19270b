-- The closed form divides: where little is there by what is filled in, otherwise by what is lost. Assumes nothing.
use Rattle.std.proofs.Common.{◌≡◌, ℕ, ◌-◌, ◌*◌, ◌<◌, ◌≤◌, max, Bool, true, false, cond, List, [], ◌∷◌, map, length, get_or, refl, ap, arith, sum}
use Rattle.std.proofs.lemmas.List.{length-map}
use Rattle.std.proofs.lemmas.List.Sums.{sum-map}
use Rattle.std.proofs.lemmas.Bool.{leb-true, leb-false}
use Rattle.estate.specs.Order.{sorted}
use Rattle.estate.specs.Level.{Level, fill, scarce, target}
use Rattle.estate.specs.Closed.{half, share, denominator, division}
use Rattle.estate.specs.Promises.{losses, ClosedDivides, ThereIsOne}
use Rattle.estate.specs.Division.{Agrees}
use Rattle.estate.specs.Estates.{Estate, counted, divided, Shared}
use Rattle.estate.specs.Right.{own_parts, own_shares}
use Rattle.estate.proofs.Rows.{get_or-map_zero}
use Rattle.estate.proofs.Facts.{from_facts}
use Rattle.estate.proofs.Losses.{losses_agree}
use Rattle.estate.proofs.Ordered.{sum_by-sorted, sum-sorted, length-sorted, rising_sorted}
use Rattle.estate.proofs.Filled.{few_share, some_share, filled}

losses-map : (d : ℕ) (f : ℕ → ℕ) (cs : List ℕ) → losses d cs (map f cs) ≡ map (λ c. d * c - f c) cs
unfolding losses
losses-map d f [] = refl
losses-map d f (c ∷ cs) = ap (λ l. (d * c - f c) ∷ l) (losses-map d f cs)

-- at most half of what is claimed, to one creditor or more
module _ (e : ℕ) (cs : List ℕ) (l : 0 < length cs) (h : 2 * e ≤ sum cs) where
  abbrev v : Level
  v = fill (2 * e) (sorted cs)

  within : 2 * e ≤ sum (sorted cs)
  within = rw sum-sorted h

  parts : 0 < v.sharers
  parts = some_share (2 * e) (sorted cs) (rw length-sorted l) within

  had : (i : ℕ) → get_or (map (half v) cs) i 0 ≡ half v (get_or cs i 0)
  had = get_or-map_zero (half v) (omega arith) cs

  halves : Agrees (2 * v.sharers) e cs (map (half v) cs)
  halves = record {
    parted = omega (arith, parts);
    paired = length-map cs (half v);
    whole = omega (arith, sum-map (half v) cs, sum_by-sorted (half v) cs, filled (2 * e) (sorted cs) (rising_sorted cs) within);
    below = λ i. omega (arith, had i);
    plain = λ i j. omega (arith, had i, had j);
  }

  twice : 2 * v.sharers ≡ max 1 (2 * v.sharers)
  twice = omega (arith, parts)

  gained : Agrees (max 1 (2 * v.sharers)) e cs (map (half v) cs)
  gained = rw (← twice) halves

  lost : Agrees (max 1 (2 * v.sharers)) (sum cs - e) cs (map (λ c. 2 * v.sharers * c - half v c) cs)
  lost = rw (← twice, ← losses-map (2 * v.sharers) (half v) cs) (losses_agree _ e cs _ halves)

module _ (e : ℕ) (cs : List ℕ) (l : 0 < length cs) (h : e ≤ sum cs) where
  abbrev on_side : Bool → Level
  on_side t = fill (cond t (2 * e) (2 * (sum cs - e))) (sorted cs)

  by_side : (t : Bool) → scarce e cs ≡ t → Agrees (max 1 (2 * (on_side t).sharers)) e cs (map (share t (on_side t)) cs)
  by_side true t = gained e cs l (leb-true _ _ t)
  by_side false t =
      let kept : sum cs - (sum cs - e) ≡ e = omega arith in
      rw kept at (lost (sum cs - e) cs l (omega (arith, leb-false _ _ t)))

pub closed_agrees : (e : ℕ) (cs : List ℕ) → e ≤ sum cs → Agrees (denominator e cs) e cs (division e cs)
unfolding sorted fill
closed_agrees e [] h = record { parted = omega arith; paired = refl; whole = omega arith; below = λ i. omega arith; plain = λ i j. omega arith }
closed_agrees e (c ∷ cs) h = by_side e (c ∷ cs) (omega arith) h _ refl

pub denominator_few : (e : ℕ) (cs : List ℕ) → denominator e cs ≤ max 1 (2 * length cs)
denominator_few e cs = omega (arith, few_share (target e cs) (sorted cs), length-sorted cs)

pub closed_divides : ClosedDivides
closed_divides e cs h = (denominator_few e cs, from_facts _ e cs _ (closed_agrees e cs h))

-- so the shares that this desk has for an estate divide it
pub own_divide : (e : Estate) → Shared e (own_parts e) (own_shares e)
own_divide e = (closed_divides (divided e) (counted e) (omega arith)).1

pub there_is_one : ThereIsOne
there_is_one e cs h =
    let closed = closed_divides e cs h in
    (denominator e cs, division e cs, omega (arith, closed.0), closed.1)
