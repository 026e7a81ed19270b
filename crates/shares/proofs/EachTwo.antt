-- Shares that each two divide as two do, and divisions. Assumes nothing.
use Rattle.std.proofs.Common.{◌≡◌, ℕ, ◌+◌, ◌*◌, ◌<◌, ◌≤◌, ◌⊎◌, inl, inr, true, List, length, Ok, Err, get_or, refl, arith, sum}
use Rattle.std.proofs.lemmas.List.{get_or_past}
use Rattle.std.proofs.lemmas.Bool.{both_ways}
use Rattle.std.proofs.lemmas.Bool.Decides.{nat_tests}
use Rattle.estate.specs.Two.{plainly}
use Rattle.estate.specs.Division.{divides, Agrees}
use Rattle.estate.proofs.Facts.{facts, from_facts}
use Rattle.shares.specs.Pairs.{is_fair_at, FirstUnfair, Answered, Verdict}
use Rattle.shares.specs.Laws.{AcceptsDivisions, OnlyDivisions, NobodyAbove, OneVerdict}
use Rattle.shares.specs.declared.pairs.Fault.TheVariants.{Unpaired, NoParts, Pair, Alone}

module _ (d : ℕ) (cs xs : List ℕ) where
  all_fair : (e : ℕ) → divides d e cs xs ≡ true → (i j : ℕ) → is_fair_at d cs xs i j ≡ true
  all_fair e h i j =
      let p = facts d e cs xs h in
      grind (arith, nat_tests, p.below i, p.below j, p.plain i j)

  -- what is accepted; of each list the numbers past its end are zero
  module _ (v : Verdict d cs xs (Ok tt)) where
    two : (i j : ℕ) → i < j → j < length cs → is_fair_at d cs xs i j ≡ true
    two i j h k = v.1 i (omega arith) j h k

    below : (i : ℕ) → get_or xs i 0 ≤ d * get_or cs i 0
    below i = grind (arith, nat_tests, get_or_past, two 0 1, two 0 i)

    plain : (i j : ℕ) → 2 * get_or xs i 0 ≡ plainly (get_or xs i 0 + get_or xs j 0) (d * get_or cs i 0) (d * get_or cs j 0)
    plain i j = grind (arith, nat_tests, get_or_past, below i, below j, two i j, two j i)

    agrees : (e : ℕ) → sum xs ≡ d * e → Agrees d e cs xs
    agrees e w = record { parted = v.0.1; paired = v.0.0; whole = w; below = below; plain = plain }

  one_pair : (i j k l : ℕ) → FirstUnfair d cs xs i j → FirstUnfair d cs xs k l → (i ≡ k) × (j ≡ l)
  one_pair i j k l f g = grind (arith, both_ways, f.lower k, g.lower i, f.same l, g.same j)

  -- which answer it is, and what is so then
  abbrev Told : Answered → Type 0
  Told r =
      ((r ≡ Err Unpaired) × Verdict d cs xs (Err Unpaired))
      ⊎ (((r ≡ Err NoParts) × Verdict d cs xs (Err NoParts))
      ⊎ (((i j : ℕ) × (r ≡ Err (Pair i j)) × Verdict d cs xs (Err (Pair i j)))
      ⊎ (((r ≡ Err Alone) × Verdict d cs xs (Err Alone))
      ⊎ ((r ≡ Ok tt) × Verdict d cs xs (Ok tt)))))

  told : (r : Answered) → Verdict d cs xs r → Told r
  told (Err Unpaired) v = inl (refl, v)
  told (Err NoParts) v = inr (inl (refl, v))
  told (Err (Pair i j)) v = inr (inr (inl (i, j, refl, v)))
  told (Err Alone) v = inr (inr (inr (inl (refl, v))))
  told (Ok u) v = inr (inr (inr (inr (refl, v))))

pub accepts_divisions : AcceptsDivisions
accepts_divisions d e cs xs r v h =
    let p = facts d e cs xs h in
    grind (arith, told d cs xs r v, p.below 0, all_fair d cs xs e h, both_ways)

pub only_divisions : OnlyDivisions
only_divisions d e cs xs v w = from_facts d e cs xs (agrees d cs xs v e w)

pub nobody_above : NobodyAbove
nobody_above d i cs xs v = below d cs xs v i

pub one_verdict : OneVerdict
one_verdict d cs xs r s v w = grind (arith, told d cs xs r v, told d cs xs s w, one_pair, both_ways, two)
