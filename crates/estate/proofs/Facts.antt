-- A division as facts on numbers: one way in, one way out. Assumes nothing.
use Rattle.std.proofs.Common.{◌≡◌, ℕ, ◌*◌, ◌<◌, ◌≤◌, leb, Bool, true, List, length, get_or, ◌∙◌, arith}
use Rattle.std.specs.List.{list_all}
use Rattle.std.proofs.lemmas.Bool.{le-leb, eq-eqb}
use Rattle.std.proofs.lemmas.Bool.Decides.{nat_tests}
use Rattle.std.proofs.lemmas.List.{get_or_past}
use Rattle.std.proofs.lemmas.List.FromFn.{get_or-range_with_len, length-range_with_len}
use Rattle.std.proofs.lemmas.List.Sums.{AllPass-from_list_all, list_all-from_AllPass}
use Rattle.estate.specs.Pairs.{all_places, none_above, as_two_at, pairwise}
use Rattle.estate.specs.Division.{divides, Agrees}
use Rattle.estate.specs.Promises.{AgreesWithLaw}

-- a test that all places pass, and each
module _ (p : ℕ → Bool) (cs : List ℕ) where
  each_passes : list_all p (all_places cs) ≡ true → (i : ℕ) → i < length cs → p i ≡ true
  each_passes h i l =
      let is : get_or (all_places cs) i 0 ≡ i = get_or-range_with_len 0 (length cs) i 0 l ∙ omega arith in
      rw is at (AllPass-from_list_all p (all_places cs) h i 0 (omega (arith, l, length-range_with_len 0 (length cs))))

  all_pass : ((i : ℕ) → p i ≡ true) → list_all p (all_places cs) ≡ true
  all_pass h = list_all-from_AllPass p (all_places cs) (λ i d l. h (get_or (all_places cs) i d))

module _ (d e : ℕ) (cs xs : List ℕ) where
  abbrev not_above : ℕ → Bool
  not_above i = leb (get_or xs i 0) (d * get_or cs i 0)

  abbrev as_two_with_all : ℕ → Bool
  as_two_with_all i = list_all (as_two_at d cs xs i) (all_places cs)

  pub facts : divides d e cs xs ≡ true → Agrees d e cs xs
  unfolding none_above pairwise
  facts h =
      let paired : length xs ≡ length cs = grind (arith, nat_tests) in
      let low = each_passes not_above cs (grind (arith, nat_tests)) in
      let two = λ (i j : ℕ) (l : i < length cs). each_passes (as_two_at d cs xs i) cs (each_passes as_two_with_all cs (grind (arith, nat_tests)) i l) j in
      let below : (i : ℕ) → get_or xs i 0 ≤ d * get_or cs i 0 = λ i. grind (arith, nat_tests, get_or_past, low i) in
      record {
        parted = grind (arith, nat_tests);
        paired = paired;
        whole = grind (arith, nat_tests);
        below = below;
        plain = λ i j. grind (arith, nat_tests, get_or_past, two i j, below i, below j);
      }

  pub from_facts : Agrees d e cs xs → divides d e cs xs ≡ true
  unfolding none_above pairwise
  from_facts p =
      let low = all_pass not_above cs (λ i. le-leb _ _ (p.below i)) in
      let two = all_pass as_two_with_all cs (λ i. all_pass (as_two_at d cs xs i) cs (λ j. eq-eqb _ _ (omega (arith, p.plain i j, p.below i, p.below j)))) in
      grind (arith, nat_tests)

pub agrees_with_law : AgreesWithLaw
agrees_with_law d e cs xs = (facts d e cs xs, from_facts d e cs xs)
