-- One lemma that computes worked examples: a test that holds of each. Assumes nothing.
use Rattle.std.proofs.Common.{◌≡◌, ℕ, Bool, true, ◌&&◌, eqb, List, refl, ap, All, bytes_eq}
use Rattle.std.proofs.lemmas.Bool.{and_parts, eqb-true}
use Rattle.std.proofs.lemmas.List.Elements.{All-weaker}
use Rattle.std.proofs.lemmas.List.Sums.{AllPass-from_list_all}
use Rattle.std.proofs.lemmas.Slice.Eq.{bytes_eq-Decides}
use Rattle.estate.specs.Pairs.{none_above, pairwise}
use Rattle.estate.specs.Division.{divides}
use Rattle.estate.specs.Cents.{lacks_most, give_left, in_cents}
use Rattle.estate.specs.Order.{insert, sorted}
use Rattle.estate.specs.Level.{fill}
use Rattle.estate.specs.Closed.{denominator, division}
use Rattle.estate.specs.Answers.{parts, amounts}
use Rattle.estate.specs.Estates.{counted, divided}
use Rattle.estate.specs.Right.{says}
use Rattle.estate.specs.Examples.{Example, Worked, table}

-- the four tests of an example
module _ (x : Example) where
  abbrev e : ℕ
  e = divided x.estate

  abbrev cs : List ℕ
  cs = counted x.estate

  abbrev tests : Bool
  tests =
      (eqb (denominator e cs) x.d && bytes_eq (division e cs) x.in_parts) && (bytes_eq (in_cents (denominator e cs) e (division e cs)) x.in_whole && divides x.d e cs x.in_parts)

  worked : tests ≡ true → Worked x
  unfolding says
  worked h =
      let halves = and_parts _ _ h in
      let left = and_parts _ _ halves.0 in
      let right = and_parts _ _ halves.1 in
      let d = eqb-true _ _ left.0 in
      let xs = (bytes_eq-Decides _ _).0 left.1 in
      record {
        parted = λ i. parts (d i) (xs i);
        whole = ap amounts ((bytes_eq-Decides _ _).0 right.0);
        divides = right.1;
      }

pub examples_hold : All Worked table
unfolding none_above pairwise lacks_most give_left insert sorted fill
examples_hold = All-weaker (λ x. tests x ≡ true) Worked worked table (AllPass-from_list_all tests table refl)
