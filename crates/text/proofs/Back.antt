-- What was printed is read back. Assumes nothing.
use Rattle.std.proofs.Common.{◌≡◌, ℕ, suc, ◌+◌, ◌/◌, ◌%◌, ◌^◌, ◌<◌, ◌≤◌, true, false, List, [], ◌∷◌, ◌++◌, length, Some, None, Ok, Option, refl, sym, ap, ◌∙◌, arith}
use Rattle.std.proofs.lemmas.Bool.Decides.{nat_tests}
use Rattle.std.proofs.lemmas.Fmt.{decimal_by_steps}
use Rattle.std.proofs.lemmas.List.{append-nil, append_assoc, length-append}
use Rattle.std.specs.Prelude.{decimal, codes, nat_lt, ◌==◌}
use Rattle.wire.specs.Bytes.{Fitting}
use Rattle.text.specs.Laws.{NumbersBack, SharesBack}
use Rattle.text.specs.Printed.{behind}
use Rattle.text.specs.Read.{is_blank, grown, grows, so_far, closed, with_parts, numbers_from, shares_from}

-- a number with its last digit
digit_grows : (n : ℕ) → n < 2 ^ 64 → (grows (n / 10) (48 + n % 10) ≡ true) × (grown (n / 10) (48 + n % 10) ≡ n)
digit_grows n fits = (grind (arith, nat_tests), omega arith)

-- A reader that takes digits where a number may go on, from the place low on, takes those of a number.
module _ {A : Type 0} (read : ℕ → Option ℕ → List ℕ → A) (low : ℕ) (takes : (at : ℕ) (begun : Option ℕ) (b : ℕ) (bs : List ℕ) → low ≤ at → grows (so_far begun) b ≡ true → read at begun (b ∷ bs) ≡ read (at + 1) (Some (grown (so_far begun) b)) bs) where
  abbrev Taken : ℕ → List ℕ → Type 0
  Taken n ds =
      n < 2 ^ 64 → (at : ℕ) (rest : List ℕ) → low ≤ at → read at None (ds ++ rest) ≡ read (at + length ds) (Some n) rest

  one_taken : (n : ℕ) → n < 10 → Taken n ((48 + n) ∷ [])
  one_taken n less fits at rest l =
      let value : grown 0 (48 + n) ≡ n = omega arith in
      takes at None (48 + n) rest l (grind (arith, nat_tests)) ∙ ap (λ m. read (at + 1) (Some m) rest) value

  more_taken : (n : ℕ) (ds : List ℕ) → 10 ≤ n → Taken (n / 10) ds → Taken n (ds ++ ((48 + n % 10) ∷ []))
  more_taken n ds more h fits at rest l =
      let last : ℕ = 48 + n % 10 in
      let g = digit_grows n fits in
      let front = h (omega arith) at (last ∷ rest) l in
      let step = takes (at + length ds) (Some (n / 10)) last rest (omega arith) g.0 in
      let place : at + length ds + 1 ≡ at + length (ds ++ (last ∷ [])) = omega (arith, length-append ds (last ∷ [])) in
      ap (read at None) (append_assoc ds (last ∷ []) rest) ∙ (front ∙ (step ∙ rw (g.1, place) refl))

  pub numeral_taken : (n : ℕ) → n < 2 ^ 64 → (at : ℕ) (rest : List ℕ) → low ≤ at → read at None (decimal n ++ rest) ≡ read (at + length (decimal n)) (Some n) rest
  numeral_taken n fits = decimal_by_steps Taken one_taken more_taken n fits fits

-- a digit is no blank
pub digit_next : (ns : List ℕ) (at : ℕ) (begun : Option ℕ) (b : ℕ) (bs : List ℕ) → 0 ≤ at → grows (so_far begun) b ≡ true → numbers_from at ns begun (b ∷ bs) ≡ numbers_from (at + 1) ns (Some (grown (so_far begun) b)) bs
unfolding numbers_from
digit_next ns at begun b bs l g =
    let plain : is_blank b ≡ false = grind (arith, nat_tests) in
    rw (plain, g) refl

-- and no colon
pub digit_heads : (at : ℕ) (begun : Option ℕ) (b : ℕ) (bs : List ℕ) → 2 ≤ at → grows (so_far begun) b ≡ true → shares_from at begun (b ∷ bs) ≡ shares_from (at + 1) (Some (grown (so_far begun) b)) bs
unfolding shares_from
digit_heads at begun b bs l g =
    let plain : (b == 58) ≡ false = grind (arith, nat_tests) in
    let zero : (at == 0) ≡ false = grind (arith, nat_tests) in
    let one : (at == 1) ≡ false = grind (arith, nat_tests) in
    let behind : nat_lt at 2 ≡ false = grind (arith, nat_tests) in
    rw (plain, zero, one, behind, g) refl

-- numbers with a space before each are read behind those that were read
behind_read : (ns : List ℕ) → Fitting ns → (at : ℕ) (ms : List ℕ) (begun : Option ℕ) → numbers_from at ms begun (behind ns) ≡ Ok (closed ms begun ++ ns)
unfolding numbers_from
behind_read [] fit at ms begun = ap Ok (sym (append-nil (closed ms begun)))
behind_read (n ∷ ns) fit at ms begun =
    let digits = numeral_taken (λ k b bs. numbers_from k (closed ms begun) b bs) 0 (digit_next (closed ms begun)) n (fit 0) (at + 1) (behind ns) (omega arith) in
    let rest = behind_read ns (λ i. fit (suc i)) (at + 1 + length (decimal n)) (closed ms begun) (Some n) in
    digits ∙ (rest ∙ ap Ok (append_assoc (closed ms begun) (n ∷ []) ns))

pub numbers_back : NumbersBack
unfolding numbers_from
numbers_back [] fit = refl
numbers_back (n ∷ ns) fit =
    numeral_taken (λ k b bs. numbers_from k [] b bs) 0 (digit_next []) n (fit 0) 0 (behind ns) (omega arith) ∙ behind_read ns (λ i. fit (suc i)) (0 + length (decimal n)) [] (Some n)

pub shares_back : SharesBack
unfolding shares_from
shares_back d xs fit =
    let digits = numeral_taken shares_from 2 digit_heads d (fit 0) 2 (codes ":" ++ behind xs) (omega arith) in
    let read = behind_read xs (λ i. fit (suc i)) (2 + length (decimal d) + 1) [] None in
    ap (shares_from 2 None) (append_assoc (decimal d) (codes ":") (behind xs)) ∙ (digits ∙ ap (with_parts d) read)
