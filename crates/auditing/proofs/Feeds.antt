-- The first feed of a text, and texts without one. Assumes nothing.
use Rattle.std.proofs.Common.{◌≡◌, ℕ, ◌+◌, ◌%◌, ◌^◌, ◌<◌, ◌≤◌, false, List, [], ◌∷◌, ◌++◌, length, take, drop, suc, refl, sym, ap, ◌∙◌, arith}
use Rattle.std.proofs.Math.Seq.{drop-append-add, take-append_seam}
use Rattle.std.proofs.lemmas.Bool.Decides.{nat_tests}
use Rattle.std.proofs.lemmas.Fmt.{decimal_by_steps}
use Rattle.std.proofs.lemmas.List.{append-nil, at_drop_more, drop_all, append_assoc, length-append}
use Rattle.std.specs.Prelude.{slice_index, ◌==◌, cond, not, decimal, codes, if◌then◌else◌, Some, None}
use Rattle.estate.specs.Answers.{parts}
use Rattle.wire.specs.Bytes.{Fitting}
use Rattle.text.specs.Printed.{as_line, behind, spaced, answer_text}
use Rattle.text.specs.Read.{is_blank}
use Rattle.auditing.specs.Texts.{blank_lines, feed_at, first_line, rest_of}

-- that of what is left at a place
pub feed_next : (at : ℕ) (text : List ℕ) → at < length text → feed_at (drop at text) ≡ cond (not (slice_index text at == 10)) (1 + feed_at (drop (at + 1) text)) 0
feed_next at text less = at_drop_more feed_at text at 0 less

pub feed_end : (at : ℕ) (text : List ℕ) → length text ≤ at → feed_at (drop at text) ≡ 0
feed_end at text more = rw (drop_all at text more) refl

pub ruleset feeds = (feed_next, feed_end)

-- In these bytes there is none: whatever is behind them has the first.
abbrev pub OneLine : List ℕ → Type 0
OneLine xs = (rest : List ℕ) → feed_at (xs ++ rest) ≡ length xs + feed_at rest

one_byte : (b : ℕ) → (b == 10) ≡ false → OneLine (b ∷ [])
one_byte b h rest = rw h refl

one_line-append : (xs ys : List ℕ) → OneLine xs → OneLine ys → OneLine (xs ++ ys)
one_line-append xs ys x y rest =
    ap feed_at (append_assoc xs ys rest) ∙ omega (arith, x (ys ++ rest), y rest, length-append xs ys)

one_line-decimal : (n : ℕ) → n < 2 ^ 64 → OneLine (decimal n)
one_line-decimal n fits =
    decimal_by_steps
    (λ _ ds. OneLine ds)
    (λ k less. one_byte (48 + k) (grind (arith, nat_tests)))
    (λ k ds more front. one_line-append ds ((48 + k % 10) ∷ []) front (one_byte (48 + k % 10) (grind (arith, nat_tests))))
    n
    fits

one_line-behind : (ns : List ℕ) → Fitting ns → OneLine (behind ns)
one_line-behind [] fit = λ rest. omega arith
one_line-behind (n ∷ ns) fit =
    one_line-append (codes " " ++ decimal n) (behind ns) (one_line-append (codes " ") (decimal n) (one_byte 32 refl) (one_line-decimal n (fit 0))) (one_line-behind ns (λ i. fit (suc i)))

pub one_line-spaced : (ns : List ℕ) → Fitting ns → OneLine (spaced ns)
one_line-spaced [] fit = λ rest. omega arith
one_line-spaced (n ∷ ns) fit =
    one_line-append (decimal n) (behind ns) (one_line-decimal n (fit 0)) (one_line-behind ns (λ i. fit (suc i)))

pub one_line-parts : (d : ℕ) (xs : List ℕ) → Fitting (d ∷ xs) → OneLine (answer_text (parts d xs))
one_line-parts d xs fit =
    let head = one_line-append (codes "d " ++ decimal d) (codes ":") (one_line-append (codes "d ") (decimal d) (λ rest. omega arith) (one_line-decimal d (fit 0))) (one_byte 58 refl) in
    one_line-append (codes "d " ++ decimal d ++ codes ":") (behind xs) head (one_line-behind xs (λ i. fit (suc i)))

-- so with a feed behind them they are the first line
pub in_lines : (xs rest : List ℕ) → OneLine xs → (first_line (as_line xs ++ rest) ≡ xs) × (rest_of (as_line xs ++ rest) ≡ rest)
in_lines xs rest one =
    let whole = append_assoc xs (10 ∷ []) rest in
    let long : feed_at (xs ++ (10 ∷ rest)) ≡ length xs = omega (arith, one (10 ∷ rest)) in (
      ap first_line whole ∙ (ap (λ n. take n (xs ++ (10 ∷ rest))) long ∙ take-append_seam xs (10 ∷ rest)),
      ap rest_of whole ∙ (ap (λ n. drop (n + 1) (xs ++ (10 ∷ rest))) long ∙ drop-append-add xs (10 ∷ rest) 1),
    )

pub last_line : (xs : List ℕ) → OneLine xs → (first_line (as_line xs) ≡ xs) × (rest_of (as_line xs) ≡ [])
last_line xs one =
    let (first, rest) = in_lines xs [] one in
    let whole = sym (append-nil (as_line xs)) in
    (ap first_line whole ∙ first, ap rest_of whole ∙ rest)

-- blank lines are gone through byte by byte
pub blank_next : (at n : ℕ) (text : List ℕ) → at < length text → blank_lines n (drop at text) ≡ (if is_blank (slice_index text at) then blank_lines n (drop (at + 1) text) else (if slice_index text at == 10 then blank_lines (n + 1) (drop (at + 1) text) else Some n))
unfolding blank_lines
blank_next at n text less = at_drop_more (blank_lines n) text at 0 less

pub blank_end : (at n : ℕ) (text : List ℕ) → length text ≤ at → blank_lines n (drop at text) ≡ None
unfolding blank_lines
blank_end at n text more = rw (drop_all at text more) refl

pub ruleset blanks = (blank_next, blank_end)
