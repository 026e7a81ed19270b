-- Shares rounded up or down, as lists. Assumes nothing.
use Rattle.std.proofs.Common.{◌≡◌, ◌≢◌, ℕ, zero, suc, ◌+◌, ◌-◌, ◌*◌, ◌/◌, ◌%◌, ◌<◌, ◌≤◌, Bool, true, false, List, [], ◌∷◌, length, get_or, slice_get, Some, None, nat_lt, ◌&&◌, refl, ap, sym, ◌∙◌, arith, cond}
use Rattle.std.proofs.Math.Nat.{le-mul_of_pos_right, zero-mod}
use Rattle.std.proofs.lemmas.Option.{gets, slice_get_past, slice_get-get_or, unwrap_or-slice_get}
use mir.Val.{bool_byte}
use Rattle.std.proofs.lemmas.List.{get_or_past, take_all}
use Rattle.std.specs.Option.{option_map}
use Rattle.std.proofs.lemmas.Grind.{div_ceil_times}
use Rattle.std.proofs.lemmas.Bool.Decides.{nat_tests}
use Rattle.estate.specs.Cents.{one_more}
use Rattle.wire.specs.Bytes.{Fitting}
use Rattle.wire.proofs.Bytes.{put_more, length-flat_map}
use Rattle.shares.proofs.Words.{word_more}
use Rattle.cents.specs.Rounding.{rounded, rounded_all, lack}

module _ (d : ℕ) where
  pub length-rounded_all : (up : ℕ → Bool) (xs : List ℕ) → length (rounded_all d up xs) ≡ length xs
  unfolding rounded_all
  length-rounded_all up [] = refl
  length-rounded_all up (x ∷ xs) = ap suc (length-rounded_all (λ i. up (suc i)) xs)

  slice_get-rounded_all : (up : ℕ → Bool) (xs : List ℕ) (i : ℕ) → slice_get (rounded_all d up xs) i ≡ option_map (rounded d (up i)) (slice_get xs i)
  unfolding rounded_all
  slice_get-rounded_all up [] i = refl
  slice_get-rounded_all up (x ∷ xs) zero = refl
  slice_get-rounded_all up (x ∷ xs) (suc i) = slice_get-rounded_all (λ i. up (suc i)) xs i

  -- also past the last, where all are zero
  rounded_nothing : (up : Bool) → rounded d up 0 ≡ 0
  rounded_nothing true = omega arith
  rounded_nothing false = omega arith

  get_or-rounded_all : (up : ℕ → Bool) (xs : List ℕ) (i : ℕ) → get_or (rounded_all d up xs) i 0 ≡ rounded d (up i) (get_or xs i 0)
  unfolding rounded_all
  get_or-rounded_all up [] i = sym (rounded_nothing (up i))
  get_or-rounded_all up (x ∷ xs) zero = refl
  get_or-rounded_all up (x ∷ xs) (suc i) = get_or-rounded_all (λ i. up (suc i)) xs i

  -- who is marked besides has a cent more, if it lacks anything
  round_up : (x : ℕ) → 0 < x % d → rounded d true x ≡ suc (rounded d false x)
  round_up x h = omega (arith, h)

  -- a cent more for who is to have one and lacks something
  tested : (x : ℕ) (some also : Bool) → nat_lt 0 (x % d) ≡ some → x / d + bool_byte (some && also) ≡ rounded d also x
  tested x true true e = let some : 0 < x % d = grind (arith, nat_tests, e) in omega (arith, round_up x some)
  tested x true false e = omega arith
  tested x false true e = let none : x % d ≡ 0 = grind (arith, nat_tests, e) in omega (arith, none)
  tested x false false e = omega arith

  -- what the code answers: the share rounded down, and a cent more for who is marked and lacks something
  module _ (up : ℕ → Bool) (xs : List ℕ) (i : ℕ) where
    pub got : (whole left more : ℕ) → whole ≡ get_or xs i 0 / d → left ≡ get_or xs i 0 % d → more ≡ bool_byte (nat_lt 0 left && up i) → i < length xs → Some (whole + more) ≡ slice_get (rounded_all d up xs) i
    got whole left more w l m lt =
        let same : whole + more ≡ rounded d (up i) (get_or xs i 0) = rw (w, m, l) (tested (get_or xs i 0) _ (up i) refl) in
        ap Some same ∙ sym (slice_get-rounded_all up xs i ∙ ap (option_map (rounded d (up i))) (slice_get-get_or xs i 0 lt))

    pub got_past : length xs ≤ i → None ≡ slice_get (rounded_all d up xs) i
    got_past past = sym (slice_get_past (rounded_all d up xs) i (omega (arith, length-rounded_all up xs, past)))

  pub same_rounded : (up also : ℕ → Bool) (xs : List ℕ) → ((k : ℕ) → also k ≡ up k) → rounded_all d also xs ≡ rounded_all d up xs
  same_rounded up also xs h = λ i. rounded_all d (λ k. h k i) xs

  pub rounded_all-one_more : (up also : ℕ → Bool) (xs : List ℕ) (j : ℕ) → j < length xs → up j ≡ false → also j ≡ true → ((k : ℕ) → k ≢ j → also k ≡ up k) → 0 < get_or xs j 0 % d → rounded_all d also xs ≡ one_more (rounded_all d up xs) (suc j)
  unfolding rounded_all
  rounded_all-one_more up also [] j l p q same h = absurd (omega (arith, l))
  rounded_all-one_more up also (x ∷ xs) zero l p q same h =
      let first : rounded d (also 0) x ≡ suc (rounded d (up 0) x) = rw (p, q) (round_up x h) in
      let rest = same_rounded (λ k. up (suc k)) (λ k. also (suc k)) xs (λ k. same (suc k) (omega arith)) in
      λ i. first i ∷ rest i
  rounded_all-one_more up also (x ∷ xs) (suc j) l p q same h =
      let first = same 0 (omega arith) in
      let rest = rounded_all-one_more (λ k. up (suc k)) (λ k. also (suc k)) xs j (omega (arith, l)) p q (λ k n. same (suc k) (omega (arith, n))) h in
      λ i. rounded d (first i) x ∷ rest i

  pub lacked-rounded_all : (up : ℕ → Bool) (xs : List ℕ) (i : ℕ) → 0 < d → get_or xs i 0 - d * get_or (rounded_all d up xs) i 0 ≡ lack d up xs i
  unfolding lack
  lacked-rounded_all up xs i h = rw (get_or-rounded_all up xs i) (lacked (get_or xs i 0) (up i))
    where
      lacked : (x : ℕ) (b : Bool) → x - d * rounded d b x ≡ cond b 0 (x % d)
      lacked x true = omega (arith, h, div_ceil_times x d h)
      lacked x false = omega (arith, h)

  rounded_less : (b : Bool) (x : ℕ) → 0 < d → rounded d b x ≤ x
  rounded_less true x h = omega (arith, h, le-mul_of_pos_right (x / d) h)
  rounded_less false x h = omega (arith, h)

  pub fits : (up : ℕ → Bool) (xs : List ℕ) → 0 < d → Fitting xs → Fitting (rounded_all d up xs)
  fits up xs h f i = omega (arith, get_or-rounded_all up xs i, rounded_less (up i) (get_or xs i 0) h, f i)

  pub lack_most : (up : ℕ → Bool) (xs : List ℕ) (i : ℕ) → lack d up xs i ≤ get_or xs i 0 % d
  unfolding lack
  lack_most up xs i = at_most (up i)
    where
      at_most : (b : Bool) → cond b 0 (get_or xs i 0 % d) ≤ get_or xs i 0 % d
      at_most true = omega arith
      at_most false = omega arith

  -- who is past the last lacks nothing
  pub lack_past : (up : ℕ → Bool) (xs : List ℕ) (i : ℕ) → length xs ≤ i → lack d up xs i ≡ 0
  unfolding lack
  lack_past up xs i past = grind (arith, get_or_past, zero-mod d)

  -- so what is true of each is true at every place
  pub lack_within : (up : ℕ → Bool) (xs : List ℕ) (n most : ℕ) → n ≡ length xs → ((k : ℕ) → k < n → lack d up xs k ≤ most) → (k : ℕ) → lack d up xs k ≤ most
  lack_within up xs n most e h k = grind (arith, h k, lack_past up xs k)

pub ruleset count = (length-rounded_all, fits)

pub ruleset get = (got, got_past)

pub ruleset at_steps = (gets, unwrap_or-slice_get)

pub ruleset write = (word_more, gets)

pub ruleset put = (put_more, gets, take_all, length-flat_map)
