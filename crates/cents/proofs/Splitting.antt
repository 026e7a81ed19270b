-- The shares of claims on the terms of a division, without a division for each. Assumes nothing.
use Rattle.std.proofs.Common.{◌≡◌, ℕ, ◌+◌, ◌-◌, ◌*◌, ◌/◌, ◌%◌, ◌^◌, ◌<◌, ◌≤◌, zero, suc, Bool, nat_le, true, false, [], ◌∷◌, get_or, refl, sym, ap, ◌∙◌, arith}
use Rattle.std.proofs.Math.Nat.{zero-div, zero-mod, add-mul-div_left, add-mul-mod_self_left, div-eq_of_lt, mod-eq_of_lt, mod_self, mul-le-mul_left, mul-le-mul, mul-div-le, lt-mul-div-succ, div-lt_iff_lt-mul}
use Rattle.estate.specs.Closed.{share}
use Rattle.std.specs.Int.{div_ceil}
use mir.Val.{bool_byte}
use Rattle.std.proofs.lemmas.Bool.Decides.{nat_tests}
use Rattle.std.proofs.lemmas.Bool.{false≢true}
use Rattle.cents.specs.Rounding.{level_whole, level_left}
use Rattle.level.specs.Words.{held}
use Rattle.level.specs.Sides.{gains}
use Rattle.level.specs.declared.closed.Terms.{Terms}
use Rattle.cents.specs.Splits.{Splits}

-- what a whole number of cents and less than a cent more comes to
divided : (x d q r : ℕ) → x ≡ d * q + r → r < d → (x / d ≡ q) × (x % d ≡ r)
divided x d q r e l =
    let s : x ≡ r + d * q = omega (arith, e) in
    let some : 0 < d = omega (arith, l) in
    (omega (arith, ap (λ k. k / d) s, add-mul-div_left r q some, div-eq_of_lt l), omega (arith, ap (λ k. k % d) s, add-mul-mod_self_left r d q, mod-eq_of_lt l))

-- a quotient by m, from one by twice m
pub halved : (m n d b : ℕ) → 0 < m → d ≡ 2 * m → b ≡ bool_byte (nat_le m (n % d)) → 2 * (n / d) + b ≡ n / m
halved m n d b some double e = decided (nat_le m (n % d)) refl
  where
    whole : n ≡ 2 * m * (n / d) + n % d
    whole = rw (← double) (omega (arith, double, some))

    decided : (c : Bool) → nat_le m (n % d) ≡ c → 2 * (n / d) + b ≡ n / m
    decided true h =
        let over : m ≤ n % d = grind (arith, nat_tests, h) in
        omega (arith, rw h at e, (divided n m (2 * (n / d) + 1) (n % d - m) (omega (arith, whole, over)) (omega (arith, double, over, some))).0)
    decided false h =
        let under : n % d < m = grind (arith, nat_tests, h) in
        omega (arith, rw h at e, (divided n m (2 * (n / d)) (n % d) (omega (arith, whole)) under).0)

-- n is spread among m sharers, so that a cent has d parts
module _ (m n d : ℕ) (some : 0 < m) (double : d ≡ 2 * m) (word : n ≤ 18446744073709551615) where
  -- what a claim of c gets, as a word holds it
  abbrev got : Bool → ℕ → ℕ
  got b c = held (share b (record { spread = n; sharers = m }) c)

  -- a claim up to the level has half of what it is
  module _ (c : ℕ) (up_to : c ≤ n / m) where
    under : m * c ≤ n
    under = omega (arith, mul-le-mul_left m up_to, mul-div-le n m)

    exact : (b : Bool) → got b c ≡ m * c
    exact true = omega (arith, under, word)
    exact false = omega (arith, under, word)

    pub filled : (b : Bool) → (got b c / d ≡ c / 2) × (got b c % d ≡ m * (c % 2))
    filled b =
        let twice : c ≡ 2 * (c / 2) + c % 2 = omega arith in
        let odd : c % 2 ≤ 1 = omega arith in
        divided (got b c) d (c / 2) (m * (c % 2))
        (rw double (omega (arith, exact b, ap (λ k. m * k) twice)))
        (omega (arith, double, some, mul-le-mul_left m odd))

  -- a larger one has the level or loses it
  module _ (c : ℕ) (above : n / m < c) (few : c ≤ 4294967295) (parts : d ≤ 4294967295) where
    past : n < m * c
    past = omega (arith, lt-mul-div-succ n some, mul-le-mul_left m above)

    fits : 2 * m * c ≤ 18446744065119617025
    fits = rw double at (mul-le-mul parts few)

    gained : got true c ≡ n
    gained = omega (arith, past, word)

    lost : got false c ≡ d * c - n
    lost = rw double (omega (arith, past, fits))

    -- what it loses in whole cents is less than the claim
    less : n / d < c
    less = rw double ((div-lt_iff_lt-mul {k = 2 * m} {x = n} {y = c} (omega (arith, some))).1 (omega (arith, past)))

    -- what is left of the cents that it loses
    abbrev off : ℕ
    off = div_ceil n d

    level_lost : (got false c / d ≡ c - off) × (got false c % d ≡ (d - n % d) % d) × (off ≤ c)
    level_lost = decided (n % d) refl
      where
        decided : (over : ℕ) → n % d ≡ over → (got false c / d ≡ c - off) × (got false c % d ≡ (d - n % d) % d) × (off ≤ c)
        decided zero e =
            let rest : c ≡ c - n / d + n / d = omega (arith, less) in
            let none : d - n % d ≡ d = omega (arith, e) in
            let p = divided (got false c) d (c - n / d) 0 (omega (arith, lost, ap (λ k. d * k) rest, double, some, e)) (omega (arith, double, some)) in
            (omega (arith, p.0, less, e), rw none (p.1 ∙ sym (mod_self d)), omega (arith, less, e))
        decided (suc k) e =
            let rest : c ≡ c - (n / d + 1) + (n / d + 1) = omega (arith, less) in
            let p = divided (got false c) d (c - (n / d + 1)) (d - n % d) (omega (arith, lost, ap (λ k. d * k) rest, double, some, e)) (omega (arith, double, some, e)) in
            (omega (arith, p.0, less, e), p.1 ∙ sym (mod-eq_of_lt (omega (arith, double, some, e))), omega (arith, less, e))

    pub whole_gained : (b : Bool) → b ≡ true → got b c / d ≡ level_whole b d n
    whole_gained true is = ap (λ k. k / d) gained
    whole_gained false is = absurd (false≢true is)

    pub whole_lost : (b : Bool) → b ≡ false → got b c / d + level_whole b d n ≡ c
    whole_lost true is = absurd (false≢true (sym is))
    whole_lost false is = omega (arith, level_lost.0, level_lost.2)

    pub left : (b : Bool) → got b c % d ≡ level_left b d n
    left true = ap (λ k. k % d) gained
    left false = level_lost.1

-- what is left of a claim up to the level, looked up: of an even one nothing, and of an odd one half a cent
pub looked_up : (half odd : ℕ) → odd < 2 → get_or (0 ∷ half ∷ []) odd 0 ≡ half * odd
looked_up half zero h = omega arith
looked_up half (suc zero) h = omega arith
looked_up half (suc (suc k)) h = absurd (omega (arith, h))

-- so shares are split where a level is worked out, and by a division each where it is not
module _ (t : Terms) (d : ℕ) where
  pub by_level : (up whole over : ℕ) → d ≡ 2 * t.level.denominator → 0 < t.level.denominator → d ≤ 4294967295 → t.level.numerator < 2 ^ 64 → up ≡ t.level.numerator / t.level.denominator → whole ≡ level_whole (gains t.side) d t.level.numerator → over ≡ level_left (gains t.side) d t.level.numerator → Splits t d up 4294967295 whole over (0 ∷ t.level.denominator ∷ [])
  by_level up whole over double some parts word is has off =
      let m = t.level.denominator in
      let n = t.level.numerator in
      let most : n ≤ 18446744073709551615 = omega (arith, word) in
      let within : (c : ℕ) → c ≤ up → c ≤ n / m = λ c h. omega (arith, h, is) in
      let past : (c : ℕ) → up < c → n / m < c = λ c h. omega (arith, h, is) in
      record {
        filled_whole = λ c h. (filled m n d some double most c (within c h) (gains t.side)).0;
        filled_left = λ c h. (filled m n d some double most c (within c h) (gains t.side)).1 ∙ sym (looked_up m (c % 2) (omega arith));
        gained = λ side c a h. rw has (whole_gained m n d some double most c (past c a) h parts (gains t.side) side);
        lost = λ side c a h. rw has (whole_lost m n d some double most c (past c a) h parts (gains t.side) side);
        level_left = λ c a h. rw off (left m n d some double most c (past c a) h parts (gains t.side));
      }

  none : (b : Bool) (m n : ℕ) → held (share b (record { spread = n; sharers = m }) 0) ≡ 0
  none true m n = omega arith
  none false m n = omega arith

  pub by_none : Splits t d 0 0 0 0 (0 ∷ 0 ∷ [])
  by_none = record {
    filled_whole = λ c h. let zero_claim : c ≡ 0 = omega (arith, h) in rw (zero_claim, none (gains t.side) t.level.denominator t.level.numerator) (zero-div d);
    filled_left = λ c h. let zero_claim : c ≡ 0 = omega (arith, h) in rw (zero_claim, none (gains t.side) t.level.denominator t.level.numerator) (zero-mod d);
    gained = λ side c a h. absurd (omega (arith, a, h));
    lost = λ side c a h. absurd (omega (arith, a, h));
    level_left = λ c a h. absurd (omega (arith, a, h));
  }

pub ruleset splits = (by_level, by_none)
