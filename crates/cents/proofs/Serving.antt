-- The loops that give cents. Assumes nothing.
use Rattle.std.proofs.Common.{◌≡◌, ◌≢◌, ℕ, ◌+◌, ◌-◌, ◌%◌, ◌<◌, ◌≤◌, List, length, Bool, true, false, ◌||◌, cond, nat_eq, get_or, refl, sym, ap, ◌∙◌, below_more, arith}
use mir.Val.{bool_byte}
use Rattle.cents.specs.declared.bits.Marks.{Marks}
use Rattle.cents.specs.Marks.{is_marked}
use Rattle.cents.specs.Rounding.{lack, given}
use Rattle.estate.specs.Cents.{give_left}
use Rattle.std.proofs.lemmas.Bool.Decides.{nat_tests}
use Rattle.cents.proofs.Giving.{given_more, most_still, still_before}
use Rattle.cents.proofs.Amounts.{same_rounded, lack_within}

module _ (d : ℕ) (xs : List ℕ) where
  abbrev rest : ℕ → ℕ
  rest j = get_or xs j 0 % d

  -- Of n cents k are left, and giving these comes to what giving all n came to before. While some are left those before
  -- place i lack no more than `next`, which is less than `most`, the most that anybody lacked. Who had a cent before lacked
  -- more, and who has one now that.
  pub record State (most n : ℕ) (was : Marks) (k i next : ℕ) (now : Marks) : Type 0 where
    pub alike : given d xs k (is_marked now) ≡ given d xs n (is_marked was)
    pub all : (j : ℕ) → lack d (is_marked now) xs j ≤ most
    pub before : 0 < k → (j : ℕ) → j < i → lack d (is_marked now) xs j ≤ next
    pub less : next < most
    pub had : (j : ℕ) → is_marked now j ≡ true → most ≤ rest j
    pub ahead : (j : ℕ) → i ≤ j → is_marked now j ≡ true → most < rest j

  -- the same as a name that is not looked into
  unfoldable pub Serving : (most n : ℕ) (was : Marks) (k i next : ℕ) (now : Marks) → Type 0
  Serving most n was k i next now = State most n was k i next now

  lack_same : (up also : ℕ → Bool) (j : ℕ) → also j ≡ up j → lack d also xs j ≡ lack d up xs j
  unfolding lack
  lack_same up also j h = ap (λ b. cond b 0 (rest j)) h

  -- who is not marked lacks what rounding down leaves
  lack_unmarked : (up : ℕ → Bool) (j most : ℕ) → rest j ≡ most → (up j ≡ true → most < rest j) → lack d up xs j ≡ most
  unfolding lack
  lack_unmarked up j most e h = decided (up j) h
    where
      decided : (b : Bool) → (b ≡ true → most < rest j) → cond b 0 (rest j) ≡ most
      decided true g = absurd (omega (arith, e, g refl))
      decided false g = e

  lack_under : (up : ℕ → Bool) (j most after : ℕ) → lack d up xs j ≤ most → rest j ≢ most → (rest j < most → rest j ≤ after) → lack d up xs j ≤ after
  unfolding lack
  lack_under up j most after = decided (up j)
    where
      decided : (b : Bool) → cond b 0 (rest j) ≤ most → rest j ≢ most → (rest j < most → rest j ≤ after) → cond b 0 (rest j) ≤ after
      decided true l ne h = omega arith
      decided false l ne h = h (omega (arith, l, ne))

  module _ (most n : ℕ) (was : Marks) where
    pub serving_none : 0 < most → ((j : ℕ) → lack d (is_marked was) xs j ≤ most) → ((j : ℕ) → is_marked was j ≡ true → most < rest j) → Serving most n was n 0 0 was
    unfolding Serving
    serving_none some all had =
        record { alike = refl; all = all; before = λ left j l. absurd (omega (arith, l)); less = some; had = λ j m. omega (arith, had j m); ahead = λ j l. had j }

    -- the one at place i, who lacks `most` and is given a cent, or lacks less, or had one before
    pub serving_next : (k i next left b after : ℕ) (now then : Marks) (served : Bool) → Serving most n was k i next now → 0 < d → 0 < most → 0 < k → left ≡ rest i → served ≡ nat_eq left most → b ≡ bool_byte served → is_marked then i ≡ (served || is_marked now i) → ((j : ℕ) → j ≢ i → is_marked then j ≡ is_marked now j) → next ≤ after → (next < most → after < most) → (left < most → left ≤ after) → Serving most n was (k - b) (i + 1) after then
    unfolding Serving
    serving_next k i next left b after now then true s parted some one_left l v e this others more less kept =
        let most_left : rest i ≡ most = grind (arith, nat_tests, v, l) in
        let it = lack_unmarked (is_marked now) i most most_left (s.ahead i (omega arith)) in
        let one : b ≡ 1 = e in
        let before : (j : ℕ) → j < i → lack d (is_marked now) xs j < most = λ j h. omega (arith, s.before one_left j h, s.less) in
        rw one (record {
          alike = given_more d xs parted (is_marked now) (is_marked then) i most this others s.all some it before k _ one_left s.alike;
          all = most_still d xs parted (is_marked now) (is_marked then) i most this others s.all;
          before = λ some j h. omega (arith, still_before d xs parted (is_marked now) (is_marked then) i most this others next (s.before one_left) j h, more);
          less = less s.less;
          had = λ j m. grind (arith, most_left, others j, s.had j);
          ahead = λ j h m. s.ahead j (omega (arith, h)) (sym (others j (omega (arith, h))) ∙ m);
        })
    serving_next k i next left b after now then false s parted some one_left l v e this others more less kept =
        let same : (j : ℕ) → is_marked then j ≡ is_marked now j = λ j. grind (arith, this, others j) in
        let alike : (j : ℕ) → lack d (is_marked then) xs j ≡ lack d (is_marked now) xs j = λ j. lack_same (is_marked now) (is_marked then) j (same j) in
        let none : k - b ≡ k = omega (arith, e) in
        let other : rest i ≢ most = grind (arith, nat_tests, v, l) in
        rw none (record {
          alike = ap (give_left k d xs) (same_rounded d (is_marked now) (is_marked then) xs same) ∙ s.alike;
          all = λ j. omega (arith, alike j, s.all j);
          before = λ some. below_more _ _ (λ j h. omega (arith, alike j, s.before some j h, more)) (omega (arith, alike i, lack_under (is_marked now) i most after (s.all i) other (rw l at kept)));
          less = less s.less;
          had = λ j m. s.had j (sym (same j) ∙ m);
          ahead = λ j h m. s.ahead j (omega (arith, h)) (sym (same j) ∙ m);
        })

    -- what is so at the end
    pub served : (k i next : ℕ) (now : Marks) → Serving most n was k i next now → (given d xs k (is_marked now) ≡ given d xs n (is_marked was)) × (i ≡ length xs → 0 < k → (j : ℕ) → lack d (is_marked now) xs j ≤ next) × (next < most) × ((j : ℕ) → is_marked now j ≡ true → next < rest j)
    unfolding Serving
    served k i next now s =
        (s.alike, λ e some j. lack_within d (is_marked now) xs i next e (s.before some) j, s.less, λ j m. omega (arith, s.less, s.had j m))

pub ruleset give_to = (serving_none, serving_next, served)
