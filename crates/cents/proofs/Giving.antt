-- A cent for who lacks most. Assumes nothing.
use Rattle.std.proofs.Common.{◌≡◌, ◌≢◌, ℕ, zero, suc, ◌+◌, ◌-◌, ◌*◌, ◌%◌, ◌<◌, ◌≤◌, Bool, true, false, cond, List, [], ◌∷◌, length, get_or, refl, sym, arith}
use Rattle.std.proofs.Math.Nat.{mod-le}
use Rattle.estate.proofs.Rows.{inside}
use Rattle.estate.specs.Cents.{downs, lacks_most, give_left}
use Rattle.estate.proofs.WholeCents.{first_found, none_found}
use Rattle.cents.specs.Rounding.{rounded, rounded_all, lack}
use Rattle.cents.proofs.Amounts.{length-rounded_all, rounded_all-one_more, lacked-rounded_all}

-- where nobody lacks anything, nobody has a cent more
give_none : (n d : ℕ) (xs ys : List ℕ) → lacks_most d xs ys 0 0 0 ≡ 0 → give_left n d xs ys ≡ ys
unfolding give_left
give_none zero d xs ys h = refl
give_none (suc n) d xs ys h = rw h (give_none n d xs ys h)

-- where nobody is marked each share is rounded down
pub none_given : (d : ℕ) (up : ℕ → Bool) (xs : List ℕ) → ((k : ℕ) → up k ≡ false) → rounded_all d up xs ≡ downs d xs
unfolding rounded_all
none_given d up [] h = refl
none_given d up (x ∷ xs) h =
    λ i. rounded d (h 0 i) x ∷ none_given d (λ k. up (suc k)) xs (λ k. h (suc k)) i

module _ (d : ℕ) (xs : List ℕ) (parted : 0 < d) where
  -- where nobody lacks anything, cents that are left are nobody's
  pub nobody_lacks : (n : ℕ) (up : ℕ → Bool) → ((k : ℕ) → lack d up xs k ≤ 0) → give_left n d xs (rounded_all d up xs) ≡ rounded_all d up xs
  nobody_lacks n up h =
      give_none n d xs _ (none_found d xs (rounded_all d up xs) 0 0 0 (λ k. rw (lacked-rounded_all d up xs k parted) (h k)))

  -- the cent for one who lacks most, and those before it less
  module _ (up also : ℕ → Bool) (i most : ℕ) (this : also i ≡ true) (others : (k : ℕ) → k ≢ i → also k ≡ up k) where
    pub most_still : ((k : ℕ) → lack d up xs k ≤ most) → (k : ℕ) → lack d also xs k ≤ most
    unfolding lack
    most_still all k = grind (arith, this, others k, all k)

    pub still_before : (next : ℕ) → ((k : ℕ) → k < i → lack d up xs k ≤ next) → (k : ℕ) → k < i + 1 → lack d also xs k ≤ next
    unfolding lack
    still_before next before k l = grind (arith, this, others k, before k)

    module _ (all : (k : ℕ) → lack d up xs k ≤ most) (some : 0 < most) (it : lack d up xs i ≡ most) (before : (k : ℕ) → k < i → lack d up xs k < most) where
      not_yet : (up i ≡ false) × (0 < get_or xs i 0 % d)
      unfolding lack
      not_yet = decided (up i) it
        where
          decided : (b : Bool) → cond b 0 (get_or xs i 0 % d) ≡ most → (b ≡ false) × (0 < get_or xs i 0 % d)
          decided true h = absurd (omega (arith, h, some))
          decided false h = (refl, omega (arith, h, some))

      there : i < length xs
      there = inside xs i (omega (arith, not_yet.1, mod-le (get_or xs i 0) d))

      place : lacks_most d xs (rounded_all d up xs) 0 0 0 ≡ suc i
      place =
          let lacked : (k : ℕ) → get_or xs k 0 - d * get_or (rounded_all d up xs) k 0 ≡ lack d up xs k = λ k. lacked-rounded_all d up xs k parted in
          omega (
            arith,
            first_found d xs (rounded_all d up xs) i 0 0 0 (sym (length-rounded_all d up xs))
                (omega (arith, lacked i, it, some))
                (λ k. omega (arith, lacked k, lacked i, it, all k))
                (λ k l. omega (arith, lacked k, lacked i, it, before k l)),
          )

      pub given_more : (left : ℕ) (ys : List ℕ) → 0 < left → give_left left d xs (rounded_all d up xs) ≡ ys → give_left (left - 1) d xs (rounded_all d also xs) ≡ ys
      unfolding give_left
      given_more zero ys h to = absurd (omega (arith, h))
      given_more (suc n) ys h to =
          let next = rounded_all-one_more d up also xs i there not_yet.0 this others not_yet.1 in
          let less : suc n - 1 ≡ n = omega arith in
          rw (less, next) (rw place at to)

-- cents that are left when none are
pub all_given : (n d : ℕ) (xs ys : List ℕ) → n ≡ 0 → give_left n d xs ys ≡ ys
unfolding give_left
all_given zero d xs ys e = refl
all_given (suc n) d xs ys e = absurd (omega (arith, e))
