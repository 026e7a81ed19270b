-- Who is found to lack most; whole cents add up, and nobody has a cent more or less than the share. Assumes nothing.
use Rattle.std.proofs.Common.{◌≡◌, ℕ, zero, suc, ◌+◌, ◌-◌, ◌*◌, ◌/◌, ◌<◌, ◌≤◌, Bool, true, false, cond, ltb, ◌⊎◌, List, [], ◌∷◌, length, get_or, sym, refl, ap, ◌∙◌, inl, inr, ⊎_elim, ◌≢◌, arith, sum}
use native.Mathlib.Nat.{le_of_mul-le-mul_left, lt_of_mul-lt-mul_left, zero-div}
use Rattle.std.proofs.lemmas.List.{length-map, length-set, get_or-set_same, get_or-set_other}
use Rattle.std.proofs.lemmas.List.Sums.{sum_by-set}
use Rattle.std.proofs.lemmas.Bool.{cases_eq, ltb-true, ltb-false, lt-ltb, le-ltb}
use Rattle.estate.specs.Cents.{downs, lacks_most, one_more, give_left, in_cents, Near}
use Rattle.estate.specs.Promises.{CentsAddUp}
use Rattle.estate.proofs.Facts.{facts}
use Rattle.estate.proofs.Rows.{get_or-map_zero, inside, sum_apart}

module _ (d : ℕ) where
  abbrev lacked : List ℕ → List ℕ → ℕ → ℕ
  lacked xs ys j = get_or xs j 0 - d * get_or ys j 0

  -- What looking further comes to: nobody lacks more than `most`, and it is still the place `was`; or the one at some j lacks
  -- more, and it is that place.
  abbrev Found : List ℕ → List ℕ → ℕ → ℕ → ℕ → ℕ → Type 0
  Found xs ys i most was r =
      ((r ≡ was) × ((j : ℕ) → lacked xs ys j ≤ most)) ⊎ ((j : ℕ) × (r ≡ suc (i + j)) × (most < lacked xs ys j))

  module _ (x y i most was r : ℕ) (xs ys : List ℕ) where
    found_more : (b : Bool) → ltb most (x - d * y) ≡ b → Found xs ys (suc i) (cond b (x - d * y) most) (cond b (suc i) was) r → Found (x ∷ xs) (y ∷ ys) i most was r
    found_more true t (inl p) = inr (0, omega (arith, p.0), ltb-true _ _ t)
    found_more true t (inr p) = inr (suc p.0, omega (arith, p.1), omega (arith, p.2, ltb-true _ _ t))
    found_more false t (inl p) = inl (p.0, none)
      where
        none : (j : ℕ) → lacked (x ∷ xs) (y ∷ ys) j ≤ most
        none zero = ltb-false _ _ t
        none (suc j) = p.1 j
    found_more false t (inr p) = inr (suc p.0, omega (arith, p.1), p.2)

  found : (xs ys : List ℕ) → length xs ≡ length ys → (i most was : ℕ) → Found xs ys i most was (lacks_most d xs ys i most was)
  unfolding lacks_most
  found [] ys l i most was = inl (refl, λ j. omega arith)
  found (x ∷ xs) [] l i most was = absurd (omega arith)
  found (x ∷ xs) (y ∷ ys) l i most was =
      let b : Bool = ltb most (x - d * y) in
      found_more x y i most was _ xs ys b refl (found xs ys (omega arith) (suc i) (cond b (x - d * y) most) (cond b (suc i) was))

  -- where nobody lacks more than `most`, no other place is found
  pub none_found : (xs ys : List ℕ) (i most was : ℕ) → ((j : ℕ) → lacked xs ys j ≤ most) → lacks_most d xs ys i most was ≡ was
  unfolding lacks_most
  none_found [] ys i most was h = refl
  none_found (x ∷ xs) [] i most was h = refl
  none_found (x ∷ xs) (y ∷ ys) i most was h =
      rw (le-ltb most (x - d * y) (h 0)) (none_found xs ys (suc i) most was (λ j. h (suc j)))

  -- otherwise the first of those who lack most is found
  pub first_found : (xs ys : List ℕ) (j i most was : ℕ) → length xs ≡ length ys → most < lacked xs ys j → ((k : ℕ) → lacked xs ys k ≤ lacked xs ys j) → ((k : ℕ) → k < j → lacked xs ys k < lacked xs ys j) → lacks_most d xs ys i most was ≡ suc (i + j)
  unfolding lacks_most
  first_found [] ys j i most was l more all before = absurd (omega (arith, more))
  first_found (x ∷ xs) [] j i most was l more all before = absurd (omega (arith, l))
  first_found (x ∷ xs) (y ∷ ys) zero i most was l more all before =
      rw (lt-ltb most (x - d * y) more) (omega (arith, none_found xs ys (suc i) (x - d * y) (suc i) (λ k. all (suc k))))
  first_found (x ∷ xs) (y ∷ ys) (suc j) i most was l more all before =
      next (ltb most (x - d * y)) (λ m w h. first_found xs ys j (suc i) m w (omega (arith, l)) h (λ k. all (suc k)) (λ k b. before (suc k) (omega (arith, b))))
    where
      next : (b : Bool) → ((m w : ℕ) → m < lacked xs ys j → lacks_most d xs ys (suc i) m w ≡ suc (suc i + j)) → lacks_most d xs ys (suc i) (cond b (x - d * y) most) (cond b (suc i) was) ≡ suc (i + suc j)
      next true f = omega (arith, f (x - d * y) (suc i) (before 0 (omega arith)))
      next false f = omega (arith, f most was more)

-- with the cents ys of the shares xs in hand, n of e are left
pub record Rounded (d n e : ℕ) (xs ys : List ℕ) : Type 0 where
  pub paired : length xs ≡ length ys
  pub given : n + sum ys ≡ e
  pub near : (i : ℕ) → Near d (get_or xs i 0) (get_or ys i 0)

module _ (d e : ℕ) (xs : List ℕ) (parted : 0 < d) (whole : sum xs ≡ d * e) where
  down : (i : ℕ) → get_or (downs d xs) i 0 ≡ get_or xs i 0 / d
  down = get_or-map_zero (λ x. x / d) (zero-div d) xs

  near_down : (i : ℕ) → Near d (get_or xs i 0) (get_or (downs d xs) i 0)
  near_down i = rw (down i) (omega (arith, parted), omega (arith, parted))

  rounded_down : Rounded d (e - sum (downs d xs)) e xs (downs d xs)
  rounded_down =
      let low : d * sum (downs d xs) ≤ d * e = omega (arith, sum_apart d 1 (downs d xs) xs (λ j. rw (down j) (omega (arith, parted))) 0) in
      record {
        paired = sym (length-map xs (λ x. x / d));
        given = omega (arith, le_of_mul-le-mul_left low parted);
        near = near_down;
      }

  -- while a cent is left somebody lacks something, since the shares add up to all
  rounded_more : (n : ℕ) (ys : List ℕ) → Rounded d (suc n) e xs ys → (r : ℕ) → Found d xs ys 0 0 0 r → Rounded d n e xs (one_more ys r)
  rounded_more n ys r place (inl p) =
      absurd (omega (arith, parted, whole, ap (λ (k : ℕ). d * k) r.given, sum_apart 1 d xs ys (λ j. omega (arith, p.1 j)) 0))
  rounded_more n ys r place (inr p) =
      let j = p.0 in
      let is : place ≡ suc j = omega (arith, p.1) in
      let more = suc (get_or ys j 0) in
      let there : j < length ys = omega (arith, r.paired, inside xs j (omega (arith, p.2))) in
      rw is (record {
        paired = r.paired ∙ sym (length-set ys j more);
        given = omega (arith, r.given, sum_by-set (λ y. y) ys j more 0 there);
        near = λ i. ⊎_elim
            (λ (t : i ≡ j). rw (t, get_or-set_same ys j more 0 there) (omega (arith, p.2), omega (arith, r.near j)))
            (λ (f : i ≢ j). rw (get_or-set_other ys j i more 0 f) (r.near i))
            (cases_eq i j);
      })

  rounded_all : (n : ℕ) (ys : List ℕ) → Rounded d n e xs ys → Rounded d 0 e xs (give_left n d xs ys)
  unfolding give_left
  rounded_all zero ys r = r
  rounded_all (suc n) ys r = rounded_all n _ (rounded_more n ys r _ (found d xs ys r.paired 0 0 0))

  pub cents_rounded : Rounded d 0 e xs (in_cents d e xs)
  cents_rounded = rounded_all _ _ rounded_down

none_above_claim : (d c x y : ℕ) → Near d x y → x ≤ d * c → y ≤ c
none_above_claim d c x y h b =
    let less : d * y < d * suc c = omega arith in
    omega (arith, lt_of_mul-lt-mul_left d less)

pub cents_add_up : CentsAddUp
cents_add_up d e cs xs h =
    let p = facts d e cs xs h in
    let r = cents_rounded d e xs p.parted p.whole in
    record {
      paired = sym r.paired ∙ p.paired;
      whole = omega (arith, r.given);
      near = r.near;
      below = λ i. none_above_claim d _ _ _ (r.near i) (p.below i);
    }
