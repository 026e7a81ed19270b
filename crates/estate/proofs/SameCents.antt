-- The same shares in parts of another size come to the same whole cents. Assumes nothing.
use Rattle.std.proofs.Common.{◌≡◌, ℕ, zero, suc, ◌-◌, ◌*◌, ◌/◌, ◌<◌, Bool, true, false, cond, ltb, List, [], ◌∷◌, length, get_or, sym, refl, ◌∙◌, mul_comm, lt_of_mul-lt-mul_right, mul-lt-mul_of_pos_right, arith}
use native.Mathlib.Nat.{mul-sub, mul-div-mul_right}
use Rattle.std.specs.List.{AllZip}
use Rattle.std.proofs.lemmas.Bool.Decides.{same_from_decides, Decides-like, Decides-ltb}
use Rattle.estate.specs.Promises.{SameCents}
use Rattle.estate.specs.Cents.{downs, lacks_most, give_left, in_cents}
use Rattle.estate.proofs.Facts.{facts}
use Rattle.estate.proofs.Compared.{just_one}

ltb_times : (k x y : ℕ) → 0 < k → ltb x y ≡ ltb (x * k) (y * k)
ltb_times k x y h =
    same_from_decides _ _ (Decides-ltb x y) (Decides-like _ (lt_of_mul-lt-mul_right k) (λ less. mul-lt-mul_of_pos_right less h) (Decides-ltb (x * k) (y * k)))

module _ (d f : ℕ) (d_parts : 0 < d) (f_parts : 0 < f) where
  -- x of d parts are as much as y of f
  abbrev Alike : ℕ → ℕ → Type 0
  Alike x y = x * f ≡ y * d

  same_down : (x y : ℕ) → Alike x y → x / d ≡ y / f
  same_down x y h = sym (mul-div-mul_right x d f_parts) ∙ (λ i. h i / mul_comm d f i) ∙ mul-div-mul_right y f d_parts

  same_lack : (x y z : ℕ) → Alike x y → Alike (x - d * z) (y - f * z)
  same_lack x y z h = omega (arith, mul-sub f x (d * z), mul-sub d y (f * z))

  same_order : (x y v w : ℕ) → Alike x v → Alike y w → ltb x y ≡ ltb v w
  same_order x y v w p q = ltb_times f x y f_parts ∙ (λ i. ltb (p i) (q i)) ∙ sym (ltb_times d v w d_parts)

  same_cond : (b : Bool) (x y v w : ℕ) → Alike x v → Alike y w → Alike (cond b x y) (cond b v w)
  same_cond true x y v w p q = p
  same_cond false x y v w p q = q

  same_downs : (xs ys : List ℕ) → AllZip Alike xs ys → downs d xs ≡ downs f ys
  same_downs [] [] h = refl
  same_downs [] (y ∷ ys) h = absurd h
  same_downs (x ∷ xs) [] h = absurd h
  same_downs (x ∷ xs) (y ∷ ys) h = λ i. same_down x y h.0 i ∷ same_downs xs ys h.1 i

  same_most : (xs ys zs : List ℕ) → AllZip Alike xs ys → (i m n was : ℕ) → Alike m n → lacks_most d xs zs i m was ≡ lacks_most f ys zs i n was
  unfolding lacks_most
  same_most [] [] zs h i m n was p = refl
  same_most [] (y ∷ ys) zs h i m n was p = absurd h
  same_most (x ∷ xs) [] zs h i m n was p = absurd h
  same_most (x ∷ xs) (y ∷ ys) [] h i m n was p = refl
  same_most (x ∷ xs) (y ∷ ys) (z ∷ zs) h i m n was p =
      let lack = same_lack x y z h.0 in
      rw (same_order _ _ _ _ p lack) (same_most xs ys zs h.1 (suc i) _ _ _ (same_cond (ltb n (y - f * z)) _ _ _ _ lack p))

  same_given : (n : ℕ) (xs ys zs : List ℕ) → AllZip Alike xs ys → give_left n d xs zs ≡ give_left n f ys zs
  unfolding give_left
  same_given zero xs ys zs h = refl
  same_given (suc n) xs ys zs h = rw (same_most xs ys zs h 0 0 0 0 (omega arith)) (same_given n xs ys _ h)

  same_from_alike : (e : ℕ) (xs ys : List ℕ) → AllZip Alike xs ys → in_cents d e xs ≡ in_cents f e ys
  same_from_alike e xs ys h = rw (same_downs xs ys h) (same_given _ xs ys _ h)

  each_alike : (xs ys : List ℕ) → length xs ≡ length ys → ((i : ℕ) → Alike (get_or xs i 0) (get_or ys i 0)) → AllZip Alike xs ys
  each_alike [] [] l h = tt
  each_alike [] (y ∷ ys) l h = absurd (omega arith)
  each_alike (x ∷ xs) [] l h = absurd (omega arith)
  each_alike (x ∷ xs) (y ∷ ys) l h = (h 0, each_alike xs ys (omega arith) (λ i. h (suc i)))

pub same_cents : SameCents
same_cents d f e cs xs ys h k =
    let p = facts d e cs xs h in
    let q = facts f e cs ys k in
    let alike = each_alike d f p.parted q.parted xs ys (omega (arith, p.paired, q.paired)) (λ i. just_one d f e i cs xs ys h k) in
    same_from_alike d f p.parted q.parted e xs ys alike
