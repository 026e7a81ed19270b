-- Numbers to bytes and back. Assumes nothing.
use Rattle.std.proofs.Common.{◌≡◌, ℕ, zero, suc, ◌+◌, ◌-◌, ◌*◌, ◌/◌, ◌%◌, ◌^◌, ◌<◌, ◌≤◌, List, [], ◌∷◌, ◌++◌, length, get_or, take, drop, slice_set, Some, None, sym, refl, ap, subst, arith, length-drop, length-take, append_assoc, ◌∙◌, Ok, Err, Result, length-append, take-append-drop}
use borrow.Rule.Slice.PartMut.{put_mid}
use Rattle.std.specs.List.{flat_map}
use Rattle.std.proofs.lemmas.List.{places, drop-drop, length-take-le, nil_from_length, set_split, take_more, take_all, drop_all, append-nil, take_at, drop_at, flat_map_more}
use Rattle.std.proofs.lemmas.Nat.{le_bytes_8, from_le_bytes-to_le_bytes_8}
use Rattle.std.proofs.lemmas.Grind.{common_steps, flat_map-append}
use Rattle.std.specs.Result.{IsOk}
use Rattle.wire.specs.Written.{Written}
use Rattle.wire.specs.declared.refusals.Refusal.{Refusal}
use Rattle.wire.specs.Bytes.{Bytes, Fitting, eight, number_at, numbers, row}

pub fitting_more : (n : ℕ) (ns : List ℕ) → n < 2 ^ 64 → Fitting ns → Fitting (n ∷ ns)
fitting_more n ns less rest zero = less
fitting_more n ns less rest (suc i) = rest i

pub bytes_take : (n : ℕ) (bs : List ℕ) → Bytes bs → Bytes (take n bs)
bytes_take n bs h i = grind (arith, places)

pub bytes_drop : (n : ℕ) (bs : List ℕ) → Bytes bs → Bytes (drop n bs)
bytes_drop n bs h i = grind (arith, places)

-- a number's bytes are read as that number
pub number_at-eight : (n : ℕ) (rest : List ℕ) → n < 2 ^ 64 → number_at (eight n ++ rest) 0 ≡ n
unfolding eight
number_at-eight n rest h = from_le_bytes-to_le_bytes_8 n h

eight-number_at : (bs : List ℕ) → 8 ≤ length bs → Bytes bs → eight (number_at bs 0) ≡ take 8 bs
unfolding eight
eight-number_at bs some h = le_bytes_8 (take 8 bs) _ (length-take-le 8 bs some) (bytes_take 8 bs h) refl

pub length-flat_map : (ns : List ℕ) → length (flat_map eight ns) ≡ 8 * length ns
unfolding eight
length-flat_map [] = refl
length-flat_map (n ∷ ns) = omega (arith, length-flat_map ns)

numbers-flat_map : (ns : List ℕ) → Fitting ns → numbers (length ns) (flat_map eight ns) ≡ ns
unfolding numbers eight
numbers-flat_map [] h = refl
numbers-flat_map (n ∷ ns) h =
    let first = number_at-eight n (flat_map eight ns) (h 0) in
    let rest = numbers-flat_map ns (λ i. h (suc i)) in
    cc

-- bytes of whole numbers are those of the numbers that are read from them
bytes_back : (n : ℕ) (bs : List ℕ) → length bs ≡ 8 * n → Bytes bs → Fitting (numbers n bs) × (flat_map eight (numbers n bs) ≡ bs)
unfolding numbers
bytes_back zero bs long h = (λ i. omega arith, sym (nil_from_length bs long))
bytes_back (suc n) bs long h =
    let rest = bytes_back n (drop 8 bs) (omega (arith, length-drop 8 bs)) (bytes_drop 8 bs h) in
    let fits : number_at bs 0 < 2 ^ 64 = omega (arith, bytes_take 8 bs h) in
    let first = eight-number_at bs (omega arith) h in
    let whole = take-append-drop 8 bs in
    (λ i. grind (arith, common_steps, rest.0 (i - 1)), cc (rest.1))

-- the first number is taken off, and what is less than a number is none
module _ (bs : List ℕ) where
  pub numbers_more : 8 ≤ length bs → numbers (length bs / 8) bs ≡ number_at bs 0 ∷ numbers (length (drop 8 bs) / 8) (drop 8 bs)
  unfolding numbers
  numbers_more h = let next : length bs / 8 ≡ suc (length (drop 8 bs) / 8) = omega (arith, length-drop 8 bs) in rw next

  pub numbers_none : length bs < 8 → numbers (length bs / 8) bs ≡ []
  unfolding numbers
  numbers_none h = let none : length bs / 8 ≡ 0 = omega arith in rw none

pub ruleset steps = (numbers_more, numbers_none)

flat_map-push : (ns : List ℕ) (n : ℕ) → flat_map eight (ns ++ n ∷ []) ≡ flat_map eight ns ++ eight n
flat_map-push ns n = sym (flat_map_more eight [] ns n)

-- numbers are written one behind the other, as long as there is one at i
module _ (i : ℕ) (ns before out : List ℕ) (h : out ≡ flat_map eight (take i ns) ++ drop (8 * i) before) where
  pub put_more : (n : ℕ) (bytes : List ℕ) → i < length ns → n ≡ get_or ns i 0 → bytes ≡ eight n → put_mid (8 * i) (8 * i + 8 - 8 * i) out bytes ≡ flat_map eight (take (i + 1) ns) ++ drop (8 * (i + 1)) before
  put_more n bytes some is eights =
      rw (h, eights, take_more ns i 0 some, is, flat_map-push) (grind (arith, common_steps, length-flat_map))

-- there is room for numbers in bytes that they just fill, and these are then their bytes
module _ (ns old new : List ℕ) (full : length old ≡ 8 * length ns) where
  pub fills : (r : Result ℕ Refusal) → Written (flat_map eight ns) old new r → IsOk r
  fills (Ok n) w = refl
  fills (Err why) w = absurd (omega (arith, w.short, full, length-flat_map ns))

  pub filled : (r : Result ℕ Refusal) → Written (flat_map eight ns) old new r → new ≡ flat_map eight ns
  filled (Ok n) w = w.holds ∙ rw (drop_all n old (omega (arith, w.long, full, length-flat_map ns))) (append-nil (flat_map eight ns))
  filled (Err why) w = absurd (omega (arith, w.short, full, length-flat_map ns))

pub ruleset just_filled = (fills, filled)

pub ruleset put_steps = (put_more, take_all, length-flat_map)

pub length-row : (k : ℕ) (ns : List ℕ) → length (row k ns) ≡ 1 + 8 * length ns
unfolding row
length-row k ns = omega (arith, length-flat_map ns)

pub get_or-row : (k : ℕ) (ns : List ℕ) → get_or (row k ns) 0 0 ≡ k
unfolding row
get_or-row k ns = refl

pub ruleset rows = (length-flat_map, length-row, get_or-row)

pub fitting_append : (hs ls : List ℕ) → Fitting hs → Fitting ls → Fitting (hs ++ ls)
fitting_append hs ls h l i = grind (arith, places)

-- the head and the list of a row are written behind its kind
module _ (k m : ℕ) (hs ls before : List ℕ) (long : m ≡ length ls) where
  abbrev start : ℕ
  start = 1 + 8 * length hs

  abbrev end : ℕ
  end = start + 8 * m

  pub row_put : end ≤ length before → (a b : List ℕ) → a ≡ flat_map eight hs → b ≡ flat_map eight ls → put_mid start (end - start) (put_mid 1 (start - 1) (slice_set before 0 k) a) b ≡ row k (hs ++ ls) ++ drop end before
  unfolding row
  row_put room a b ha hb =
      let rest : List ℕ = drop (start - 1) (drop 1 before) in
      let kind : slice_set before 0 k ≡ k ∷ drop 1 before = set_split before 0 k (omega arith) in
      let width : length (k ∷ a) ≡ start = omega (arith, ap length ha, length-flat_map hs) in
      let front : take start (k ∷ (a ++ rest)) ≡ k ∷ a = take_at (k ∷ a) rest start width in
      let back : drop start (k ∷ (a ++ rest)) ≡ rest = drop_at (k ∷ a) rest start width in
      let far : drop (end - start) rest ≡ drop end before = simp drop-drop (ap (λ (i : ℕ). drop i before) (omega arith)) in
      rw (kind, front, back, far, ha, hb, flat_map-append eight hs ls) (simp append_assoc refl)

  pub row_long : length (row k (hs ++ ls)) ≡ end
  row_long = omega (arith, length-row, length-append {A = ℕ})

pub ruleset without_list = (append-nil)

pub ruleset row_steps = (row_put, row_long, fitting_append)

-- what the bytes of a row tell, and that bytes of whole numbers are the row that they tell
module _ (k : ℕ) (ns : List ℕ) (b : ℕ) (bs : List ℕ) where
  pub row_numbers : row k ns ≡ b ∷ bs → Fitting ns → ns ≡ numbers (length bs / 8) bs
  unfolding row
  row_numbers e fit =
      let same : flat_map eight ns ≡ bs = cc in
      let long : length bs / 8 ≡ length ns = omega (arith, length-flat_map ns, ap length same) in
      rw (long, ← same) (sym (numbers-flat_map ns fit))

  pub row_back : k ≡ b → ns ≡ numbers (length bs / 8) bs → length bs % 8 ≡ 0 → Bytes bs → Fitting ns × (row k ns ≡ b ∷ bs)
  unfolding row
  row_back same e whole h =
      let long : length bs ≡ 8 * (length bs / 8) = omega arith in
      let back = bytes_back (length bs / 8) bs long h in
      (subst Fitting (sym e) back.0, cc (back.1))
