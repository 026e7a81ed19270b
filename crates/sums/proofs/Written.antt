-- Sums that are renewed from a place on. Assumes nothing.
use Rattle.std.proofs.Common.{◌≡◌, ℕ, ◌+◌, ◌<◌, ◌≤◌, List, ◌∷◌, [], ◌++◌, length, take, drop, set, sum, slice_index, refl, sym, ◌∙◌, ◌-◌, ◌*◌, ◌/◌, ◌%◌, ◌^◌, bit_or, arith, append_assoc, zero-add}
use borrow.Rule.Slice.PartMut.{put_mid}
use Rattle.std.proofs.lemmas.List.{take_all, drop_all, drop_more, take_more_set, append-nil, length-take, length-drop, length-append}
use Rattle.std.proofs.lemmas.Nat.{le_or_l, le_or_r}
use Rattle.level.specs.Words.{held}
use Rattle.sums.specs.Sums.{sums_from, sums_of, total_of, renewed}
use Rattle.sums.proofs.Sums.{sums_long, sums_apart, sums_held, total_sums}

-- The words before place i stand, and s is what they tell: with those made of it and of the claims left these are all.
unfoldable pub MadeTo : ℕ → ℕ → List ℕ → List ℕ → List ℕ → Type 0
MadeTo i s ks ws all = take i ws ++ sums_from s (drop i ks) ≡ all

pub made_none : (s : ℕ) (ks ws : List ℕ) → MadeTo 0 s ks ws (sums_from s ks)
unfolding MadeTo
made_none s ks ws = refl

pub made_more : (i s v : ℕ) (ks ws all : List ℕ) → i < length ks → length ws ≡ length ks → v ≡ held (s + slice_index ks i) → MadeTo i s ks ws all → MadeTo (i + 1) v ks (set ws i v) all
unfolding MadeTo sums_from
made_more i s v ks ws all some paired is made =
    let k = slice_index ks i in
    let rest = sums_held v (s + k) (drop (i + 1) ks) (omega arith) in
    let left = drop_more ks i 0 some in
    let front = take_more_set ws i v (omega arith) in
    let made = rw left at made in
    rw (front, rest) (append_assoc (take i ws) (v ∷ []) (sums_from (s + k) (drop (i + 1) ks)) ∙ rw is made)

pub made_all : (i s : ℕ) (ks ws all : List ℕ) → length ks ≤ i → length ws ≡ length ks → MadeTo i s ks ws all → ws ≡ all
unfolding MadeTo sums_from
made_all i s ks ws all last paired made =
    let front = take_all i ws (omega arith) in
    let rest = drop_all i ks last in
    sym (append-nil ws) ∙ rw (front, rest) at made

pub ruleset any = (made_none, made_more, made_all)

-- The same where b, which has the bits of all claims before place i, of their number and of t / 2 ^ 31, is small: with t
-- claimed before them nothing has wrapped.
unfoldable pub SmallTo : ℕ → ℕ → ℕ → ℕ → List ℕ → List ℕ → Type 0
SmallTo i b s t ks ws = (length ks ≤ b) × (b < 2 ^ 31 → MadeTo i s ks ws (sums_from t ks) × (s < 2 ^ 62 + i * 2 ^ 31))

pub small_none : (b t : ℕ) (ks ws : List ℕ) → b ≡ bit_or (length ks) (t / 2 ^ 31) → SmallTo 0 b t t ks ws
unfolding SmallTo
small_none b t ks ws is =
    let few = le_or_l (length ks) (t / 2 ^ 31) in
    let low = le_or_r (length ks) (t / 2 ^ 31) in
    (omega (arith, is, few), λ small. (made_none t ks ws, omega (arith, is, low, small)))

pub small_more : (i b c s v t : ℕ) (ks ws : List ℕ) → i < length ks → length ws ≡ length ks → c ≡ bit_or b (slice_index ks i) → v ≡ (s + slice_index ks i) % 2 ^ 64 → SmallTo i b s t ks ws → SmallTo (i + 1) c v t ks (set ws i v)
unfolding SmallTo
small_more i b c s v t ks ws some paired more is so =
    let k = slice_index ks i in
    let old = le_or_l b k in
    let new = le_or_r b k in (
      omega (arith, more, old, so.0),
      λ small.
          let now = so.1 (omega (arith, more, old, small)) in
          let sum : v ≡ s + k = omega (arith, is, more, new, old, small, so.0, some, now.1) in
          (made_more i s v ks ws (sums_from t ks) some paired (omega (arith, sum, is)) now.0, omega (arith, sum, now.1, more, new, small)),
    )

pub small_all : (i b s t : ℕ) (ks ws : List ℕ) → length ks ≤ i → length ws ≡ length ks → SmallTo i b s t ks ws → b < 2 ^ 31 → ws ≡ sums_from t ks
unfolding SmallTo
small_all i b s t ks ws last paired so small = made_all i s ks ws (sums_from t ks) last paired (so.1 small).0

pub ruleset small = (small_none, small_more, small_all)

-- the sums from a place on, made of what the words before tell
pub renewing : (a s : ℕ) (ks ws sums : List ℕ) → s ≡ total_of (take a ws) → sums ≡ sums_from s (take (length ks - a) (drop a ks)) → put_mid a (length ws - a) ws sums ≡ renewed a ks ws
unfolding renewed
renewing a s ks ws sums is made =
    let whole = take_all (length ks - a) (drop a ks) (omega (arith, length-drop a ks)) in
    let none = drop_all (length ws - a) (drop a ws) (omega (arith, length-drop a ws)) in
    rw (made, whole, none, is, append-nil (sums_from (total_of (take a ws)) (drop a ks))) refl

pub renewed_long : (a : ℕ) (ks ws : List ℕ) → length ws ≡ length ks → length (renewed a ks ws) ≡ length ks
unfolding renewed
renewed_long a ks ws paired =
    omega (arith, length-append {A = ℕ}, length-take a ws, sums_long (total_of (take a ws)) (drop a ks), length-drop a ks)

-- where the words before were the sums over the claims, all are afterwards
pub renewed_sums : (a : ℕ) (ks ws : List ℕ) → take a ws ≡ sums_of (take a ks) → renewed a ks ws ≡ sums_of ks
unfolding renewed
renewed_sums a ks ws before =
    rw before (rw (sums_held (total_of (sums_of (take a ks))) (sum (take a ks)) (drop a ks) (omega (arith, total_sums (take a ks)))) (rw zero-add at (sums_apart a 0 ks)))
