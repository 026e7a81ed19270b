-- The way down a tree: as the code goes it, and that it ends at the level. Assumes nothing.
use Rattle.std.proofs.Common.{◌≡◌, ℕ, suc, zero, ◌+◌, ◌-◌, ◌*◌, ◌^◌, ◌%◌, ◌<◌, ◌≤◌, ◌⊎◌, List, [], ◌∷◌, length, take, drop, sum, slice_index, length-drop, get_or-drop, All, mul-le-mul_left, add-zero, add-one, refl, sym, ap, ◌∙◌, arith}
use mathlib.Core.Logic.{inl, inr}
use Rattle.std.specs.Int.Count.{count_leading_zeros}
use Rattle.std.specs.List.Sorted.{IsNonDecreasing}
use Rattle.std.proofs.lemmas.List.{places}
use Rattle.std.proofs.lemmas.List.Elements.{All-tail}
use Rattle.std.proofs.lemmas.List.Sums.{sum_by_more}
use Rattle.std.proofs.Math.Pow.{pow_mono}
use Rattle.std.proofs.lemmas.Nat.{leading_length, one_shl, pow_pos}
use Rattle.std.proofs.lemmas.Bool.Decides.{nat_tests}
use Rattle.std.proofs.lemmas.Bool.{cases_lt}
use Rattle.estate.specs.Level.{fill}
use Rattle.estate.proofs.Rows.{sum-cons}
use Rattle.estate.proofs.Ordered.{rising_head, rising_tail}
use Rattle.level.specs.Words.{held}
use Rattle.level.specs.Levels.{Fills}
use Rattle.sums.specs.Sums.{sums_of, total_of}
use Rattle.sums.specs.Descending.{IsHeight, IsBehind, reach, start, further, way, Goes, level_behind}
use Rattle.sums.specs.declared.descending.Way.{Way}
use Rattle.sums.proofs.Sums.{sum_at, total_taken}

pub height_is : (n : ℕ) → n < 2 ^ 64 → IsHeight n (64 - count_leading_zeros 64 n)
unfolding IsHeight
height_is n h =
    let (m, same, room, least) = leading_length 64 n h in
    let is : 64 - count_leading_zeros 64 n ≡ m = omega arith in
    rw is (omega arith, room, least)

pub height_room : (n h : ℕ) → IsHeight n h → (h ≤ 64) × (2 ^ h ≤ 2 * n + 1)
unfolding IsHeight
height_room n h is = (is.0, is.2)

pub behind_is : (h : ℕ) (w : Way) → h < 64 → IsBehind h w (w.filled + (1 * 2 ^ h) % 2 ^ 64)
unfolding IsBehind
behind_is h w low = rw (one_shl h 64 low) refl

pub behind_room : (h n : ℕ) (w : Way) → h < 64 → w.filled + 2 ^ h < n → w.filled + (1 * 2 ^ h) % 2 ^ 64 < n
behind_room h n w low room = rw (one_shl h 64 low) room

pub goes_end : (h n : ℕ) (ks ws : List ℕ) (w : Way) → h < 1 → Goes h n ks ws w w
unfolding Goes way
goes_end h n ks ws w low = let none : h ≡ 0 = omega arith in rw none refl

-- through a tree one higher than h, where p is the place behind its middle
module _ (g h n p : ℕ) (ks ws : List ℕ) (w end : Way) (less : g ≡ suc h) (is_behind : IsBehind h w p) where
  pub goes_lower : length ks < p → Goes h n ks ws w end → Goes g n ks ws w end
  unfolding Goes way IsBehind
  goes_lower few is = rw less (grind (arith, nat_tests))

  pub goes_before : p ≤ length ks → n ≤ reach p ks ws → Goes h n ks ws (further w.filled w) end → Goes g n ks ws w end
  unfolding Goes way IsBehind
  goes_before some reached is = rw (less, sym is_behind) (grind (arith, nat_tests))

  pub goes_behind : p ≤ length ks → reach p ks ws < n → Goes h n ks ws (further p w) end → Goes g n ks ws w end
  unfolding Goes way IsBehind
  goes_behind some past is = rw (less, sym is_behind) (grind (arith, nat_tests))

-- what the words up to one tell is the last of them
pub filled_behind : (p : ℕ) (ws : List ℕ) → 0 < p → p ≤ length ws → total_of (take p ws) ≡ slice_index ws (p - 1)
filled_behind p ws some l = grind (arith, places)

pub some_behind : (h p : ℕ) (w : Way) → IsBehind h w p → 0 < p
unfolding IsBehind
some_behind h p w is_behind = omega (arith, pow_pos h)

pub room_behind : (g h p l : ℕ) (w : Way) → g ≡ suc h → IsBehind h w p → w.filled + 2 ^ g ≤ l → p + 2 ^ h ≤ l
unfolding IsBehind
room_behind g h p l w less is_behind room = omega (arith, rw less at room)

pub ruleset behind = (behind_is, behind_room)

pub ruleset goes = (goes_end, goes_lower, goes_before, goes_behind, filled_behind, some_behind, room_behind)

-- what the first k of claims come to that are all at least c
at_least : (c k : ℕ) (ks : List ℕ) → All (λ x. c ≤ x) ks → k ≤ length ks → k * c ≤ sum (take k ks)
at_least c zero ks above room = omega arith
at_least c (suc k) [] above room = absurd (omega arith)
at_least c (suc k) (x ∷ xs) above room =
    omega (arith, above 0 0 (omega arith), at_least c k xs (All-tail (λ y. c ≤ y) x xs above) (omega arith), sum-cons x (take k xs))

-- the first claims are filled, where more is there than fills them, and all others as far as the last of them
fill_past : (m p n : ℕ) (ks : List ℕ) → IsNonDecreasing ks → length ks ≡ suc m + p → sum (take (suc m) ks) + p * slice_index ks m < n → fill n ks ≡ fill (n - sum (take (suc m) ks)) (drop (suc m) ks)
unfolding fill
fill_past m p n [] rise long more = absurd (omega arith)
fill_past zero p n (c ∷ cs) rise long more = let same : length cs ≡ p = omega arith in grind (arith, nat_tests)
fill_past (suc m) p n (c ∷ cs) rise long more =
    let above = rising_head c cs rise in
    let front = at_least c (suc m) cs above (omega arith) in
    let here : c ≤ slice_index cs m = above m 0 (omega arith) in
    let others = mul-le-mul_left p here in
    let all = sum-cons c (take (suc m) cs) in
    let same : suc (length cs) * c ≡ suc (suc m) * c + p * c = ap (λ k. k * c) long ∙ omega arith in
    let rest = fill_past m p (n - c) cs (rising_tail c cs rise) (omega arith) (omega (arith, all, more)) in
    grind (arith, nat_tests)

-- where no more is left than fills all to the least of them, they share it
fill_here : (n : ℕ) (ks : List ℕ) → (length ks ≡ 0) ⊎ (n ≤ length ks * slice_index ks 0) → fill n ks ≡ record { spread = n; sharers = length ks }
unfolding fill
fill_here n [] ends = refl
fill_here n (c ∷ cs) ends = grind (arith, nat_tests)

-- The claims that are filled lie below the level, and it lies in that part of the tree behind them which is h high.
record Between (h n : ℕ) (ks ws : List ℕ) (w : Way) : Type 0 where
  within : w.filled ≤ length ks
  past : (w.filled ≡ 0) ⊎ (reach w.filled ks ws < n)
  ends : (length ks < w.filled + 2 ^ h) ⊎ (n ≤ reach (w.filled + 2 ^ h) ks ws)

-- filled into claims in ascending order, beside which the sums over them stand
module _ (n : ℕ) (ks ws : List ℕ) (rising : IsNonDecreasing ks) (same : ws ≡ sums_of ks) (word : n < 2 ^ 64) where
  sum_here : (j : ℕ) → j < length ks → slice_index ws j ≡ held (sum (take (j + 1) ks))
  sum_here j l = rw same (sum_at j ks l)

  taken : (p : ℕ) → total_of (take p ws) ≡ held (sum (take p ks))
  taken p = rw same (total_taken p ks)

  -- what fills the first p claims is gone
  gone : (p : ℕ) → p ≤ length ks → (p ≡ 0) ⊎ (reach p ks ws < n) → (total_of (take p ws) ≡ sum (take p ks)) × (fill n ks ≡ fill (n - sum (take p ks)) (drop p ks))
  gone zero room past = let all : n ≡ n - sum (take 0 ks) = omega arith in (refl, ap (λ k. fill k ks) all)
  gone (suc m) room (inl none) = absurd (omega arith)
  gone (suc m) room (inr past) =
      let last : suc m - 1 ≡ m = omega arith in
      let past = rw last at past in
      let here = rw add-one at (sum_here m room) in
      (omega (arith, taken (suc m)), fill_past m (length ks - suc m) n ks rising (omega arith) (omega arith))

  -- and where n fills no more, the others share what is left
  shared : (p : ℕ) → (length ks < p + 1) ⊎ (n ≤ reach (p + 1) ks ws) → (length (drop p ks) ≡ 0) ⊎ (n - sum (take p ks) ≤ length (drop p ks) * slice_index (drop p ks) 0)
  shared p (inl few) = inl (omega (arith, length-drop p ks))
  shared p (inr reached) =
      elim (cases_lt p (length ks)) [
        | inl l ↦
            let here : p + 1 - 1 ≡ p = omega arith in
            let first : slice_index (drop p ks) 0 ≡ slice_index ks p = get_or-drop p ks 0 0 ∙ rw add-zero refl in
            let long : length (drop p ks) ≡ suc (length ks - (p + 1)) = omega (arith, length-drop p ks) in
            inr (rw (long, first) (omega (arith, rw here at reached, sum_here p l, sum_by_more (λ x. x) ks p 0 l)))
        | inr g ↦ inl (omega (arith, length-drop p ks))
      ]

  found : (w : Way) → Between 0 n ks ws w → level_behind w.filled n ks ws ≡ fill n ks
  found w b =
      let p = w.filled in
      let (exact, is) = gone p b.within b.past in
      let others = length-drop p ks in
      rw (exact, sym others) (sym (is ∙ fill_here (n - sum (take p ks)) (drop p ks) (shared p b.ends)))

  fills : (h : ℕ) (w : Way) → Between h n ks ws w → level_behind (way h n ks ws w).filled n ks ws ≡ fill n ks
  unfolding way
  fills zero w b = found w b
  fills (suc h) w b =
      let double : w.filled + 2 ^ suc h ≡ w.filled + 2 ^ h + 2 ^ h = omega arith in
      let lower = λ (few : length ks < w.filled + 2 ^ h). fills h w (record { within = b.within; past = b.past; ends = inl few }) in
      let before = λ (l : n ≤ reach (w.filled + 2 ^ h) ks ws). fills h (further w.filled w) (record { within = b.within; past = b.past; ends = inr l }) in
      let behind = λ (some : w.filled + 2 ^ h ≤ length ks) (g : reach (w.filled + 2 ^ h) ks ws < n). fills h (further (w.filled + 2 ^ h) w) (record { within = some; past = inr g; ends = rw double at b.ends }) in
      grind (arith, nat_tests, lower, before, behind)

pub level_found : (h n s : ℕ) (ks ws : List ℕ) (end : Way) → IsHeight (length ks) h → n < 2 ^ 64 → Goes h n ks ws start end → s ≡ total_of (take end.filled ws) → IsNonDecreasing ks → ws ≡ sums_of ks → Fills ks n (record { numerator = n - s; denominator = length ks - end.filled })
unfolding Goes IsHeight
level_found h n s ks ws end high word goes is rising same =
    ap (λ x. record { spread = n - x; sharers = length ks - end.filled }) is
    ∙ ap (λ (w : Way). level_behind w.filled n ks ws) goes
    ∙ fills n ks ws rising same word h start (record { within = omega arith; past = inl refl; ends = inl (omega (arith, high.1)) })

pub steps_counted : (h n s : ℕ) → IsHeight n h → s ≤ h → 2 ^ s ≤ 2 * n + 1
unfolding IsHeight
steps_counted h n s high few = let low = pow_mono few in omega arith

pub ruleset ways = (level_found, steps_counted, height_room)
