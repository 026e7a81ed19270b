-- A register keeps its claims, as they came and in order. Assumes nothing.
use Rattle.std.proofs.Common.{◌≡◌, ℕ, ◌+◌, ◌/◌, ◌<◌, ◌≤◌, List, [], ◌∷◌, ◌++◌, length, get_or, take, drop, set, ap, ◌∙◌, arith}
use borrow.Rule.Slice.PartMut.{put_mid}
use Rattle.std.proofs.lemmas.List.{places, ext_get_or, length-set, length_push, set-append_left}
use Rattle.std.proofs.lemmas.Grind.{common_steps, elements}
use Rattle.std.specs.List.Sorted.{IsNonDecreasing}
use Rattle.estate.specs.Order.{sorted}
use Rattle.estate.proofs.Ordered.{length-sorted, rising_sorted}
use Rattle.estate.proofs.Reordered.{sorted_push, sorted-set, has_sorted}
use Rattle.register.specs.Row.{part}
use Rattle.register.specs.Rows.{middle, over, kept}
use Rattle.register.specs.Laws.{Adds, Changes, NeverOutOfOrder}
use Rattle.register.proofs.AsLists.{inserts, replaces, not_in}

-- claims at the start of a row, after one more and after another for one of them
over_pushed : (cs row : List ℕ) (c : ℕ) → length cs < length row → set (over cs row) (length cs) c ≡ over (cs ++ c ∷ []) row
over_pushed cs row c h = grind (arith, elements)

over_set : (cs row : List ℕ) (i c : ℕ) → i < length cs → set (over cs row) i c ≡ over (set cs i c) row
over_set cs row i c h = grind (arith, set-append_left, length-set)

-- two rows, the first of which is as long as m
module _ (xs ks row : List ℕ) (m n : ℕ) (long : length xs ≡ m) where
  second_part : length ks ≡ n → part m n (xs ++ over ks row) ≡ ks
  second_part same = grind (arith, common_steps)

  second_put : (new : List ℕ) → length ks ≤ n → length new ≡ n → put_mid m n (xs ++ over ks row) new ≡ xs ++ over new row
  second_put new more same = ext_get_or 0 _ _ (grind (arith, places)) (λ k h. grind (arith, places))

module _ (ws cs : List ℕ) (room : length cs ≤ middle ws) where
  pub kept_long : length (kept ws cs) ≡ length ws
  kept_long = grind (arith, places, length-sorted cs)

  pub kept_middle : middle (kept ws cs) ≡ middle ws
  kept_middle = ap (λ (n : ℕ). n / 2) kept_long

  -- the claims in order are read where they stand
  pub kept_order : part (middle ws) (length cs) (kept ws cs) ≡ sorted cs
  kept_order =
      second_part (over cs (take (middle ws) ws)) (sorted cs) (drop (middle ws) ws) (middle ws) (length cs) (grind (arith, places)) (length-sorted cs)

-- a register in which c has been written at place i among the claims as they came
module _ (ws cs : List ℕ) (room : length cs ≤ middle ws) (i c : ℕ) (h : i < middle ws) where
  abbrev first : List ℕ
  first = set (over cs (take (middle ws) ws)) i c

  first_long : length first ≡ middle ws
  first_long = grind (arith, places, length-set)

  set-kept : set (kept ws cs) i c ≡ first ++ over (sorted cs) (drop (middle ws) ws)
  set-kept = grind (arith, places, set-append_left)

  kept_part : part (middle ws) (length cs) (set (kept ws cs) i c) ≡ sorted cs
  kept_part = rw set-kept (second_part first (sorted cs) _ _ _ first_long (length-sorted cs))

  kept_rising : IsNonDecreasing (part (middle ws) (length cs) (set (kept ws cs) i c))
  kept_rising = rw kept_part (rising_sorted cs)

  kept_put : (n : ℕ) (new : List ℕ) → first ≡ over new (take (middle ws) ws) → length cs ≤ n → length new ≡ n → put_mid (middle ws) n (set (kept ws cs) i c) (sorted new) ≡ kept ws new
  kept_put n new came more long =
      rw (set-kept, second_put first (sorted cs) _ _ n first_long (sorted new) (omega (arith, length-sorted cs)) (length-sorted new ∙ long), came)

pub adds : Adds
adds c at ws cs new room a =
    let even = kept_middle ws cs room in
    let less : length cs < middle ws = omega (arith, a.room) in
    let list = inserts (middle ws) (length cs) c at (set (kept ws cs) (length cs) c) new (rw even at a.inserted) in
    let here = kept_part ws cs room (length cs) c less in
    let order = list.1 (kept_rising ws cs room (length cs) c less) in
    let last = sorted_push cs c in
    let came = over_pushed cs (take (middle ws) ws) c (grind (arith, places)) in
    let put = kept_put ws cs room (length cs) c less (length cs + 1) (cs ++ c ∷ []) came (omega arith) (length_push cs c) in
    list.0 ∙ cc

pub changes : Changes
changes i c from to ws cs new room a =
    let even = kept_middle ws cs room in
    let less : i < middle ws = omega (arith, a.there) in
    let list = replaces (middle ws) (length cs) (get_or (kept ws cs) i 0) c from to (set (kept ws cs) i c) new (rw even at a.replaced) in
    let here = kept_part ws cs room i c less in
    let order = list.1 (kept_rising ws cs room i c less) in
    let old : get_or (kept ws cs) i 0 ≡ get_or cs i 0 = grind (arith, places, a.there) in
    let other = sorted-set cs i c a.there in
    let came = over_set cs (take (middle ws) ws) i c a.there in
    let put = kept_put ws cs room i c less (length cs) (set cs i c) came (omega arith) (length-set cs i c) in
    list.0 ∙ cc

pub never_out_of_order : NeverOutOfOrder
never_out_of_order i ws cs room m =
    let there = m.1 in
    let old = get_or (kept ws cs) i 0 in
    let here = kept_order ws cs room in
    let came : old ≡ get_or cs i 0 = grind (arith, places) in
    let long = kept_long ws cs room in
    let has = has_sorted cs i there in
    not_in (middle ws) (length cs) old (kept ws cs) (omega arith) (rw (kept_middle ws cs room) at m.2) (rw here (rising_sorted cs)) (rw (here, came) has)
