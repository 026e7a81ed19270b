-- What a move leaves in a part of memory, and outside it. Assumes nothing.
use Rattle.std.proofs.Common.{◌≡◌, ℕ, ◌+◌, ◌-◌, ◌<◌, ◌≤◌, List, length, get_or, take, drop, ◌++◌, ◌∙◌, arith}
use Rattle.std.specs.List.{insert, remove}
use Rattle.std.proofs.lemmas.List.{places, ext_get_or, take-append-drop}
use Rattle.std.proofs.lemmas.List.Edits.{remove-append_left, remove-append_right, insert-append_left, insert-append_right, length-remove}
use borrow.Rule.Slice.PartMut.{put_mid}
use Rattle.register.specs.Row.{Carried, Fits, Stands, Missing, Goes, part}

-- what moves within the middle one of three lists
insert-remove-append : (xs ys zs : List ℕ) (low from to c : ℕ) → length xs ≡ low → low ≤ from → low ≤ to → from - low < length ys → to - low < length ys → insert (remove (xs ++ (ys ++ zs)) from) to c ≡ xs ++ (insert (remove ys (from - low)) (to - low) c ++ zs)
insert-remove-append xs ys zs low from to c long f t f' t' =
    let here = length-remove ys (from - low) f' in
    rw (remove-append_right xs (ys ++ zs) low from long f, remove-append_left ys zs (from - low) f', insert-append_right xs (remove ys (from - low) ++ zs) low to c long t, insert-append_left (remove ys (from - low)) zs (to - low) c (omega arith))

module _ (low n from to c : ℕ) (ws new : List ℕ) (m : Carried from to c ws new) (room : low + n ≤ length ws) (f : low ≤ from) (t : low ≤ to) (f' : from < low + n) (t' : to < low + n) where
  carried_is : new ≡ insert (remove ws from) to c
  carried_is = ext_get_or 0 new _ (grind (arith, places)) (λ k h. grind (arith, places))

  pub in_part : new ≡ put_mid low n ws (insert (remove (part low n ws) (from - low)) (to - low) c)
  in_part =
      let front = take-append-drop low ws in
      let rest = take-append-drop n (drop low ws) in
      let inside = insert-remove-append (take low ws) (part low n ws) (drop n (drop low ws)) low from to c (grind (arith, places)) f t (grind (arith, places)) (grind (arith, places)) in
      carried_is ∙ cc

module _ (low n c : ℕ) (ws : List ℕ) (room : low + n ≤ length ws) where
  fits_inside : {l h at l' h' at' : ℕ} → Fits l h c ws at → l ≡ low + l' → h ≡ low + h' → h' ≤ n → at ≡ low + at' → Fits l' h' c (part low n ws) at'
  fits_inside f one two three four = record {
    above = omega arith;
    within = omega arith;
    before = λ less. grind (arith, places, f.before);
    behind = λ less. grind (arith, places, f.behind);
  }

  part_long : length (part low n ws) ≡ n
  part_long = grind (arith, places)

  pub fits_part : (at : ℕ) → Fits low (low + n) c ws at → Fits 0 (length (part low n ws)) c (part low n ws) (at - low)
  fits_part at f = let long = part_long in fits_inside f (omega arith) (omega arith) (omega arith) (omega arith)

  pub stands_part : (at : ℕ) → Stands low (low + n) c ws at → Stands 0 (length (part low n ws)) c (part low n ws) (at - low)
  stands_part at s = record { fits = fits_part at s.fits; within = omega (arith, part_long); here = grind (arith, places) }

  pub missing_part : Missing low (low + n) c ws → Missing 0 (length (part low n ws)) c (part low n ws)
  missing_part m =
      record { at = m.at - low; fits = fits_part m.at m.fits; other = λ l. grind (arith, places, m.other) }

  pub goes_part : (from to : ℕ) → low ≤ from → from < low + n → Goes low (low + n) from c ws to → Goes 0 (length (part low n ws)) (from - low) c (part low n ws) (to - low)
  goes_part from to f f' g =
      let long = part_long in
      let here : get_or (part low n ws) (from - low) 0 ≡ get_or ws from 0 = grind (arith, places) in
      record {
        above = omega arith;
        within = omega arith;
        more = λ l. fits_inside (g.more (omega arith)) (omega arith) (omega arith) (omega arith) (omega arith);
        less = λ l. fits_inside (g.less (omega arith)) (omega arith) (omega arith) (omega arith) (omega arith);
      }
