-- A ledger keeps its claims, and the sums over those in order. Assumes nothing.
use Rattle.std.proofs.Common.{◌≡◌, ℕ, ◌+◌, ◌-◌, ◌*◌, ◌/◌, ◌<◌, ◌≤◌, List, [], ◌∷◌, ◌++◌, length, take, drop, set, slice_index, slice_set, min, length-append, length-drop, get_or-drop, refl, sym, ap, ◌∙◌, arith}
use Rattle.std.proofs.lemmas.List.{places, take-append-drop, take_at, ext_get_or, get_or-take, get_or-set_other, take-take, take-append-le, length-set, length_push}
use Rattle.std.proofs.lemmas.Slice.{drop-append-drop}
use Rattle.std.proofs.lemmas.Grind.{elements}
use Rattle.estate.specs.Order.{sorted}
use Rattle.estate.proofs.Ordered.{length-sorted, rising_sorted}
use Rattle.register.specs.Row.{part, Carried}
use Rattle.register.specs.Rows.{middle, kept, over}
use Rattle.register.proofs.Keeping.{kept_long, kept_middle, kept_order, adds as register_adds, changes as register_changes, never_out_of_order as register_ordered}
use Rattle.sums.specs.Sums.{sums_from, sums_of}
use Rattle.sums.specs.Ledger.{room, register, ledger, resummed}
use Rattle.sums.specs.Laws.{Starts, Adds, Changes, NeverOutOfOrder, Reads}
use Rattle.sums.proofs.Sums.{sums_long, sums_taken}
use Rattle.sums.proofs.Written.{renewed_sums}
use Rattle.sums.proofs.Came.{two_long, halves}
use Rattle.sums.proofs.Rows.{first_two, third}

-- what stands in the third row
abbrev row : List ℕ → List ℕ → List ℕ
row us cs = over (sums_of (sorted cs)) (drop (2 * room us) us)

module _ (us cs : List ℕ) (few : length cs ≤ room us) where
  front_long : length (kept (register us) cs) ≡ 2 * room us
  front_long = kept_long (register us) cs (omega (arith, halves us)) ∙ two_long us

  sums_kept : length (sums_of (sorted cs)) ≡ length cs
  sums_kept = sums_long 0 (sorted cs) ∙ length-sorted cs

  row_long : length (row us cs) ≡ length us - 2 * room us
  row_long = omega (arith, length-append {A = ℕ}, sums_kept, length-drop (length (sums_of (sorted cs))) (drop (2 * room us) us), length-drop (2 * room us) us)

  pub ledger_long : length (ledger us cs) ≡ length us
  ledger_long = omega (arith, length-append {A = ℕ}, front_long, row_long)

  two : length (kept (register us) cs) ≡ 2 * room (ledger us cs)
  two = omega (arith, front_long, ledger_long)

  two_rows : register (ledger us cs) ≡ kept (register us) cs
  two_rows = first_two (ledger us cs) (kept (register us) cs) (row us cs) refl two

  last_row : drop (2 * room (ledger us cs)) (ledger us cs) ≡ row us cs
  last_row = third (ledger us cs) (kept (register us) cs) (row us cs) refl two

  -- a register is within the memory's first two rows
  fits : length cs ≤ middle (register us)
  fits = omega (arith, halves us)

pub starts : Starts
unfolding Starts sorted sums_from
starts us =
    rw (take-append-drop (middle (register us)) (register us)) (take-append-drop (2 * room us) us)

-- a ledger whose register has become that of other claims, no fewer, of which those before place a in order are the same
module _ (us cs ds : List ℕ) (few : length cs ≤ room us) (fits_too : length ds ≤ room us) (more : length cs ≤ length ds) where
  all_summed : (n a : ℕ) (new : List ℕ) → n ≡ length ds → a ≤ length cs → take a (sorted ds) ≡ take a (sorted cs) → new ≡ resummed n a (ledger us cs) (kept (register us) ds) → new ≡ ledger us ds
  all_summed n a new count l same words =
      let half = halves us in
      let row_is = last_row us cs few in
      let long = ledger_long us cs few in
      let order : part (room (ledger us cs)) (length ds) (kept (register us) ds) ≡ sorted ds =
      ap (λ n. part n (length ds) (kept (register us) ds)) (omega (arith, long, half)) ∙ kept_order (register us) ds (omega (arith, half)) in
      let before : take a (take (length ds) (row us cs)) ≡ sums_of (take a (sorted ds)) =
      take-take a (length ds) (row us cs) (omega arith)
      ∙ take-append-le a (sums_of (sorted cs)) _ (omega (arith, sums_kept us cs few))
      ∙ sums_taken a 0 (sorted cs)
      ∙ ap sums_of (sym same) in
      let sums = renewed_sums a (sorted ds) (take (length ds) (row us cs)) before in
      let rest = drop-append-drop (length (sums_of (sorted cs))) (drop (2 * room us) us) (sums_of (sorted cs)) (length ds) (omega (arith, sums_kept us cs few)) refl in
      let end = sums_kept us ds fits_too in
      words ∙ rw (count, row_is, order, sums, rest, end) refl

-- the claims in order in a register, one by one
order_at : (ws cs : List ℕ) (i : ℕ) → length cs ≤ middle ws → i < length cs → slice_index (kept ws cs) (middle ws + i) ≡ slice_index (sorted cs) i
order_at ws cs i few l =
    sym (get_or-drop (middle ws) (kept ws cs) i 0)
    ∙ sym (get_or-take (length cs) (drop (middle ws) (kept ws cs)) i 0 l)
    ∙ ap (λ ks. slice_index ks i) (kept_order ws cs few)

-- before the places between which a claim moved, those in order are as they were
unmoved : (ws cs ds : List ℕ) (p c from to a : ℕ) → length cs ≤ middle ws → length ds ≤ middle ws → p < middle ws → Carried from to c (set (kept ws cs) p c) (kept ws ds) → a ≤ length cs → a ≤ length ds → middle ws + a ≤ from → middle ws + a ≤ to → take a (sorted ds) ≡ take a (sorted cs)
unmoved ws cs ds p c from to a few too first m k l before_from before_to =
    let long_cs = length-sorted cs in
    let long_ds = length-sorted ds in
    ext_get_or 0 _ _ (grind (arith, places)) (λ i h.
    let here : i < a = grind (arith, places) in
    get_or-take a (sorted ds) i 0 here
    ∙ sym (order_at ws ds i too (omega arith))
    ∙ m.below (middle ws + i) (omega arith) (omega arith)
    ∙ get_or-set_other (kept ws cs) p (middle ws + i) c 0 (omega arith)
    ∙ order_at ws cs i few (omega arith)
    ∙ sym (get_or-take a (sorted cs) i 0 here))

pub adds : Adds
unfolding Adds
adds c at us cs new few e =
    let ds = cs ++ c ∷ [] in
    let half = halves us in
    let size = ledger_long us cs few in
    let fit = fits us cs few in
    let a = rw (two_rows us cs few) at e.added in
    let even = kept_middle (register us) cs fit in
    let long = length_push cs c in
    let front = register_adds c at (register us) cs e.front fit a in
    let within : length ds ≤ middle (register us) = omega (arith, a.room, long, even) in
    let moved = rw front at a.inserted.carried in
    let place = at - room (ledger us cs) in
    let same = unmoved (register us) cs ds (length cs) c _ at place fit within (omega (arith, a.room, even)) moved (omega arith) (omega arith) (omega arith) (omega arith) in
    all_summed us cs ds few (omega arith) (omega arith) _ place new (sym long) (omega arith) same (rw front at e.words)

pub changes : Changes
unfolding Changes
changes i c from to us cs new few e =
    let ds = slice_set cs i c in
    let half = halves us in
    let size = ledger_long us cs few in
    let fit = fits us cs few in
    let a = rw (two_rows us cs few) at e.changed in
    let even = kept_middle (register us) cs fit in
    let long = length-set cs i c in
    let front = register_changes i c from to (register us) cs e.front fit a in
    let moved = rw front at a.replaced.carried in
    let place = min from to - room (ledger us cs) in
    let same = unmoved (register us) cs ds i c from to place fit (omega arith) (omega arith) moved (omega arith) (omega arith) (omega arith) (omega arith) in
    all_summed us cs ds few (omega arith) (omega arith) _ place new (sym long) (omega arith) same (rw front at e.words)

pub ordered : NeverOutOfOrder
unfolding NeverOutOfOrder
ordered i us cs few u =
    register_ordered i (register us) cs (fits us cs few) (rw (two_rows us cs few) at u)

pub ruleset added = (starts, adds)

pub ruleset changed = (changes, ordered)

pub reads : Reads
unfolding Reads
reads us cs t few claims sums =
    let two : room (ledger us cs) ≡ room us = ap (λ n. n / 3) (ledger_long us cs few) in
    let order : part (room us) (length cs) (ledger us cs) ≡ sorted cs =
    (let long = front_long us cs few in grind (arith, elements))
    ∙ ap (λ n. part n (length cs) (kept (register us) cs)) (sym (halves us))
    ∙ kept_order (register us) cs (fits us cs few) in
    let all : take (length cs) (row us cs) ≡ sums_of (sorted cs) = take_at (sums_of (sorted cs)) _ (length cs) (sums_kept us cs few) in
    let is = claims ∙ order in
    (record { rising = rw is (rising_sorted cs); sums = sums ∙ rw (rw two at (last_row us cs few), all, is) refl }, is)
