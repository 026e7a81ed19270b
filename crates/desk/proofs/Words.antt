-- The words of a desk: what is read of them, and what each call writes. All that opens the layout stands here. Assumes
-- nothing.
use Rattle.std.proofs.Common.{◌≡◌, ℕ, ◌*◌, ◌<◌, ◌≤◌, List, [], ◌∷◌, ◌++◌, length, take, drop, replicate, slice_set, sym, refl, ◌∙◌, arith, append_assoc, length-append, ap, slice_index}
use borrow.Rule.Slice.PartMut.{put_mid}
use Rattle.std.proofs.lemmas.List.{places, replicate-append-replicate, length-replicate, take_at, drop_at, length-take-le, length-drop, drop-set-lt, take-append-le, get_or-set_same, get_or-set_other}
use Rattle.std.proofs.lemmas.Grind.{common_steps}
use Rattle.estate.specs.Order.{sorted}
use Rattle.estate.specs.Estates.{Estate, new_estate, with_there, with_claimed}
use Rattle.register.specs.Rows.{IsUnfit}
use Rattle.register.specs.declared.rows.Unfit.TheVariants.{OutOfOrder}
use Rattle.sums.specs.Ledger.{room, register, Entered, Amended}
use Rattle.sums.specs.Laws.{Starts, Adds, Changes, NeverOutOfOrder, Reads}
use Rattle.sums.specs.Trees.{IsTree}
use Rattle.sums.specs.declared.tree.Tree.{Tree}
use Rattle.sums.proofs.Ledgers.{ledger_long, starts, adds, changes, ordered, reads}
use Rattle.desk.specs.Memory.{header_words, spare, header, rows, limits_for, layout, words_asked, limits_of, estate_of, rest_of, Headed}

zeros : (n : ℕ) → replicate (words_asked n) 0 ≡ 0 ∷ 0 ∷ 0 ∷ (spare ++ replicate (3 * n) 0)
unfolding spare
zeros n = sym (replicate-append-replicate {A = ℕ} 64 (3 * n) 0)

pub opened : (n w : ℕ) (ws m : List ℕ) → w ≡ words_asked n → w ≤ length m → ws ≡ replicate (length (take w m)) 0 → slice_set (ws ++ drop w m) 0 n ≡ layout (limits_for n) new_estate ++ drop (words_asked n) m
unfolding layout header rows Starts
opened n w ws m e room z =
    let k : length (take w m) ≡ w = grind (arith, places) in
    rw (z, k, e, zeros n, starts (replicate (3 * n) 0)) refl

room-zeros : (n : ℕ) → room (replicate (3 * n) 0) ≡ n
room-zeros n = let z = length-replicate {A = ℕ} (3 * n) 0 in omega arith

-- a desk with room for n claims
module _ (n : ℕ) (e : Estate) (rest : List ℕ) (few : length e.claimed ≤ n) where
  length-header : length (header (limits_for n) e) ≡ header_words
  unfolding header spare
  length-header = refl

  length-rows : length (rows (limits_for n) e) ≡ 3 * n
  unfolding rows
  length-rows =
      let m = room-zeros n in
      ledger_long (replicate (3 * n) 0) e.claimed (omega arith) ∙ length-replicate {A = ℕ} (3 * n) 0

  laid : header (limits_for n) e ++ (rows (limits_for n) e ++ rest) ≡ layout (limits_for n) e ++ rest
  unfolding layout
  laid = sym (append_assoc (header (limits_for n) e) (rows (limits_for n) e) rest)

  behind_header : drop header_words (layout (limits_for n) e ++ rest) ≡ rows (limits_for n) e ++ rest
  behind_header =
      sym (ap (drop header_words) laid) ∙ drop_at (header (limits_for n) e) (rows (limits_for n) e ++ rest) header_words length-header

  pub body : take (3 * n) (drop header_words (layout (limits_for n) e ++ rest)) ≡ rows (limits_for n) e
  body = ap (take (3 * n)) behind_header ∙ take_at (rows (limits_for n) e) rest (3 * n) length-rows

  behind : drop (words_asked n) (layout (limits_for n) e ++ rest) ≡ rest
  unfolding layout
  behind = grind (arith, common_steps, length-header, length-rows)

  pub put : (part : List ℕ) → put_mid header_words (3 * n) (layout (limits_for n) e ++ rest) part ≡ header (limits_for n) e ++ (part ++ rest)
  put part =
      let front = sym (ap (take header_words) laid) ∙ take_at (header (limits_for n) e) (rows (limits_for n) e ++ rest) header_words length-header in
      let back = ap (drop (3 * n)) behind_header ∙ drop_at (rows (limits_for n) e) rest (3 * n) length-rows in
      rw (front, back) refl

  -- what is read: a ledger begins with the claims as they came
  as_they_came : take (length e.claimed) (rows (limits_for n) e ++ rest) ≡ e.claimed
  unfolding rows
  as_they_came = grind (arith, common_steps)

  limit_read : slice_index (layout (limits_for n) e ++ rest) 0 ≡ n
  unfolding layout header
  limit_read = refl

  there_read : slice_index (layout (limits_for n) e ++ rest) 1 ≡ e.there
  unfolding layout header
  there_read = refl

  pub count_read : slice_index (layout (limits_for n) e ++ rest) 2 ≡ length e.claimed
  unfolding layout header
  count_read = refl

  pub estate_read : estate_of (layout (limits_for n) e ++ rest) ≡ e
  estate_read = rw (there_read, count_read, behind_header, as_they_came) refl

  pub limits_read : limits_of (layout (limits_for n) e ++ rest) ≡ limits_for n
  limits_read = rw limit_read refl

  pub rest_read : rest_of (layout (limits_for n) e ++ rest) ≡ rest
  rest_read = rw limit_read behind

  pub long_enough : words_asked n ≤ length (layout (limits_for n) e ++ rest)
  unfolding layout
  long_enough = omega (arith, length-append {A = ℕ}, length-header, length-rows)

-- a ledger after a claim, and after a change; and the tree in it
module _ (n : ℕ) (e : Estate) (few : length e.claimed ≤ n) where
  enough : length e.claimed ≤ room (replicate (3 * n) 0)
  enough = let m = room-zeros n in omega arith

  pub rows_added : (c at : ℕ) (new : List ℕ) → Entered (length e.claimed) c at (rows (limits_for n) e) new → new ≡ rows (limits_for n) (with_claimed e (e.claimed ++ c ∷ []))
  unfolding rows Adds
  rows_added c at new a = adds c at (replicate (3 * n) 0) e.claimed new enough a

  pub rows_changed : (i c from to : ℕ) (new : List ℕ) → Amended (length e.claimed) i c from to (rows (limits_for n) e) new → new ≡ rows (limits_for n) (with_claimed e (slice_set e.claimed i c))
  unfolding rows Changes
  rows_changed i c from to new a = changes i c from to (replicate (3 * n) 0) e.claimed new enough a

  pub rows_ordered : (i : ℕ) → IsUnfit (length e.claimed) i (register (rows (limits_for n) e)) OutOfOrder → ⊥
  unfolding rows NeverOutOfOrder
  rows_ordered i u = ordered i (replicate (3 * n) 0) e.claimed enough u

  pub rows_read : (k : ℕ) (t : Tree) → k ≡ n → t.claims.now ≡ take (length e.claimed) (drop k (rows (limits_for n) e)) → t.sums.now ≡ take (length e.claimed) (drop (2 * k) (rows (limits_for n) e)) → IsTree t × (t.claims.now ≡ sorted e.claimed)
  unfolding rows Reads
  rows_read k t same claims sums =
      let m = room-zeros n in
      let here : k ≡ room (replicate (3 * n) 0) = omega arith in
      reads (replicate (3 * n) 0) e.claimed t enough (rw here at claims) (rw here at sums)

-- what each call writes
module _ (n : ℕ) (e : Estate) (rest : List ℕ) where
  pub comes_writes : (x : ℕ) → slice_set (layout (limits_for n) e ++ rest) 1 x ≡ layout (limits_for n) (with_there e x) ++ rest
  unfolding layout header rows
  comes_writes x = refl

  counted_again : (cs xs : List ℕ) → slice_set (header (limits_for n) e ++ xs) 2 (length cs) ≡ header (limits_for n) (with_claimed e cs) ++ xs
  unfolding header
  counted_again cs xs = refl

  same_count : (cs : List ℕ) → length cs ≡ length e.claimed → header (limits_for n) e ≡ header (limits_for n) (with_claimed e cs)
  unfolding header
  same_count cs h = rw h refl

  module _ (few : length e.claimed ≤ n) (cs part : List ℕ) (some : length cs ≤ n) (new : part ≡ rows (limits_for n) (with_claimed e cs)) where
    pub claims_writes : slice_set (put_mid header_words (3 * n) (layout (limits_for n) e ++ rest) part) 2 (length cs) ≡ layout (limits_for n) (with_claimed e cs) ++ rest
    claims_writes =
        let p = put n e rest few part in
        let k = counted_again cs (part ++ rest) in
        let l = laid n (with_claimed e cs) rest some in
        cc

    pub proves_writes : length cs ≡ length e.claimed → put_mid header_words (3 * n) (layout (limits_for n) e ++ rest) part ≡ layout (limits_for n) (with_claimed e cs) ++ rest
    proves_writes long =
        let p = put n e rest few part in
        let k = same_count cs long in
        let l = laid n (with_claimed e cs) rest some in
        cc

pub put_below : (a k i : ℕ) (xs ys : List ℕ) → i < a → a ≤ length xs → slice_index (put_mid a k xs ys) i ≡ slice_index xs i
put_below a k i xs ys less room = grind (arith, places)

-- of any memory whose header may be a desk's
module _ (m : List ℕ) (h : Headed m) where
  pub claims_counted : length (estate_of m).claimed ≡ slice_index m 2
  claims_counted =
      length-take-le _ (drop header_words m) (omega (arith, length-drop header_words m, h.words, h.few))

  pub comes_told : (x : ℕ) → estate_of (slice_set m 1 x) ≡ with_there (estate_of m) x
  comes_told x =
      let there = get_or-set_same m 1 x 0 (omega (arith, h.words)) in
      let count = get_or-set_other m 1 2 x 0 (omega arith) in
      let rest = drop-set-lt header_words m 1 x (omega arith) in
      rw (there, count, rest) refl

  -- another part in place of the register
  module _ (k : ℕ) (part : List ℕ) where
    put_there : slice_index (put_mid header_words k m part) 1 ≡ slice_index m 1
    put_there = put_below header_words k 1 m part (omega arith) (omega (arith, h.words))

    length_put : 2 < length (put_mid header_words k m part)
    length_put =
        omega (arith, length-append {A = ℕ}, length-take-le header_words m (omega (arith, h.words)))

    put_count : slice_index (put_mid header_words k m part) 2 ≡ slice_index m 2
    put_count = put_below header_words k 2 m part (omega arith) (omega (arith, h.words))

    put_claims : (n : ℕ) → n ≤ length part → take n (drop header_words (put_mid header_words k m part)) ≡ take n part
    put_claims n few =
        let front = drop_at (take header_words m) (part ++ drop k (drop header_words m)) header_words (length-take-le header_words m (omega (arith, h.words))) in
        rw front (take-append-le n part (drop k (drop header_words m)) few)

    pub proves_told : (cs : List ℕ) → slice_index m 2 ≤ length part → take (slice_index m 2) part ≡ cs → estate_of (put_mid header_words k m part) ≡ with_claimed (estate_of m) cs
    proves_told cs few is = rw (put_there, put_count, put_claims _ few, is) refl

    pub claims_told : (n : ℕ) (cs : List ℕ) → n ≤ length part → take n part ≡ cs → estate_of (slice_set (put_mid header_words k m part) 2 n) ≡ with_claimed (estate_of m) cs
    claims_told n cs few is =
        let ws = put_mid header_words k m part in
        let there = get_or-set_other ws 2 1 n 0 (omega arith) ∙ put_there in
        let count = get_or-set_same ws 2 n 0 (omega (arith, length_put)) in
        let rest = drop-set-lt header_words ws 2 n (omega arith) in
        rw (there, count, rest, put_claims n few, is) refl
