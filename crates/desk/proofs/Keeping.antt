-- What the calls that change a desk leave. Assumes nothing.
use Rattle.std.proofs.Common.{◌≡◌, ℕ, false, ◌==◌, ◌+◌, ◌-◌, ◌*◌, ◌<◌, ◌≤◌, List, [], ◌∷◌, ◌++◌, length, take, drop, slice_index, slice_set, Ok, Err, sym, refl, ap, ◌∙◌, arith}
use borrow.Rule.Slice.PartMut.{put_mid}
use Rattle.std.proofs.lemmas.List.{places, take-append-drop, take-take, length_push, drop-set-lt, length-set, length-take-le, length-drop}
use Rattle.std.proofs.lemmas.Slice.{drop-put_mid}
use mathlib.Core.Logic.{◌⊎◌, inl, inr}
use Rattle.std.proofs.lemmas.Bool.Decides.{nat_tests}
use Rattle.estate.specs.Answers.{Answer, number, refused}
use Rattle.estate.specs.Refusals.{not_there, no_room, turned, place}
use Rattle.estate.specs.Calls.{Call, claims, proves, comes, shares, cents, garbled}
use Rattle.estate.specs.Changes.{changed}
use Rattle.estate.specs.Limits.{most_cents, most_there}
use Rattle.estate.specs.Right.{says}
use Rattle.register.specs.Rows.{IsUnfit}
use Rattle.register.specs.declared.rows.Unfit.{Unfit}
use Rattle.register.specs.declared.rows.Unfit.TheVariants as unfit
use Rattle.sums.specs.Ledger.{room, register, Enters, Amends}
use Rattle.sums.proofs.Came.{halves, entered_long, entered_came, amended_long, amended_came}
use Rattle.wire.specs.declared.refusals.TurnedAway.{TurnedAway}
use Rattle.wire.specs.declared.refusals.Refusal.TheVariants.{NoRoom, NotThere}
use Rattle.desk.specs.Memory.{header_words, rows, words_asked, layout, limits_of, estate_of, rest_of, Headed, Stands}
use Rattle.desk.specs.Steps.{Grown, Full, Altered, Unaltered, Does}
use Rattle.desk.specs.Calling.{Served, SameBounds, AsTold, Told}
use Rattle.desk.proofs.Words.{claims_counted, put_below, comes_told, claims_told, proves_told, rows_added, rows_changed, rows_ordered, comes_writes, claims_writes, proves_writes, body}

-- a call that is not turned away, of a desk
served_by : (c : Call) (m new : List ℕ) (a : Answer) → turned (limits_of m) (estate_of m) c ≡ 0 → new ≡ layout (limits_of m) (changed (estate_of m) c) ++ rest_of m → a ≡ says (estate_of m) c → Served c m new a
served_by c m new a t w s = record { memory = rw t w; answer = rw t s }

told_by : (c : Call) (m new : List ℕ) (a : Answer) → turned (limits_of m) (estate_of m) c ≡ 0 → estate_of new ≡ changed (estate_of m) c → a ≡ says (estate_of m) c → AsTold c m new a
told_by c m new a t w s = (rw t s, rw t w)

-- shares and cents change nothing, and the others do as the definitions have it
pub told_of : (c : Call) (m new : List ℕ) (a : Answer) → AsTold c m new a → ((c ≡ shares) ⊎ (c ≡ cents) → new ≡ m) → Told c m new a
unfolding says
told_of (claims c) m new a t s = t
told_of (proves i c) m new a t s = inl t
told_of (comes x) m new a t s = t
told_of shares m new a t s = (s (inl refl), _, _, t.0)
told_of cents m new a t s = (s (inr refl), inl (_, t.0))
told_of (garbled n) m new a t s = t

-- a call that is turned away, by number n
module _ (c : Call) (m : List ℕ) (a : Answer) (n : ℕ) (some : (n == 0) ≡ false) (t : turned (limits_of m) (estate_of m) c ≡ n) (is : a ≡ refused n (place c n)) where
  pub refused_by : Stands m → Served c m m a
  refused_by d = record { memory = rw (t, some) d.laid; answer = rw (t, some) is }

  pub refused_told : Told c m m a
  refused_told = told_of c m m a (rw (t, some) is, rw (t, some) refl) (λ s. refl)

pub unchanged : (m : List ℕ) → SameBounds m m
unchanged m = record { limit = refl; rest = refl }

bounded : (m new : List ℕ) → slice_index new 0 ≡ slice_index m 0 → drop (words_asked (slice_index m 0)) new ≡ rest_of m → SameBounds m new
bounded m new one two = record { limit = one; rest = rw one two }

-- memory whose header says what there is
module _ (m : List ℕ) (there : ℕ) (is_there : there ≡ slice_index m 1) (headed : Headed m) where
  pub come_done : (x : ℕ) → x ≤ most_cents → there + x ≤ most_there → Does (comes x) m (slice_set m 1 (there + x)) (Ok (there + x))
  unfolding says Does
  come_done x few room =
      let t : turned (limits_of m) (estate_of m) (comes x) ≡ 0 = grind (arith, nat_tests) in
      let n = ap number (ap (λ t. t + x) is_there) in (
        λ s. served_by (comes x) m _ _ t (rw is_there (ap (λ ws. slice_set ws 1 (slice_index m 1 + x)) s.laid ∙ comes_writes _ (estate_of m) (rest_of m) (slice_index m 1 + x))) n,
        told_by (comes x) m (slice_set m 1 (there + x)) _ t (rw is_there (comes_told m headed (slice_index m 1 + x))) n,
        tt,
        bounded m _ (grind (arith, places)) (drop-set-lt _ m 1 _ (omega arith)),
      )

  pub come_full : (x : ℕ) (t : TurnedAway) → x ≤ most_cents → most_there < there + x → t ≡ record { why = NoRoom; place = 0 } → Does (comes x) m m (Err t)
  unfolding Does
  come_full x t few full is =
      let n : turned (limits_of m) (estate_of m) (comes x) ≡ no_room = grind (arith, nat_tests) in
      (refused_by (comes x) m _ _ refl n (rw is refl), refused_told (comes x) m _ _ refl n (rw is refl), refl, unchanged m)

-- memory whose header says how many claims there are, and of which so many words are the ledger
module _ (m : List ℕ) (end count k : ℕ) (is_end : end ≡ words_asked (slice_index m 0)) (is_count : count ≡ slice_index m 2) (spans : k ≡ end - header_words) (headed : Headed m) where
  abbrev ledger_words : List ℕ
  ledger_words = take k (drop header_words m)

  span : k ≡ 3 * slice_index m 0
  span = omega (arith, is_end, spans)

  part_long : length ledger_words ≡ k
  part_long =
      length-take-le k (drop header_words m) (omega (arith, length-drop header_words m, headed.words, span))

  pub part_room : room ledger_words ≡ slice_index m 0
  part_room = omega (arith, part_long, span)

  count_is : length (estate_of m).claimed ≡ count
  count_is = claims_counted m headed ∙ sym is_count

  came : take count ledger_words ≡ (estate_of m).claimed
  came = let within : count ≤ k = omega (arith, headed.few, span, is_count) in take-take count k (drop header_words m) within ∙ ap (λ n. take n (drop header_words m)) is_count

  pub part_is : Stands m → ledger_words ≡ rows (limits_of m) (estate_of m)
  part_is s =
      let b = body _ (estate_of m) (rest_of m) s.allowed.few in
      rw span (ap (λ ws. take (3 * slice_index m 0) (drop header_words ws)) s.laid ∙ b)

  unwritten : put_mid header_words k m ledger_words ≡ m
  unwritten =
      let one = take-append-drop k (drop header_words m) in
      let two = take-append-drop header_words m in
      cc

  put_bounded : (part : List ℕ) → length part ≡ length ledger_words → SameBounds m (put_mid header_words k m part)
  put_bounded part long =
      let room : header_words ≤ length m = omega (arith, headed.words) in
      bounded m _ (put_below header_words k 0 m part (omega arith) room) (drop-put_mid header_words k m part _ (omega (arith, span)) room (long ∙ part_long))

  pub claim_done : (c : ℕ) (part : List ℕ) → Grown count c ledger_words part → c ≤ most_cents → Does (claims c) m (slice_set (put_mid header_words k m part) 2 (count + 1)) (Ok count)
  unfolding says Does Grown Enters
  claim_done c part (at, a) few =
      let n = count_is in
      let long = entered_long count c ledger_words part at a in
      let room : count < slice_index m 0 = omega (arith, long.0, part_room) in
      let same = long.1 in
      let b = put_bounded part same in
      let t : turned (limits_of m) (estate_of m) (claims c) ≡ 0 = grind (arith, nat_tests) in (
        λ s.
            let cs = (estate_of m).claimed ++ c ∷ [] in
            let new = rows_added _ (estate_of m) s.allowed.few c at part (rw (part_is s, sym n) at a) in
            let long : count + 1 ≡ length cs = omega (arith, length_push (estate_of m).claimed c) in
            let w = claims_writes _ (estate_of m) (rest_of m) s.allowed.few cs part (omega arith) new in
            let k = span in
            served_by (claims c) m _ _ t (cc) (ap number (sym n)),
        told_by (claims c) m (slice_set (put_mid header_words k m part) 2 (count + 1)) _ t (claims_told m headed k part (count + 1) _ (omega (arith, same, part_long)) (entered_came count c ledger_words part at a ∙ ap (λ cs. cs ++ c ∷ []) came)) (ap number (sym n)),
        tt,
        bounded m _ (grind (arith, places, b.limit)) (drop-set-lt (words_asked (slice_index m 0)) (put_mid header_words k m part) 2 _ (omega arith) ∙ rw b.limit at b.rest),
      )

  pub claim_full : (c : ℕ) (part : List ℕ) (t : TurnedAway) → Full count c ledger_words part → c ≤ most_cents → t ≡ record { why = NoRoom; place = 0 } → Does (claims c) m (put_mid header_words k m part) (Err t)
  unfolding Does Full Enters
  claim_full c part t e few is =
      let n = count_is in
      let same : put_mid header_words k m part ≡ m = rw e.1 unwritten in
      let full : slice_index m 0 ≤ count = omega (arith, part_room, e.0) in
      let k : turned (limits_of m) (estate_of m) (claims c) ≡ no_room = grind (arith, nat_tests) in
      rw same (refused_by (claims c) m _ _ refl k (rw is refl), refused_told (claims c) m _ _ refl k (rw is refl), refl, unchanged m)

  pub prove_done : (i x c : ℕ) (part : List ℕ) → Altered count i c ledger_words part → c ≤ most_cents → x ≡ i → Does (proves i c) m (put_mid header_words k m part) (Ok x)
  unfolding says Does Altered Amends
  prove_done i x c part (moved, a) few same =
      let n = count_is in
      let kept = amended_long count c ledger_words part i moved.from moved.to a in
      let long = kept.2 in
      let t : turned (limits_of m) (estate_of m) (proves i c) ≡ 0 = grind (arith, nat_tests) in (
        λ s.
            let cs = slice_set (estate_of m).claimed i c in
            let long = length-set (estate_of m).claimed i c in
            let new = rows_changed _ (estate_of m) s.allowed.few i c moved.from moved.to part (rw (part_is s, sym n) at a) in
            let w = proves_writes _ (estate_of m) (rest_of m) s.allowed.few cs part (omega (arith, s.allowed.few)) new long in
            let k = span in
            served_by (proves i c) m _ _ t (cc) (ap number same),
        inl (told_by (proves i c) m (put_mid header_words k m part) _ t (proves_told m headed k part _ (omega (arith, long, part_long)) (rw is_count at (amended_came count c ledger_words part i moved.from moved.to a) ∙ ap (λ cs. slice_set cs i c) (rw is_count at came))) (ap number same)),
        tt,
        put_bounded part long,
      )

  missing : (i : ℕ) → Stands m → (why : Unfit) → IsUnfit count i (register ledger_words) why → count ≤ i
  missing i s unfit.NotThere u = omega (arith, u, part_room, halves ledger_words, headed.few, is_count)
  missing i s unfit.OutOfOrder u =
      absurd (rows_ordered _ (estate_of m) s.allowed.few i (rw (part_is s, sym count_is) at u))

  pub prove_missing : (i c : ℕ) (part : List ℕ) (t : TurnedAway) → Unaltered count i c ledger_words part → c ≤ most_cents → t ≡ record { why = NotThere; place = 0 } → Does (proves i c) m (put_mid header_words k m part) (Err t)
  unfolding Does Unaltered Amends
  prove_missing i c part t (why, b) few is =
      let n = count_is in
      let same : put_mid header_words k m part ≡ m = rw b.1 unwritten in
      rw same (
        λ s.
            let none = missing i s why b.0 in
            let k : turned (limits_of m) (estate_of m) (proves i c) ≡ not_there = grind (arith, nat_tests) in
            refused_by (proves i c) m _ _ refl k (rw is refl) s,
        inr (rw is refl, refl),
        refl,
        unchanged m,
      )

pub ruleset come = (come_done, come_full)

pub ruleset claim = (claim_done, claim_full)

pub ruleset prove = (prove_done, prove_missing)
