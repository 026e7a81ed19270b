-- What reading a call, and taking the first off a row of calls, says of the bytes. Assumes nothing.
use Rattle.std.proofs.Common.{◌≡◌, ℕ, zero, suc, ◌-◌, ◌<◌, ◌≤◌, List, ◌++◌, length, get_or, take, drop, replicate, sym, refl, ap, ◌∙◌, arith, length-append, take-append-drop}
use Rattle.std.proofs.lemmas.List.{places, nil_from_length, take_at, drop_at}
use Rattle.std.proofs.lemmas.Bool.Decides.{nat_tests}
use Rattle.estate.specs.Calls.{Call, shares, garbled}
use Rattle.wire.specs.Bytes.{Bytes, row}
use Rattle.wire.specs.Calls.{kind, call_row, Sendable, extent, narrow, last_call}
use Rattle.wire.specs.Reading.{call_at, read, Whole, Begins, FirstMisfit, first_extent, Heard, Split}
use Rattle.wire.proofs.CallRows.{length-call_row, read_row, row_read}

-- the first bytes of a known kind, no more than a call of it has, begin one: what they are with zeros behind them
begins_known : (k p : ℕ) (bs : List ℕ) → get_or bs 0 0 ≡ k → 0 < p → p ≤ length bs → k ≤ last_call → p ≤ extent k → Bytes bs → Begins (take p bs)
begins_known k p bs first some within known room h =
    let zeros : List ℕ = replicate (extent k - p) 0 in
    let w : Whole k (take p bs ++ zeros) = record { first = grind (arith, places); known = known; long = grind (arith, places) } in
    let r = row_read k (take p bs ++ zeros) w (λ i. grind (arith, places)) in
    (call_at k (take p bs ++ zeros), zeros, r.0, r.1)

front_begins : (bs : List ℕ) (p : ℕ) → read bs ≡ garbled p → Bytes bs → Begins (take p bs)
front_begins bs zero e h = (shares, call_row shares, record { known = omega arith; fitting = λ i. omega arith }, refl)
front_begins bs (suc p) e h =
    begins_known _ (suc p) bs refl (omega arith) (grind (arith, nat_tests)) (grind (arith, nat_tests)) (grind (arith, nat_tests)) h

pub first_misfit : (bs : List ℕ) (p : ℕ) → Bytes bs → read bs ≡ garbled p → FirstMisfit bs p
unfolding row
first_misfit bs p h e = record {
  within = grind (arith, nat_tests);
  before = front_begins bs p e h;
  with_it = λ less s.
      let first : kind s.0 ≡ get_or (take (suc p) bs ++ s.1) 0 0 = ap (λ (l : List ℕ). get_or l 0 0) s.3 in
      let long = ap length s.3 in
      let all = length-call_row s.0 in
      let known = s.2.known in
      let over : get_or bs 0 0 ≤ last_call → p ≡ extent (get_or bs 0 0) = λ few. grind (arith, nat_tests) in
      grind (arith, places);
  at_end = λ last c s same. omega (arith, s.known, ap kind (sym (read_row c s) ∙ ap read same ∙ e));
}

narrow_garbled : (c : Call) (p : ℕ) → garbled p ≡ narrow c → c ≡ garbled p
narrow_garbled c p e = grind arith

pub heard_by : (bs : List ℕ) (c : Call) → Bytes bs → c ≡ narrow (read bs) → Heard bs c
heard_by bs c h e = record {
  value = e;
  first = λ p g. first_misfit bs p h (narrow_garbled (read bs) p (sym g ∙ e));
  back = λ k s same. cc (read_row k s);
}

-- the first call takes all the bytes of its row, whatever lies behind
row_first : (bs : List ℕ) (c : Call) (behind : List ℕ) → Sendable c → bs ≡ call_row c ++ behind → length (call_row c) ≡ first_extent bs
unfolding row
row_first bs c behind s same =
    let long = length-call_row c in
    let first : get_or bs 0 0 ≡ kind c = cc in
    let room = ap length same ∙ length-append (call_row c) behind in
    let known = s.known in
    rw first (grind (arith, nat_tests))

pub split_by : (bs first rest : List ℕ) → first ≡ take (first_extent bs) bs → rest ≡ drop (first_extent bs) bs → Split bs first rest
split_by bs first rest t l = record {
  taken = t;
  left = l;
  whole = rw (t, l) (sym (take-append-drop _ bs));
  shorter = λ some. grind (arith, nat_tests, places);
  next = λ k behind s same.
      let all = row_first bs k behind s same in
      (cc (take_at (call_row k) behind _ all), cc (drop_at (call_row k) behind _ all));
  unread = λ p e. nil_from_length rest (grind (arith, nat_tests, places));
}
