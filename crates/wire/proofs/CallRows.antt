-- Calls to rows of bytes and back. Assumes nothing.
use Rattle.std.proofs.Common.{◌≡◌, ℕ, suc, ◌/◌, ◌≤◌, List, [], ◌∷◌, length, sym, refl, ap, ◌∙◌, arith}
use Rattle.std.proofs.lemmas.Bool.Decides.{nat_tests}
use Rattle.estate.specs.Calls.{Call, claims, proves, comes, shares, cents, garbled}
use Rattle.wire.specs.Bytes.{Bytes, eight, numbers, row}
use Rattle.wire.specs.Calls.{kind, fields, call_row, Sendable, extent, last_call}
use Rattle.wire.specs.Reading.{call_at, read, Whole}
use Rattle.wire.specs.Laws.{OneCall}
use Rattle.wire.proofs.Bytes.{number_at-eight, steps, row_back}

pub length-call_row : (c : Call) → length (call_row c) ≡ extent (kind c)
unfolding row eight
length-call_row c = grind (arith, nat_tests)

-- the call that was written is the one that is read
pub read_row : (c : Call) → Sendable c → read (call_row c) ≡ c
unfolding row eight
read_row (claims c) h = ap claims (number_at-eight c [] (h.fitting 0))
read_row (proves i c) h =
    let first = number_at-eight i (eight c) (h.fitting 0) in
    let second = number_at-eight c [] (h.fitting 1) in
    cc
read_row (comes x) h = ap comes (number_at-eight x [] (h.fitting 0))
read_row shares h = refl
read_row cents h = refl
read_row (garbled n) h = absurd (omega (arith, h.known))

pub one_call : OneCall
one_call c k hc hk same = cc (read_row c hc, read_row k hk)

fields_at : (k b : ℕ) (bs : List ℕ) → k ≤ last_call → suc (length bs) ≡ extent k → fields (call_at k (b ∷ bs)) ≡ numbers (length bs / 8) bs
fields_at k b bs known long = grind (arith, nat_tests, steps)

-- bytes of the right kind and number are the row of the call that is read from them
pub row_read : (k : ℕ) (bs : List ℕ) → Whole k bs → Bytes bs → Sendable (call_at k bs) × (call_row (call_at k bs) ≡ bs)
row_read k [] w h = absurd (grind (arith, nat_tests, w.long))
row_read k (b ∷ bs) w h =
    let same : kind (call_at k (b ∷ bs)) ≡ k = grind (arith, nat_tests, w.known) in
    let back = row_back _ _ b bs (same ∙ sym w.first) (fields_at k b bs w.known w.long) (grind (arith, nat_tests)) (λ i. h (suc i)) in
    (record { known = omega (arith, same, w.known); fitting = back.0 }, back.1)
