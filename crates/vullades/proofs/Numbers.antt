-- What a number that is answered tells. Assumes nothing.
use Rattle.std.proofs.Common.{◌≡◌, ℕ, ◌+◌, ◌*◌, ◌^◌, ◌<◌, ℤ, pos, ◌<ℤ◌, List, length, Ok, Err, Result, IfOk, IfErr, arith, zero-le, ◌≢◌, suc, ◌-◌, neg_ℤ, nat_abs, refl, sym, ap, ◌∙◌}
use Rattle.std.specs.Prelude.{if◌then◌else◌, ◌==◌}
use Rattle.std.proofs.Math.Facts.{yes_leb}
use Rattle.std.proofs.Math.IntN.{pos-ne-negsuc, neg_ℤ-neg_ℤ}
use Rattle.wire.specs.Meaning.{refusal_number}
use Rattle.wire.specs.declared.refusals.Refusal.{Refusal}
use Rattle.wire.specs.declared.refusals.Refusal.TheVariants.{Unreadable, TooLarge, NotLent, NotThere, NoRoom}
use Rattle.std.specs.Int.Signed.{clash_ℤ, le_z_yes}
use Rattle.estate.specs.Calls.{Call}
use Rattle.wire.specs.declared.refusals.TurnedAway.{TurnedAway}
use Rattle.desk.specs.Opening.{Opened}
use Rattle.desk.specs.Calling.{Called}
use Rattle.vullades.specs.Numbers.{signed, taken, Opens, Calls, OneOutcome}

-- a desk is opened, and the number tells it
pub opens : (limit : ℕ) (m new : List ℕ) (r : Result (Unit {0}) TurnedAway) (z : ℤ) → Opened limit m new r → z ≡ signed (taken limit r) → Opens limit m new z
unfolding Opens
opens limit m new r z opened is = (r, opened, is)

-- no length is a number below 0
not_below : (n : ℕ) (X : Type 0) → pos n <ℤ pos 0 → X
not_below n X h = clash_ℤ h (le_z_yes (yes_leb zero-le))

module _ (c : Call) (m new out sent : List ℕ) where
  -- a call is done, and the number tells it
  pub calls : (r : Result ℕ TurnedAway) (z : ℤ) → Called c m new out sent r → z ≡ signed r → IfErr r (λ t. t.place < 2 ^ 32) → Calls c m new out sent z
  unfolding Calls
  calls r z called is small = (r, called, is, small)

  -- an answer is no longer than what was lent for it
  pub answer_fits : (r : Result ℕ TurnedAway) → Called c m new out sent r → length out < 2 ^ 63 → IfOk r (λ n. n < 2 ^ 63)
  unfolding Called
  answer_fits (Ok n) called h = omega (arith, called.1.0.room, h)
  answer_fits (Err t) called h = tt

  -- a number below 0 tells that memory is as it was
  pub memory_kept : (r : Result ℕ TurnedAway) → Called c m new out sent r → signed r <ℤ pos 0 → new ≡ m
  unfolding Called
  memory_kept (Ok n) called h = not_below n _ h
  memory_kept (Err t) called h = called.3

  -- and that nothing was written
  pub bytes_kept : (r : Result ℕ TurnedAway) → Called c m new out sent r → signed r <ℤ pos 0 → sent ≡ out
  unfolding Called
  bytes_kept (Ok n) called h = not_below n _ h
  bytes_kept (Err t) called h = called.1.1

-- the numbers of refusals
number_known : (k : Refusal) → 0 < refusal_number k
number_known Unreadable = omega arith
number_known TooLarge = omega arith
number_known NotLent = omega arith
number_known NotThere = omega arith
number_known NoRoom = omega arith

-- a refusal is no length
not_length : (n : ℕ) (t : TurnedAway) → signed (Ok n) ≢ signed (Err t)
not_length n t same =
    let k = refusal_number t.why * 2 ^ 32 + t.place in
    let some : k ≡ suc (k - 1) = omega (arith, number_known t.why) in
    pos-ne-negsuc n (k - 1) (rw some at same)

-- what stands behind a sign
behind_sign : (n k : ℕ) → neg_ℤ (pos n) ≡ neg_ℤ (pos k) → n ≡ k
behind_sign n k same = ap nat_abs (sym (neg_ℤ-neg_ℤ (pos n)) ∙ ap neg_ℤ same ∙ neg_ℤ-neg_ℤ (pos k))

-- a refusal is known by its number
abbrev known_by : ℕ → Refusal
known_by n =
    if n == 1 then Unreadable else if n == 2 then TooLarge else if n == 3 then NotLent else if n == 4 then NotThere else NoRoom

by_number : (k : Refusal) → known_by (refusal_number k) ≡ k
by_number Unreadable = refl
by_number TooLarge = refl
by_number NotLent = refl
by_number NotThere = refl
by_number NoRoom = refl

pub one_outcome : OneOutcome
one_outcome (Ok n) (Ok k) low few same = ap (λ z. Ok (nat_abs z)) same
one_outcome (Ok n) (Err t) low few same = absurd (not_length n t same)
one_outcome (Err t) (Ok n) low few same = absurd (not_length n t (sym same))
one_outcome (Err t) (Err u) low few same =
    let all = behind_sign _ _ same in
    let number : refusal_number t.why ≡ refusal_number u.why = omega (arith, all, low, few) in
    let why : t.why ≡ u.why = sym (by_number t.why) ∙ ap known_by number ∙ by_number u.why in
    let place : t.place ≡ u.place = omega (arith, all, low, few) in
    λ i. Err (record { why = why i; place = place i })
