-- The desk that the definitions describe does as the contracts say: its answers can be given. Assumes nothing.
use Rattle.std.proofs.Common.{◌≡◌, ℕ, ◌+◌, ◌^◌, ◌<◌, ◌≤◌, Bool, true, false, ◌==◌, List, [], ◌∷◌, ◌++◌, length, drop, replicate, Ok, Err, Result, refl, sym, ap, ◌∙◌, arith}
use Rattle.std.proofs.lemmas.Bool.{false≢true}
use mathlib.Core.Logic.{◌⊎◌, inl, inr}
use Rattle.std.proofs.lemmas.Bool.Decides.{nat_tests}
use Rattle.std.proofs.Math.ListN.{drop_of_length-le}
use Rattle.std.proofs.lemmas.List.{length-replicate, append-nil}
use Rattle.std.specs.Prelude.{if◌then◌else◌, IfErr}
use Rattle.estate.specs.Answers.{Answer, refused, number}
use Rattle.estate.specs.Calls.{Call, claims, proves, comes, shares, cents, garbled}
use Rattle.estate.specs.Changes.{after}
use Rattle.estate.specs.Division.{Agrees}
use Rattle.estate.specs.Estates.{Estate, new_estate, amount, counted, divided}
use Rattle.estate.specs.Limits.{Limits, most_there}
use Rattle.estate.specs.Refusals.{check, first_refusal, turned, place}
use Rattle.estate.specs.Right.{own_parts, own_shares, says, answered}
use Rattle.estate.proofs.ClosedForm.{own_divide}
use Rattle.estate.proofs.Limited.{shares_agree, parts_small, claim_small, share_small}
use Rattle.estate.proofs.WholeCents.{cents_add_up}
use Rattle.wire.specs.Answers.{answer_row, Sendable}
use Rattle.wire.specs.Bytes.{Fitting}
use Rattle.wire.specs.Meaning.{refusal_number}
use Rattle.wire.specs.declared.refusals.Refusal.{Refusal}
use Rattle.wire.specs.declared.refusals.Refusal.TheVariants.{Unreadable, TooLarge, NotThere, NoRoom}
use Rattle.wire.specs.declared.refusals.TurnedAway.{TurnedAway}
use Rattle.wire.proofs.Bytes.{fitting_more, length-row}
use Rattle.desk.specs.Memory.{words_asked, bytes_asked, limits_of, estate_of, rest_of, layout, Allowed}
use Rattle.desk.specs.Calling.{is_refused, Given, Called}
use Rattle.desk.specs.Promises.{DescribedObeys}
use Rattle.desk.proofs.Words.{limits_read, estate_read, rest_read}
use Rattle.desk.proofs.Keeping.{told_of}
use Rattle.desk.proofs.Checking.{answered_alone}
use Rattle.desk.proofs.Promised.{allowed_after}

-- what turns a call away has a name
refusal_of_two : (a b : Bool) (v w : Refusal) → (first_refusal (check a (refusal_number v) ∷ check b (refusal_number w) ∷ []) == 0) ≡ false → (why : Refusal) × (refusal_number why ≡ first_refusal (check a (refusal_number v) ∷ check b (refusal_number w) ∷ []))
refusal_of_two false b v w h = (v, refl)
refusal_of_two true false v w h = (w, refl)
refusal_of_two true true v w h = absurd (false≢true (sym h))

refusal_named : (l : Limits) (e : Estate) (c : Call) → (turned l e c == 0) ≡ false → (why : Refusal) × (refusal_number why ≡ turned l e c)
refusal_named l e (claims c) h = refusal_of_two _ _ TooLarge NoRoom h
refusal_named l e (proves i c) h = refusal_of_two _ _ TooLarge NotThere h
refusal_named l e (comes x) h = refusal_of_two _ _ TooLarge NoRoom h
refusal_named l e shares h = absurd (false≢true (sym h))
refusal_named l e cents h = absurd (false≢true (sym h))
refusal_named l e (garbled n) h = (Unreadable, refl)

-- an answer that can be sent for so many claims
pub record Fits (n : ℕ) (a : Answer) : Type 0 where
  pub sendable : Sendable a
  pub room : length (answer_row a) ≤ bytes_asked n
  pub answers : is_refused a ≡ false

number_fits : (l n : ℕ) → n < 2 ^ 64 → Fits l (number n)
number_fits l n less = record {
  sendable = record { listed = tt; fitting = fitting_more n [] less (λ i. omega arith) };
  room = omega (arith, length-row);
  answers = refl;
}

module _ (l : Limits) (e : Estate) (f : Allowed l e) where
  divides : Agrees (own_parts e) (divided e) (counted e) (own_shares e)
  divides = shares_agree e f.within

  share_fits : Fitting (own_shares e)
  share_fits i = omega (arith, share_small e f.within i)

  says_fits : (c : Call) → (turned l e c == 0) ≡ true → Fits l.creditors (says e c)
  unfolding says
  says_fits (claims c) t = number_fits _ _ (omega (arith, f.few, f.limit))
  says_fits (proves i c) t = let there : i < length (counted e) = grind (arith, nat_tests) in number_fits _ _ (omega (arith, f.few, f.limit))
  says_fits (comes x) t = let few : amount e + x ≤ most_there = grind (arith, nat_tests) in number_fits _ _ (omega arith)
  says_fits shares t = let xs = own_shares e in record {
    sendable = record { listed = tt; fitting = fitting_more (own_parts e) (length xs ∷ xs) (omega (arith, parts_small e f.within)) (fitting_more (length xs) xs (omega (arith, divides.paired, f.within.few)) share_fits) };
    room = omega (arith, length-row, divides.paired, f.few);
    answers = refl;
  }
  says_fits cents t =
      let p = cents_add_up (own_parts e) (divided e) (counted e) (own_shares e) (own_divide e) in
      record {
        sendable = record { listed = tt; fitting = fitting_more _ _ (omega (arith, p.paired, f.within.few)) (λ i. omega (arith, p.below i, claim_small e f.within i)) };
        room = omega (arith, length-row, p.paired, f.few);
        answers = refl;
      }
  says_fits (garbled n) t = absurd (false≢true t)

  given : (c : Call) (out : List ℕ) (b : Bool) → (turned l e c == 0) ≡ b → bytes_asked l.creditors ≤ length out → (sent : List ℕ) × (r : Result ℕ TurnedAway) × Given (if b then says e c else refused (turned l e c) (place c (turned l e c))) out sent r × IfErr r (λ _. (turned l e c == 0) ≡ false)
  given c out true t room =
      let row : List ℕ = answer_row (says e c) in
      let v = says_fits c t in
      (row ++ drop (length row) out, Ok (length row), (record { long = refl; room = omega (arith, v.room); holds = refl }, v.sendable, v.answers), tt)
  given c out false t room =
      let (why, is) = refusal_named l e c t in
      (out, Err (record { why = why; place = place c (turned l e c) }), (rw is refl, refl), t)

in_err : (r : Result ℕ TurnedAway) (P Q : Type 0) → IfErr r (λ _. P) → (P → Q) → IfErr r (λ _. Q)
in_err (Ok n) P Q h g = tt
in_err (Err t) P Q h g = g h

pub described_obeys : DescribedObeys
unfolding Called
described_obeys = record {
  opens = λ l few.
      let zeros : List ℕ = replicate (words_asked l.creditors) 0 in
      let long : length zeros ≡ words_asked l.creditors = length-replicate {A = ℕ} (words_asked l.creditors) 0 in
      let none = drop_of_length-le zeros (omega (arith, long)) in
      (zeros, (few, omega (arith, long), sym (append-nil (layout l new_estate)) ∙ ap (λ ws. layout l new_estate ++ ws) (sym none)));
  calls = λ m c out s lent.
      let l = limits_of m.words in
      let e = estate_of m.words in
      let rest = rest_of m.words in
      let new : List ℕ = layout l (after l e c) ++ rest in
      let few = (allowed_after l e c s.allowed).few in
      let (sent, r, g, away) = given l e s.allowed c out _ refl lent.bytes in
      let asks : (c ≡ shares) ⊎ (c ≡ cents) → new ≡ m.words = λ h. elim h [ inl is ↦ rw is (sym s.laid) | inr is ↦ rw is (sym s.laid) ] in
      let called : Called c m.words new out sent r = (
        answered l e c,
        g,
        record {
          served = λ _ _. record { memory = refl; answer = refl };
          unlent = λ un. absurd (un lent);
          alone = answered_alone l e c;
          told = λ _. told_of c m.words new _ (refl, estate_read l.creditors (after l e c) rest few) asks;
          bounds = record { limit = ap (λ k. k.creditors) (limits_read l.creditors (after l e c) rest few); rest = rest_read l.creditors (after l e c) rest few };
        },
        in_err r _ _ away (λ t. rw t (sym s.laid)),
      ) in
      (sent, r, called, g);
}
