-- What is answered, and what it leaves. Assumes nothing.
use Rattle.std.proofs.Common.{◌≡◌, ℕ, ◌*◌, ◌/◌, ◌≤◌, List, length, slice_index, sum, Ok, Err, Result, refl, ap, ◌∙◌, arith, false, ◌==◌, sym}
use Rattle.std.proofs.lemmas.List.{length-map}
use mathlib.Core.Logic.{inl, inr}
use Rattle.std.proofs.lemmas.Bool.{false≢true}
use Rattle.std.specs.Result.{IsOkAnd}
use Rattle.estate.specs.Answers.{Answer, number, parts, amounts}
use Rattle.estate.specs.Calls.{Call, shares, cents}
use Rattle.estate.proofs.WholeCents.{cents_rounded}
use Rattle.shares.specs.declared.written.Shares.{Shares}
use Rattle.shares.specs.Shares.{parts_word, share_word, shares_of}
use Rattle.shares.specs.Laws.{TermsFor}
use Rattle.shares.proofs.Divided.{shares_divide}
use Rattle.cents.specs.declared.split.Split.{Split}
use Rattle.cents.specs.declared.whole.Cents.{Cents}
use Rattle.cents.specs.declared.whole.CentsError.{CentsError}
use Rattle.cents.specs.Parted.{split_parts, split_items}
use Rattle.cents.specs.Whole.{cents_of, Comes}
use Rattle.cents.specs.Laws.{Paid}
use Rattle.cents.proofs.Pay.{cents_pay}
use Rattle.wire.specs.Answers.{answer_row}
use Rattle.wire.specs.declared.refusals.TurnedAway.{TurnedAway}
use Rattle.wire.specs.declared.refusals.Refusal.TheVariants.{NotLent}
use Rattle.wire.proofs.Bytes.{length-row}
use Rattle.desk.specs.Memory.{estate_of, Stands, Lent}
use Rattle.desk.specs.Steps.{Parted, Termed, Sends, Does}
use Rattle.desk.specs.Calling.{is_refused, Served, SameBounds, Told, turned_alone, Replied, Called}
use Rattle.wire.specs.Meaning.{refusal}
use Rattle.desk.proofs.Words.{claims_counted}
use Rattle.desk.proofs.Keeping.{unchanged}

-- a call in which nothing is wrong by itself is not turned away for that
pub not_alone : (c : Call) (X : Type 0) → turned_alone c ≡ 0 → (turned_alone c == 0) ≡ false → X
not_alone c X none f = absurd (false≢true (sym (rw none at f)))

module _ (m out : List ℕ) (lent : Lent m out) where
  -- what is said of the answer to a call that is not turned away by itself
  replied : (c : Call) (new : List ℕ) (a : Answer) → turned_alone c ≡ 0 → (Stands m → Served c m new a) → Told c m new a → SameBounds m new → Replied c m new out a
  replied c new a none served told bounds =
      record { served = λ d l. served d; unlent = λ un. absurd (un lent); alone = not_alone c _ none; told = λ l. told; bounds = bounds }

  -- an answer that is no refusal, and for which there is room
  answered_by : (c : Call) (new sent : List ℕ) (a : Answer) (r : Result ℕ TurnedAway) → turned_alone c ≡ 0 → is_refused a ≡ false → length (answer_row a) ≤ length out → (Stands m → Served c m new a) → Told c m new a → SameBounds m new → Sends a out sent r → Called c m new out sent r
  unfolding Sends Called
  answered_by c new sent a (Ok n) none plain room served told bounds w =
      (a, (w.0, w.1, plain), replied c new a none served told bounds, tt)
  answered_by c new sent a (Err t) none plain room served told bounds w = absurd (omega (arith, room, w.0))

  pub number_done : (c : Call) (new sent : List ℕ) (n : ℕ) (r : Result ℕ TurnedAway) → turned_alone c ≡ 0 → Does c m new (Ok n) → Sends (number n) out sent r → Called c m new out sent r
  unfolding Does
  number_done c new sent n r none d w =
      answered_by c new sent (number n) r none refl (omega (arith, lent.bytes, length-row)) d.0 d.1 d.3 w

  pub number_refused : (c : Call) (new : List ℕ) (t : TurnedAway) → turned_alone c ≡ 0 → Does c m new (Err t) → Called c m new out out (Err t)
  unfolding Does Called
  number_refused c new t none d =
      (refusal t, (refl, refl), replied c new (refusal t) none d.0 d.1 d.3, d.2)

  -- the shares of the claims, on the terms of the division
  module _ (s : Shares) (parted : Parted m s) where
    few : length (shares_of s) ≤ slice_index m 0
    unfolding Parted
    few = omega (arith, length-map s.claims.now (share_word s.terms), ap length parted.1, claims_counted m lent.headed, lent.headed.few)

    terms_for : Stands m → (ks : List ℕ) × TermsFor (estate_of m) ks s.terms
    unfolding Parted Termed
    terms_for d = parted.0 d

    pub shares_done : (a : Answer) (sent : List ℕ) (r : Result ℕ TurnedAway) → a ≡ parts (parts_word s.terms) (shares_of s) → Sends a out sent r → Called shares m m out sent r
    unfolding Parted
    shares_done a sent r is w =
        let served : Stands m → Served shares m m a = λ d.
        let f = terms_for d in
        record { memory = d.laid; answer = is ∙ rw parted.1 (shares_divide (estate_of m) f.0 s.terms f.1).said } in
        answered_by shares m sent a r refl (rw is refl) (rw is (omega (arith, few, lent.bytes, length-row))) served (refl, _, _, is) (unchanged m) w

    module _ (r : Result (Cents Split) CentsError) (comes : Comes split_parts split_items (parts_word s.terms) (shares_of s) r) where
      cents_room : (k : Cents Split) → r ≡ Ok k → length (answer_row (amounts (cents_of split_parts split_items k))) ≤ length out
      cents_room k done =
          let c = rw done at comes in
          let whole : sum (shares_of s) ≡ parts_word s.terms * (sum (shares_of s) / parts_word s.terms) = omega (arith, c.0, c.2) in
          let long = (cents_rounded (parts_word s.terms) _ (shares_of s) c.0 whole).paired in
          rw c.3 (omega (arith, long, few, lent.bytes, length-row))

      paid : (d : Stands m) → IsOkAnd r (λ c. Paid (estate_of m) s.terms (cents_of split_parts split_items c))
      unfolding Parted
      paid d =
          let f = terms_for d in
          cents_pay (estate_of m) f.0 s.terms r f.1 (rw parted.1 at comes)

      pub cents_done : (k : Cents Split) (a : Answer) (sent : List ℕ) (v : Result ℕ TurnedAway) → r ≡ Ok k → a ≡ amounts (cents_of split_parts split_items k) → Sends a out sent v → Called cents m m out sent v
      cents_done k a sent v done is w =
          let served : Stands m → Served cents m m a = λ d. record { memory = d.laid; answer = is ∙ (rw done at (paid d)).said } in
          answered_by cents m sent a v refl (rw is refl) (rw is (cents_room k done)) served (refl, inl (_, is)) (unchanged m) w

      pub cents_failed : (why : CentsError) (v : TurnedAway) → r ≡ Err why → v ≡ record { why = NotLent; place = 1 } → Called cents m m out out (Err v)
      unfolding Called
      cents_failed why v is lost =
          let served : Stands m → Served cents m m (refusal v) = λ d. absurd (rw is at (paid d)) in
          (refusal v, (refl, refl), replied cents m (refusal v) refl served (refl, inr (rw lost refl)) (unchanged m), refl)

pub ruleset answers = (number_done, number_refused, shares_done)

pub ruleset cents_answers = (cents_done, cents_failed)
