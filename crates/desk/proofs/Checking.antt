-- Calls that are turned away for what they are, or for want of what is lent; and places held in 32 bits. Assumes nothing.
use Rattle.std.proofs.Common.{◌≡◌, ℕ, ◌^◌, ◌<◌, List, length, Ok, Err, Result, refl, sym, ◌∙◌, arith, false, ◌==◌}
use Rattle.std.proofs.lemmas.Bool.{false≢true}
use Rattle.std.proofs.lemmas.Bool.Decides.{nat_tests}
use Rattle.std.specs.Prelude.{IsErrAnd}
use Rattle.estate.specs.Answers.{Answer, refused}
use Rattle.estate.specs.Estates.{Estate, counted}
use Rattle.estate.specs.Limits.{Limits}
use Rattle.estate.specs.Calls.{Call, claims, proves, comes, shares, cents, garbled}
use Rattle.estate.specs.Refusals.{turned, place}
use Rattle.estate.specs.Right.{answered}
use Rattle.wire.specs.Calls.{narrow}
use Rattle.wire.specs.Reading.{read, Heard}
use Rattle.wire.specs.declared.refusals.TurnedAway.{TurnedAway}
use Rattle.wire.specs.declared.refusals.Refusal.TheVariants.{Unreadable, TooLarge, NotLent}
use Rattle.wire.proofs.Narrow.{narrow_enough}
use Rattle.desk.specs.Memory.{limits_of, estate_of, Headed, Lent}
use Rattle.desk.specs.Calling.{Told, Called, turned_alone, turned_unlent}
use Rattle.wire.specs.Meaning.{refusal}
use Rattle.desk.proofs.Keeping.{refused_by, refused_told, unchanged}
use Rattle.desk.proofs.Words.{claims_counted}
use Rattle.desk.proofs.Answering.{not_alone}

-- what is checked of a call alone does not depend on the width of a place
narrow_alone : (c : Call) → (turned_alone (narrow c) ≡ turned_alone c) × (turned_unlent (narrow c) ≡ turned_unlent c)
narrow_alone (claims c) = (refl, refl)
narrow_alone (proves i c) = (refl, refl)
narrow_alone (comes x) = (refl, refl)
narrow_alone shares = (refl, refl)
narrow_alone cents = (refl, refl)
narrow_alone (garbled n) = (refl, refl)

-- nor does what memory tells, which is no more than 1,024 claims
narrow_told : (c : Call) (m new : List ℕ) (a : Answer) → Headed m → Told (narrow c) m new a → Told c m new a
narrow_told (claims c) m new a h t = t
narrow_told (proves i c) m new a h t =
    let few : length (counted (estate_of m)) < 2 ^ 32 = omega (arith, claims_counted m h, h.few, h.limit) in
    let same = narrow_enough (limits_of m) (estate_of m) (proves i c) few in
    rw same.1 at (rw same.0 at t)
narrow_told (comes x) m new a h t = t
narrow_told shares m new a h t = t
narrow_told cents m new a h t = t
narrow_told (garbled n) m new a h t = t

-- nor does what a desk does
widened : (c : Call) (m new out sent : List ℕ) (r : Result ℕ TurnedAway) → Called (narrow c) m new out sent r → Called c m new out sent r
unfolding Called
widened c m new out sent r (a, g, s, k) = (
  a,
  g,
  record {
    served = λ d l.
        let few : length (counted (estate_of m)) < 2 ^ 32 = omega (arith, d.allowed.within.few) in
        let same = narrow_enough (limits_of m) (estate_of m) c few in
        let v = s.served d l in
        record { memory = rw same.1 at v.memory; answer = rw same.0 at v.answer };
    unlent = λ n. s.unlent n ∙ (narrow_alone c).1;
    alone = λ n. s.alone (rw (narrow_alone c).0 n) ∙ (narrow_alone c).1;
    told = λ l. narrow_told c m new a l.headed (s.told l);
    bounds = s.bounds;
  },
  k,
)

-- what turns a call away by itself does so on every estate
turned_same : (l : Limits) (e : Estate) (c : Call) → (turned_alone c == 0) ≡ false → turned l e c ≡ turned_alone c
turned_same l e (claims c) f = grind (arith, nat_tests)
turned_same l e (proves i c) f = grind (arith, nat_tests)
turned_same l e (comes x) f = grind (arith, nat_tests)
turned_same l e shares f = absurd (false≢true (sym f))
turned_same l e cents f = absurd (false≢true (sym f))
turned_same l e (garbled n) f = refl

pub answered_alone : (l : Limits) (e : Estate) (c : Call) → (turned_alone c == 0) ≡ false → answered l e c ≡ turned_unlent c
answered_alone l e c f = rw (turned_same l e c f, f) refl

turned_away : (c : Call) (m out : List ℕ) (t : TurnedAway) → (turned_alone c == 0) ≡ false → refusal t ≡ refused (turned_alone c) (place c (turned_alone c)) → Called c m m out out (Err t)
unfolding Called
turned_away c m out t f is =
    let n = turned_same (limits_of m) (estate_of m) c f in (
      refusal t,
      (refl, refl),
      record {
        served = λ d l. refused_by c m _ _ f n is d;
        unlent = λ un. rw f is;
        alone = λ f. rw f is;
        told = λ l. refused_told c m _ _ f n is;
        bounds = unchanged m;
      },
      refl,
    )

module _ (c : Call) (m out : List ℕ) (t : TurnedAway) where
  pub too_large : (p : ℕ) → t ≡ record { why = TooLarge; place = p } → turned_alone c ≡ 2 → p ≡ place c 2 → Called c m m out out (Err t)
  too_large p is f at = turned_away c m out t (rw f refl) (rw (is, f, at) refl)

  pub too_little : t ≡ record { why = NotLent; place = 1 } → turned_alone c ≡ 0 → (Lent m out → ⊥) → Called c m m out out (Err t)
  unfolding Called
  too_little is f un =
      (refusal t, (refl, refl), record { served = λ d l. absurd (un l); unlent = λ n. rw (f, is) refl; alone = not_alone c _ f; told = λ l. absurd (un l); bounds = unchanged m }, refl)

pub unread : (p : ℕ) (m out : List ℕ) (r : Result ℕ TurnedAway) → IsErrAnd r (λ t. (t.why ≡ Unreadable) × (t.place ≡ p)) → Called (garbled p) m m out out r
unread p m out (Ok n) e = absurd e
unread p m out (Err t) e = turned_away (garbled p) m out t refl (rw (e.0, e.1) refl)

pub heard : (bs m out : List ℕ) (c : Call) (new sent : List ℕ) (r : Result ℕ TurnedAway) → Called c m new out sent r → Heard bs c → Called (read bs) m new out sent r
heard bs m out c new sent r d h = widened (read bs) m new out sent r (rw h.value at d)

pub ruleset checks = (unread, too_large, too_little)
