-- What a call does to a desk, and how it is answered. Assumes nothing.
use Rattle.std.specs.Prelude.{◌≡◌, ℕ, Bool, true, false, List, ◌++◌, if◌then◌else◌, ◌==◌, Ok, Err, Result, IfErr, ◌⊎◌, slice_index}
use Rattle.estate.specs.Answers.{Answer, refused, number, parts, amounts}
use Rattle.estate.specs.Calls.{Call, claims, proves, comes, shares, cents, garbled}
use Rattle.estate.specs.Changes.{after}
use Rattle.estate.specs.Refusals.{not_lent, not_there, checks_alone, first_refusal, place}
use Rattle.estate.specs.Right.{answered}
use Rattle.wire.specs.Written.{IsWritten}
use Rattle.wire.specs.Answers.{answer_row, Sendable}
use Rattle.wire.specs.declared.refusals.TurnedAway.{TurnedAway}
use Rattle.desk.specs.Memory.{layout, limits_of, estate_of, rest_of, Stands, Lent}
use Rattle.wire.specs.Meaning.{refusal}

-- whether an answer is a refusal
abbrev pub is_refused : Answer → Bool
is_refused (refused n p) = true
is_refused (number n) = false
is_refused (parts d xs) = false
is_refused (amounts xs) = false

-- The answer a is given: it is written at the start of lent bytes, can be read back, and its length is told; or it is a
-- refusal, which is told, and nothing is written.
abbrev pub Given : Answer → List ℕ → List ℕ → Result ℕ TurnedAway → Type 0
Given a out new (Ok n) = IsWritten (answer_row a) out new n × Sendable a × (is_refused a ≡ false)
Given a out new (Err t) = (a ≡ refusal t) × (new ≡ out)

-- The call c left memory m as new, and a is its answer: those that the definitions give for the estate.
pub record Served (c : Call) (m new : List ℕ) (a : Answer) : Type 0 where
  pub memory : new ≡ layout (limits_of m) (after (limits_of m) (estate_of m) c) ++ rest_of m
  pub answer : a ≡ answered (limits_of m) (estate_of m) c

-- Whatever memory held, its limit and what lies behind a desk of that limit are as they were.
pub record SameBounds (m new : List ℕ) : Type 0 where
  pub limit : slice_index new 0 ≡ slice_index m 0
  pub rest : rest_of new ≡ rest_of m

-- The answer, and the estate that memory tells afterwards, are those that the definitions give for what it told.
abbrev pub AsTold : Call → List ℕ → List ℕ → Answer → Type 0
AsTold c m new a =
    (a ≡ answered (limits_of m) (estate_of m) c) × (estate_of new ≡ after (limits_of m) (estate_of m) c)

-- Where the header may be a desk's, whatever else memory holds: so it is with claims and with cents that come; a claim that
-- is proved may be refused instead, as one that is not there; shares and cents change nothing and are answered in their
-- kind, but cents may be refused, as too little is.
abbrev pub Told : Call → List ℕ → List ℕ → Answer → Type 0
Told (claims c) m new a = AsTold (claims c) m new a
Told (proves i c) m new a = AsTold (proves i c) m new a ⊎ ((a ≡ refused not_there 0) × (new ≡ m))
Told (comes x) m new a = AsTold (comes x) m new a
Told shares m new a = (new ≡ m) × (d : ℕ) × (xs : List ℕ) × (a ≡ parts d xs)
Told cents m new a = (new ≡ m) × (((ys : List ℕ) × (a ≡ amounts ys)) ⊎ (a ≡ refused not_lent 1))
Told (garbled n) m new a = AsTold (garbled n) m new a

-- the number by which a call is turned away by itself, on every estate, or 0
abbrev pub turned_alone : Call → ℕ
turned_alone c = first_refusal (checks_alone c)

-- what turns a call away where no desk can be, or too little is lent for it: what is checked of it alone, or else that
abbrev pub turned_unlent : Call → Answer
turned_unlent c =
    if turned_alone c == 0 then refused not_lent 1 else refused (turned_alone c) (place c (turned_alone c))

-- What is said of the answer a to the call c, and of memory m afterwards: where a desk stands, and enough is lent, the
-- answer is the one of the definitions, and memory is that of the estate after the call; where no desk can be, or too little
-- is lent for it, and wherever the call is turned away by itself, it is that refusal; of other memory `Told` says what is
-- left.
pub record Replied (c : Call) (m new out : List ℕ) (a : Answer) : Type 0 where
  pub served : Stands m → Lent m out → Served c m new a
  pub unlent : (Lent m out → ⊥) → a ≡ turned_unlent c
  pub alone : (turned_alone c == 0) ≡ false → a ≡ turned_unlent c
  pub told : Lent m out → Told c m new a
  pub bounds : SameBounds m new

-- What the call c leaves of memory m and of the bytes out: an answer is given of which this is so. A call that is turned
-- away leaves memory as it was, whatever that held.
unfoldable pub Called : Call → List ℕ → List ℕ → List ℕ → List ℕ → Result ℕ TurnedAway → Type 0
Called c m new out sent r = (a : Answer) × Given a out sent r × Replied c m new out a × IfErr r (λ _. new ≡ m)
