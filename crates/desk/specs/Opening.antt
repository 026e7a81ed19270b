-- What a desk asks for, and what opening one leaves. Assumes nothing.
use Rattle.std.specs.Prelude.{◌≡◌, ℕ, ◌<◌, ◌≤◌, ◌⊎◌, List, ◌++◌, length, drop, Ok, Err, Result}
use Rattle.estate.specs.Answers.{Answer, refused}
use Rattle.estate.specs.Estates.{new_estate}
use Rattle.estate.specs.Limits.{most_creditors}
use Rattle.estate.specs.Refusals.{not_lent}
use Rattle.wire.specs.Meaning.{refusal}
use Rattle.wire.specs.declared.refusals.TurnedAway.{TurnedAway}
use Rattle.desk.specs.Memory.{layout, limits_for, words_asked, bytes_asked}
use Rattle.desk.specs.declared.opening.Loan.{Loan}

-- how much a desk for n creditors asks for; for more than there may be there is none
abbrev pub IsAsked : ℕ → Result Loan TurnedAway → Type 0
IsAsked n (Ok a) = (n ≤ most_creditors) × (a.words ≡ words_asked n) × (a.bytes ≡ bytes_asked n)
IsAsked n (Err t) = (most_creditors < n) × (refusal t ≡ refused not_lent 0)

-- why a desk for n creditors is not opened in memory m: more than there may be, or else too little memory
abbrev pub Unopened : ℕ → List ℕ → Answer → Type 0
Unopened n m a =
    ((most_creditors < n) × (a ≡ refused not_lent 0))
    ⊎ ((n ≤ most_creditors) × (length m < words_asked n) × (a ≡ refused not_lent 1))

-- What opening leaves: a desk of nothing, and behind it what lay there; or nothing is changed.
abbrev pub Opened : ℕ → List ℕ → List ℕ → Result (Unit {0}) TurnedAway → Type 0
Opened n m new (Ok _) =
    (n ≤ most_creditors) × (words_asked n ≤ length m) × (new ≡ layout (limits_for n) new_estate ++ drop (words_asked n) m)
Opened n m new (Err t) = Unopened n m (refusal t) × (new ≡ m)
