-- What the functions for C answer: one signed number. Assumes nothing.
use Rattle.std.specs.Prelude.{◌≡◌, ℕ, ◌+◌, ◌*◌, ◌^◌, ◌<◌, ℤ, pos, neg_ℤ, List, Ok, Err, Result, IfErr, nat_le, if◌then◌else◌}
use Rattle.estate.specs.Calls.{Call}
use Rattle.estate.specs.Limits.{most_creditors}
use Rattle.estate.specs.Refusals.{not_lent}
use Rattle.wire.specs.Meaning.{refusal_number}
use Rattle.wire.specs.declared.refusals.TurnedAway.{TurnedAway}
use Rattle.desk.specs.Memory.{words_asked}
use Rattle.desk.specs.Opening.{Opened}
use Rattle.desk.specs.Calling.{Called}

-- a refusal and its place, as a number below 0
abbrev pub away : ℕ → ℕ → ℤ
away n place = neg_ℤ (pos (n * 2 ^ 32 + place))

-- a length, or what is refused
abbrev pub signed : Result ℕ TurnedAway → ℤ
signed (Ok n) = pos n
signed (Err t) = away (refusal_number t.why) t.place

-- what is asked for a desk for so many creditors, if there may be so many
abbrev pub asked : ℕ → ℕ → ℤ
asked limit much = if nat_le limit most_creditors then pos much else away not_lent 0

-- that a desk is opened, as the length of its memory
abbrev pub taken : ℕ → Result (Unit {0}) TurnedAway → Result ℕ TurnedAway
taken limit (Ok _) = Ok (words_asked limit)
taken limit (Err t) = Err t

-- what opening a desk leaves of memory m, and the number that it answers
unfoldable pub Opens : ℕ → List ℕ → List ℕ → ℤ → Type 0
Opens limit m new z = (r : Result (Unit {0}) TurnedAway) × Opened limit m new r × (z ≡ signed (taken limit r))

-- what a call leaves of memory m and of the bytes out, and the number that it answers
unfoldable pub Calls : Call → List ℕ → List ℕ → List ℕ → List ℕ → ℤ → Type 0
Calls c m new out sent z = (r : Result ℕ TurnedAway) × Called c m new out sent r × (z ≡ signed r) × IfErr r (λ t. t.place < 2 ^ 32)

-- no two outcomes have one number, since places are below 2^32
abbrev pub OneOutcome : Type 0
OneOutcome =
    (r q : Result ℕ TurnedAway) → IfErr r (λ t. t.place < 2 ^ 32) → IfErr q (λ t. t.place < 2 ^ 32) → signed r ≡ signed q → r ≡ q
