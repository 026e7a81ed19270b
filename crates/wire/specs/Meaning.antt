-- What the code's calls, answers and refusals stand for. Assumes nothing.
use Rattle.std.specs.Prelude.{◌≡◌, ℕ, ◌<◌, ◌⊎◌, List, Some, None, Ok, Err, Result, MatchResult}
use Rattle.estate.specs.Calls as calls
use Rattle.estate.specs.Answers as answers
use Rattle.estate.specs.Refusals.{unreadable, too_large, not_lent, not_there, no_room, last_refusal}
use Rattle.wire.specs.Answers.{Shaped, Received}
use Rattle.wire.specs.declared.calls.Call.{Call}
use Rattle.wire.specs.declared.calls.Call.TheVariants.{Claim, Prove, Come, Shares, Cents}
use Rattle.wire.specs.declared.answers.Answer.{Answer}
use Rattle.wire.specs.declared.answers.Answer.TheVariants.{Refused, Number, Parts, Amounts}
use Rattle.wire.specs.declared.answers.DecodeError.{DecodeError}
use Rattle.wire.specs.declared.answers.DecodeError.TheVariants.{NoAnswer, OutOfMemory}
use Rattle.wire.specs.declared.refusals.Garbled.{Garbled}
use Rattle.wire.specs.declared.refusals.Refusal.{Refusal}
use Rattle.wire.specs.declared.refusals.Refusal.TheVariants.{Unreadable, TooLarge, NotLent, NotThere, NoRoom}
use Rattle.wire.specs.declared.refusals.TurnedAway.{TurnedAway}
use Rattle.wire.specs.declared.kinds.Unknown.{Unknown}

-- a call of the code, as the definitions have it
abbrev pub meaning : Call → calls.Call
meaning (Claim c) = calls.claims c
meaning (Prove i c) = calls.proves i c
meaning (Come x) = calls.comes x
meaning Shares = calls.shares
meaning Cents = calls.cents

-- what was read: a call, or the place of the first byte that does not fit
abbrev pub heard : Result Call Garbled → calls.Call
heard (Ok c) = meaning c
heard (Err e) = calls.garbled e.0

-- the number of a refusal
abbrev pub refusal_number : Refusal → ℕ
refusal_number Unreadable = unreadable
refusal_number TooLarge = too_large
refusal_number NotLent = not_lent
refusal_number NotThere = not_there
refusal_number NoRoom = no_room

-- what a number stands for: the refusal that has it, or none has
abbrev pub IsRefusal : ℕ → Result Refusal (Unknown ℕ) → Type 0
IsRefusal n r = MatchResult r (λ k. refusal_number k ≡ n) (λ e. (e.0 ≡ n) × ((n < 1) ⊎ (last_refusal < n)))

-- a call that is turned away, as an answer
abbrev pub refusal : TurnedAway → answers.Answer
refusal t = answers.refused (refusal_number t.why) t.place

-- the answer, where its lists are those that `items` says
abbrev pub told : {L : Type 0} → (L → List ℕ) → Answer L → answers.Answer
told items (Refused t) = refusal t
told items (Number n) = answers.number n
told items (Parts d xs) = answers.parts d (items xs)
told items (Amounts xs) = answers.amounts (items xs)

module _ {L : Type 0} (items : L → List ℕ) where
  -- what reading the bytes bs gives: the answer whose bytes they are; or no answer has them; or memory is wanting
  abbrev pub IsDecoded : List ℕ → Result (Answer L) DecodeError → Type 0
  IsDecoded bs (Ok a) = Received bs (Some (told items a))
  IsDecoded bs (Err NoAnswer) = Received bs None
  IsDecoded bs (Err OutOfMemory) = Unit {0}

  -- the same of a kind and the numbers behind it
  abbrev pub IsShaped : ℕ → List ℕ → Result (Answer L) DecodeError → Type 0
  IsShaped k ns (Ok a) = Shaped k ns (Some (told items a))
  IsShaped k ns (Err NoAnswer) = Shaped k ns None
  IsShaped k ns (Err OutOfMemory) = Unit {0}
