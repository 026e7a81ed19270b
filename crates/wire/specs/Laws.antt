-- What is true of calls and answers as rows of bytes. The contract of a function names each. Assumes nothing.
use Rattle.std.specs.Prelude.{◌≡◌, ◌^◌, ◌<◌, length, Some, Option}
use Rattle.estate.specs.Calls.{Call}
use Rattle.estate.specs.Answers.{Answer}
use Rattle.estate.specs.Limits.{Limits}
use Rattle.estate.specs.Estates.{Estate, counted}
use Rattle.estate.specs.Changes.{after}
use Rattle.estate.specs.Right.{answered}
use Rattle.wire.specs.Calls.{Sendable, call_row, narrow}
use Rattle.wire.specs.Answers as answers

-- two calls with the same bytes are the same call
abbrev pub OneCall : Type 0
OneCall = (c k : Call) → Sendable c → Sendable k → call_row c ≡ call_row k → c ≡ k

-- two answers with the same bytes are the same answer
abbrev pub OneAnswer : Type 0
OneAnswer =
    (a b : Answer) → answers.Sendable a → answers.Sendable b → answers.answer_row a ≡ answers.answer_row b → a ≡ b

-- what is read of an answer's bytes is that answer
abbrev pub AnswerBack : Type 0
AnswerBack =
    (a : Answer) (o : Option Answer) → answers.Sendable a → answers.Received (answers.answer_row a) o → o ≡ Some a

-- No estate of fewer than 2^32 claims shows whether a place was narrowed to 32 bits: neither place has a claim, or they
-- are one.
abbrev pub NarrowEnough : Type 0
NarrowEnough =
    (l : Limits) (e : Estate) (c : Call) → length (counted e) < 2 ^ 32 → (answered l e (narrow c) ≡ answered l e c) × (after l e (narrow c) ≡ after l e c)
