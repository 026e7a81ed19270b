-- The bytes that stand for the kinds of calls and answers. Assumes nothing.
use Rattle.std.specs.Prelude.{◌≡◌, ℕ, ◌<◌, Result, MatchResult}
use Rattle.wire.specs.Calls.{last_call}
use Rattle.wire.specs.Answers.{last_answer}
use Rattle.wire.specs.declared.kinds.CallKind.{CallKind}
use Rattle.wire.specs.declared.kinds.CallKind.TheVariants as asked
use Rattle.wire.specs.declared.kinds.AnswerKind.{AnswerKind}
use Rattle.wire.specs.declared.kinds.AnswerKind.TheVariants as told
use Rattle.wire.specs.declared.kinds.Unknown.{Unknown}

abbrev pub call_byte : CallKind → ℕ
call_byte asked.Claim = 0
call_byte asked.Prove = 1
call_byte asked.Come = 2
call_byte asked.Shares = 3
call_byte asked.Cents = 4

abbrev pub answer_byte : AnswerKind → ℕ
answer_byte told.Refused = 0
answer_byte told.Number = 1
answer_byte told.Parts = 2
answer_byte told.Amounts = 3

-- what a byte stands for: a kind that has it, or no kind has
abbrev pub IsCallKind : ℕ → Result CallKind (Unknown ℕ) → Type 0
IsCallKind byte r = MatchResult r (λ k. call_byte k ≡ byte) (λ e. (e.0 ≡ byte) × (last_call < byte))

abbrev pub IsAnswerKind : ℕ → Result AnswerKind (Unknown ℕ) → Type 0
IsAnswerKind byte r = MatchResult r (λ k. answer_byte k ≡ byte) (λ e. (e.0 ≡ byte) × (last_answer < byte))
