-- Whatever calls are left, their answers complete the text.
use Rattle.transcript.proofs.file.answer_all.Given as goal
use Rattle.std.specs.Prelude.{string_bytes}
use Rattle.transcript.specs.Sessions.{estate_at}
use Rattle.transcript.proofs.Lines.{Going}

abbrev pub invariant-loop-bytes : goal.invariant-loop-bytes
invariant-loop-bytes l = Going (estate_at l.initial.session) l.calls l.bytes-iterator.0.now (estate_at l.session) (string_bytes l.text)
