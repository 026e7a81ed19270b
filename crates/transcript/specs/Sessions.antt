-- What a session is at. Assumes nothing.
use Rattle.std.specs.Prelude.{ℕ, List}
use Rattle.estate.specs.Answers.{Answer}
use Rattle.estate.specs.Estates.{Estate}
use Rattle.estate.specs.Limits.{Limits, most_served}
use Rattle.estate.specs.Right.{answered}
use Rattle.wire.specs.Reading.{read}
use Rattle.desk.specs.Memory.{estate_of, limits_for}
use Rattle.transcript.specs.declared.session.Session.{Session}

-- the limits of every session
abbrev pub served : Limits
served = limits_for most_served

-- the estate that its desk tells
abbrev pub estate_at : Session → Estate
estate_at s = estate_of s.memory.items

-- the answer that it gives to the call that bytes are read as
abbrev pub answer_at : Session → List ℕ → Answer
answer_at s bs = answered served (estate_at s) (read bs)
