-- What errors and refusals are shown as. Assumes nothing.
use Rattle.std.specs.Prelude.{ℕ, List, ◌++◌, decimal, codes}
use Rattle.wire.specs.declared.answers.DecodeError.{DecodeError}
use Rattle.wire.specs.declared.answers.DecodeError.TheVariants.{NoAnswer, OutOfMemory}

-- a call that is turned away by refusal n at place p
abbrev pub refused_text : ℕ → ℕ → List ℕ
refused_text n p = codes "refused " ++ decimal n ++ codes " at " ++ decimal p

-- a number that stands for nothing, which is printed so
abbrev pub unknown_text : List ℕ → List ℕ
unknown_text n = codes "nothing has number " ++ n

-- bytes of which the one at place p is the first that does not fit
abbrev pub garbled_text : ℕ → List ℕ
garbled_text p = codes "no call, from byte " ++ decimal p ++ codes " on"

abbrev pub error_text : DecodeError → List ℕ
error_text NoAnswer = codes "no answer has these bytes"
error_text OutOfMemory = codes "out of memory"
