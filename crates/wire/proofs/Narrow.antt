-- A place of 32 bits is enough. Assumes nothing.
use Rattle.std.proofs.Common.{◌≡◌, ℕ, ◌^◌, ◌<◌, min, Result, arith}
use Rattle.std.specs.Result.{OkIff, result_unwrap_or}
use Rattle.std.proofs.lemmas.Bool.Decides.{nat_tests}
use Rattle.wire.specs.Laws.{NarrowEnough}

-- a number of 32 bits, or the last of them
pub narrowed : {E : Type 0} (r : Result ℕ E) (n : ℕ) → OkIff r (n < 2 ^ 32) n → result_unwrap_or r 4294967295 ≡ min n 4294967295
narrowed r n h = grind arith

-- a claim past the last is not there, or its cents are too many
pub narrow_enough : NarrowEnough
narrow_enough l e c few = (grind (arith, nat_tests), grind (arith, nat_tests))
