-- What a call makes of an estate. Assumes nothing.
use Rattle.std.specs.Prelude.{◌+◌, List, [], ◌∷◌, ◌++◌, if◌then◌else◌, ◌==◌, slice_set}
use Rattle.estate.specs.Calls.{Call, claims, proves, comes, shares, cents, garbled}
use Rattle.estate.specs.Limits.{Limits}
use Rattle.estate.specs.Estates.{Estate, with_there, with_claimed}
use Rattle.estate.specs.Refusals.{turned}

-- the estate after a call that is not turned away
abbrev pub changed : Estate → Call → Estate
changed e (claims c) = with_claimed e (e.claimed ++ (c ∷ []))
changed e (proves i c) = with_claimed e (slice_set e.claimed i c)
changed e (comes x) = with_there e (e.there + x)
changed e shares = e
changed e cents = e
changed e (garbled n) = e

-- a call that is turned away leaves the estate as it was
abbrev pub after : Limits → Estate → Call → Estate
after l e c = if turned l e c == 0 then changed e c else e

-- the estate after a row of calls
unfoldable pub ran : Limits → Estate → List Call → Estate
ran l e [] = e
ran l e (c ∷ cs) = ran l (after l e c) cs
