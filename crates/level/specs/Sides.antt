-- What is divided, and which side is levelled. Assumes nothing.
use Rattle.std.specs.Prelude.{ℕ, Bool, true, false}
use Rattle.estate.specs.Level.{divided_of_sum}
use Rattle.level.specs.declared.facts.Estate.{Estate}
use Rattle.level.specs.declared.facts.Side.{Side}
use Rattle.level.specs.declared.facts.Side.TheVariants.{Gains, Losses}

abbrev pub gains : Side → Bool
gains Gains = true
gains Losses = false

-- what is divided: what is there, or all that is claimed if that is less
abbrev pub divided_of : Estate → ℕ
divided_of e = divided_of_sum e.there e.claimed
