-- The level as the code has it. Assumes nothing.
use Rattle.std.specs.Prelude.{◌≡◌, ℕ, List}
use Rattle.estate.specs.Level.{Level, fill}
use Rattle.level.specs.declared.filling.Fraction.{Fraction}

-- what is spread, and among how many
abbrev pub level_of : Fraction → Level
level_of f = record { spread = f.numerator; sharers = f.denominator }

-- The level that n comes to, filled into claims in ascending order. Whoever finds it, in whatever way, is held to this.
abbrev pub Fills : List ℕ → ℕ → Fraction → Type 0
Fills ks n f = level_of f ≡ fill n ks
