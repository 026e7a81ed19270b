-- Numbers as a word of 64 bits holds them. Assumes nothing.
use Rattle.std.specs.Prelude.{ℕ, ◌-◌, ◌^◌, min}

-- the largest that fits, where it is more
abbrev pub held : ℕ → ℕ
held n = min n (2 ^ 64 - 1)
