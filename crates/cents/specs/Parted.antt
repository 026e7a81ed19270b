-- Shares as the code has them: those that are handed in, and those of a division. Assumes nothing.
use Rattle.std.specs.Prelude.{ℕ, List}
use Rattle.shares.specs.Shares.{shares_of}
use Rattle.cents.specs.declared.parted.Handed.{Handed}
use Rattle.cents.specs.declared.split.Split.{Split}

module _ {L : Type 0} where
  abbrev pub handed_parts : Handed L → ℕ
  handed_parts h = h.parts

  abbrev pub handed_items : (L → List ℕ) → Handed L → List ℕ
  handed_items items h = items h.shares

abbrev pub split_parts : Split → ℕ
split_parts s = s.parts

abbrev pub split_items : Split → List ℕ
split_items s = shares_of s.shares
