use Rattle.std.proofs.Common.{ℕ, ◌<◌, ◌≤◌, slice_index}
use Rattle.shares.proofs.written.all_bits.Given as goal

abbrev pub invariant-loop-word : goal.invariant-loop-word
invariant-loop-word l = (l.fn.factor ≤ l.bits) × ((j : ℕ) → j < l.word-index → slice_index l.words j ≤ l.bits)
