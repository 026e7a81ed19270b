use Rattle.std.proofs.Common.{◌≡◌, ℕ, ◌<◌, true, None}
use Rattle.shares.specs.Pairs.{is_fair_at, FairBelow}
use Rattle.shares.proofs.pairs.first_unfair.Given as goal

abbrev pub invariant-pairs : goal.invariant-pairs
invariant-pairs l = (l.found ≡ None) × FairBelow l.d l.claims l.shares l.i

abbrev pub invariant-loop-j : goal.invariant-loop-j
invariant-loop-j l = (l.found ≡ None) × ((k : ℕ) → l.i < k → k < l.j → is_fair_at l.d l.claims l.shares l.i k ≡ true)
