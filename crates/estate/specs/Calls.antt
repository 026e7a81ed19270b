-- What a desk is asked. Assumes nothing.
use Rattle.std.specs.Prelude.{ℕ}

pub data Call : Type 0 where
  claims : ℕ → Call  -- a claim of so many cents, last
  proves : ℕ → ℕ → Call  -- the claim at this place, counted from 0, is so much from now on
  comes : ℕ → Call  -- so many cents more are there
  shares : Call  -- what each creditor has, in parts of a cent
  cents : Call  -- what each creditor has, in whole cents
  garbled : ℕ → Call  -- bytes that are no call, and the place of the first that does not fit
