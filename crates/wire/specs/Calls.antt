-- Calls as rows of bytes. Assumes nothing.
use Rattle.std.specs.Prelude.{ℕ, suc, ◌≤◌, min, if◌then◌else◌, List, [], ◌∷◌, ◌==◌, nat_lt}
use Rattle.estate.specs.Calls.{Call, claims, proves, comes, shares, cents, garbled}
use Rattle.wire.specs.Bytes.{Fitting, row}

-- the number of the last call
abbrev pub last_call : ℕ
last_call = 4

-- a call's number and its values; what cannot be read has a number that no call has
abbrev pub kind : Call → ℕ
kind (claims c) = 0
kind (proves i c) = 1
kind (comes x) = 2
kind shares = 3
kind cents = 4
kind (garbled n) = suc last_call

abbrev pub fields : Call → List ℕ
fields (claims c) = c ∷ []
fields (proves i c) = i ∷ c ∷ []
fields (comes x) = x ∷ []
fields shares = []
fields cents = []
fields (garbled n) = []

abbrev pub call_row : Call → List ℕ
call_row c = row (kind c) (fields c)

-- a call that can be written: each of its numbers fits eight bytes
pub record Sendable (c : Call) : Type 0 where
  pub known : kind c ≤ last_call
  pub fitting : Fitting (fields c)

-- how many bytes a call of kind k has
abbrev pub extent : ℕ → ℕ
extent k = if k == 1 then 17 else (if nat_lt k 3 then 9 else 1)

-- A call as the desk holds it, with a place of 32 bits. Every place past the last of these is held as the last: no desk has
-- so many claims, so none of them is there.
abbrev pub narrow : Call → Call
narrow (claims c) = claims c
narrow (proves i c) = proves (min i 4294967295) c
narrow (comes x) = comes x
narrow shares = shares
narrow cents = cents
narrow (garbled n) = garbled n
