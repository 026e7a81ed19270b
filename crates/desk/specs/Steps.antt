-- What the functions behind a call read and leave. Assumes nothing.
use Rattle.std.specs.Prelude.{◌≡◌, ℕ, ◌<◌, List, length, Some, None, Ok, Err, Result, IfErr, slice_index}
use Rattle.level.specs.declared.closed.Terms.{Terms}
use Rattle.shares.specs.declared.written.Shares.{Shares}
use Rattle.shares.specs.Laws.{TermsFor}
use Rattle.register.specs.declared.row.Moved.{Moved}
use Rattle.register.specs.declared.rows.Unfit.{Unfit}
use Rattle.sums.specs.Ledger.{Enters, Amends}
use Rattle.estate.specs.Refusals.{not_lent}
use Rattle.wire.specs.Answers.{answer_row, Sendable}
use Rattle.wire.specs.Written.{IsWritten}
use Rattle.wire.specs.declared.refusals.TurnedAway.{TurnedAway}
use Rattle.estate.specs.Answers.{Answer, number, refused}
use Rattle.estate.specs.Calls.{Call}
use Rattle.estate.specs.Order.{sorted}
use Rattle.sums.specs.Trees.{IsTree}
use Rattle.sums.specs.declared.tree.Tree.{Tree}
use Rattle.desk.specs.Memory.{words_asked, estate_of, Headed, Stands}
use Rattle.wire.specs.Meaning.{refusal}
use Rattle.desk.specs.Calling.{Served, SameBounds, Told}
use Rattle.desk.specs.declared.header.Header.{Header}

-- what is read of the header, and where the ledger behind it ends
pub record Reads (h : Header) (m : List ℕ) : Type 0 where
  pub there : h.there ≡ slice_index m 1
  pub count : h.count ≡ slice_index m 2
  pub end : h.end ≡ words_asked (slice_index m 0)
  pub headed : Headed m

-- in a desk, this is a tree of sums over its claims in order
unfoldable pub Summed : List ℕ → Tree → Type 0
Summed m t = Stands m → IsTree t × (t.claims.now ≡ sorted (estate_of m).claimed)

-- in a desk, these are the terms of the division
unfoldable pub Termed : List ℕ → Terms → Type 0
Termed m t = Stands m → (ks : List ℕ) × TermsFor (estate_of m) ks t

-- in a desk, these are its claims as they came, on the terms of the division
unfoldable pub Parted : List ℕ → Shares → Type 0
Parted m s = Termed m s.terms × (s.claims.now ≡ (estate_of m).claimed)

-- the words ws of a ledger of n claims have become new: with one more claim, last
unfoldable pub Grown : ℕ → ℕ → List ℕ → List ℕ → Type 0
Grown n c ws new = (at : ℕ) × Enters n c ws new (Some at)

-- they are as they were, since there is no room for one more
unfoldable pub Full : ℕ → ℕ → List ℕ → List ℕ → Type 0
Full n c ws new = Enters n c ws new None

-- they have become new, with another claim at place i
unfoldable pub Altered : ℕ → ℕ → ℕ → List ℕ → List ℕ → Type 0
Altered n i c ws new = (moved : Moved) × Amends n i c ws new (Ok moved)

-- they are as they were, since there is no claim at place i, or it is not among those in order
unfoldable pub Unaltered : ℕ → ℕ → ℕ → List ℕ → List ℕ → Type 0
Unaltered n i c ws new = (why : Unfit) × Amends n i c ws new (Err why)

-- a number, or a call that is turned away, as an answer
abbrev pub outcome : Result ℕ TurnedAway → Answer
outcome (Ok n) = number n
outcome (Err t) = refusal t

-- What a call that is answered by a number, or turned away, leaves of memory m.
unfoldable pub Does : Call → List ℕ → List ℕ → Result ℕ TurnedAway → Type 0
Does c m new r =
    (Stands m → Served c m new (outcome r)) × Told c m new (outcome r) × IfErr r (λ _. new ≡ m) × SameBounds m new

-- An answer was written at the start of lent bytes, and can be read back; or there was too little room for it, which is
-- refused as too little that is lent, and nothing was written.
unfoldable pub Sends : Answer → List ℕ → List ℕ → Result ℕ TurnedAway → Type 0
Sends a out new (Ok n) = IsWritten (answer_row a) out new n × Sendable a
Sends a out new (Err t) = (length out < length (answer_row a)) × (refusal t ≡ refused not_lent 1) × (new ≡ out)
