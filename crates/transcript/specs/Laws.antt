-- What is true of files of calls and their transcripts. The contract of `transcript` names each. Assumes nothing.
use Rattle.std.specs.Prelude.{◌≡◌, ℕ, ◌⊎◌, List, [], ◌∷◌, ◌++◌, All}
use Rattle.std.specs.List.{flat_map}
use Rattle.estate.specs.Calls.{Call, garbled}
use Rattle.estate.specs.Estates.{Estate}
use Rattle.estate.specs.Limits.{Limits}
use Rattle.estate.specs.Right.{AllRight}
use Rattle.wire.specs.Bytes.{Bytes}
use Rattle.wire.specs.Calls.{Sendable, call_row}
use Rattle.transcript.specs.Cutting.{Holds, Unread}
use Rattle.transcript.specs.Transcripts.{answers, IsTranscript}

-- one text answers a file
unfoldable pub OneTranscript : Type 0
OneTranscript = (bs t u : List ℕ) → IsTranscript bs t → IsTranscript bs u → t ≡ u

-- a file in which calls were written one behind the other holds these, and then what the rest of it holds
abbrev pub CallsHeld : Type 0
CallsHeld =
    (cs ks : List Call) (rest : List ℕ) → All Sendable cs → Holds rest ks → Holds (flat_map call_row cs ++ rest) (cs ++ ks)

-- what cannot be read is held as such
abbrev pub UnreadHeld : Type 0
UnreadHeld = (rest : List ℕ) (p : ℕ) → Unread rest p → Holds rest (garbled p ∷ [])

-- How a file is cut: it is calls that were written one behind the other, and it holds these; or something that is none is
-- behind them, and it is held as one that cannot be read, last.
pub record IsCut (bs : List ℕ) (cs : List Call) : Type 0 where
  pub calls : List Call
  pub rest : List ℕ
  pub sendable : All Sendable calls
  pub bytes : bs ≡ flat_map call_row calls ++ rest
  pub held : ((rest ≡ []) × (cs ≡ calls)) ⊎ ((p : ℕ) × Unread rest p × (cs ≡ calls ++ (garbled p ∷ [])))

abbrev pub Cut : Type 0
Cut = (bs : List ℕ) (cs : List Call) → Bytes bs → Holds bs cs → IsCut bs cs

-- each answer is right for the estate that the calls before it left
abbrev pub EachRight : Type 0
EachRight = (l : Limits) (e : Estate) (cs : List Call) → AllRight l e cs (answers l e cs)
