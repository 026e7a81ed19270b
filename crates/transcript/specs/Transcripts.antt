-- What a desk answers to a row of calls, and that as text. Assumes nothing.
use Rattle.std.specs.Prelude.{◌≡◌, ℕ, List, [], ◌∷◌}
use Rattle.std.specs.List.{flat_map}
use Rattle.estate.specs.Answers.{Answer}
use Rattle.estate.specs.Calls.{Call}
use Rattle.estate.specs.Changes.{after}
use Rattle.estate.specs.Estates.{Estate, new_estate}
use Rattle.estate.specs.Limits.{Limits}
use Rattle.estate.specs.Right.{answered}
use Rattle.text.specs.Printed.{as_line, answer_text}
use Rattle.transcript.specs.Cutting.{Holds}
use Rattle.transcript.specs.Sessions.{served}

-- the answers to a row of calls, each for the estate that those before it left
unfoldable pub answers : Limits → Estate → List Call → List Answer
answers l e [] = []
answers l e (c ∷ cs) = answered l e c ∷ answers l (after l e c) cs

-- an answer as a line
abbrev pub line : Answer → List ℕ
line a = as_line (answer_text a)

abbrev pub lines : List Answer → List ℕ
lines said = flat_map line said

-- the text that answers a file, line by line, for an estate
unfoldable pub Answers : Estate → List ℕ → List ℕ → Type 0
Answers e bs text = (cs : List Call) × Holds bs cs × (text ≡ lines (answers served e cs))

-- and for a new one
abbrev pub IsTranscript : List ℕ → List ℕ → Type 0
IsTranscript bs text = Answers new_estate bs text
