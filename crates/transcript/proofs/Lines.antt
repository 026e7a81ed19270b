-- The lines that answer a file, as far as a desk has come. Assumes nothing.
use Rattle.std.proofs.Common.{◌≡◌, ℕ, List, [], ◌∷◌, ◌++◌, Some, sym, refl, ap, ◌∙◌, append_assoc}
use Rattle.std.proofs.lemmas.List.{append-nil}
use Rattle.estate.specs.Calls.{Call}
use Rattle.estate.specs.Changes.{after}
use Rattle.estate.specs.Estates.{Estate, new_estate}
use Rattle.estate.specs.Right.{AllRight, answered}
use Rattle.estate.proofs.RightAnswers.{answered_right}
use Rattle.wire.specs.Reading.{read, Takes}
use Rattle.transcript.specs.Cutting.{Holds}
use Rattle.transcript.specs.Sessions.{served}
use Rattle.transcript.specs.Transcripts.{answers, line, lines, Answers}
use Rattle.transcript.specs.Laws.{OneTranscript, EachRight}
use Rattle.transcript.proofs.Cuts.{held_once, calls_held, unread_held, is_cut}

-- Of a file, which is answered for the estate start, the bytes rest are left, and text answers the calls before them:
-- whatever calls the rest holds, the whole holds these behind others, and their answers for the estate e complete the text.
unfoldable pub Going : Estate → List ℕ → List ℕ → Estate → List ℕ → Type 0
Going start bytes rest e text =
    (cs : List Call) → Holds rest cs → (all : List Call) × Holds bytes all × (lines (answers served start all) ≡ text ++ lines (answers served e cs))

-- before the first call
pub going_none : (start : Estate) (bytes : List ℕ) → Going start bytes bytes start []
unfolding Going
going_none start bytes cs h = (cs, h, refl)

-- a call more
pub going_more : (start : Estate) (bytes rest left first : List ℕ) (e : Estate) (text : List ℕ) → Takes rest (Some first) left → Going start bytes rest e text → Going start bytes left (after served e (read first)) (text ++ line (answered served e (read first)))
unfolding Going Holds answers
going_more start bytes rest left first e text t g cs h =
    let (all, held, is) = g (read first ∷ cs) (t.0, ap read t.1.taken, rw t.1.left at h) in
    (all, held, is ∙ sym (append_assoc text _ _))

-- behind the last
pub going_all : (start : Estate) (bytes rest text : List ℕ) (e : Estate) → rest ≡ [] → Going start bytes rest e text → Answers start bytes text
unfolding Going Holds answers Answers
going_all start bytes rest text e none g =
    let (all, held, is) = g [] none in
    (all, held, sym (is ∙ append-nil text))

pub one_transcript : OneTranscript
unfolding OneTranscript Answers
one_transcript bs t u (cs, held, is) (ks, also, so) =
    is ∙ ap (λ (l : List Call). lines (answers served new_estate l)) (held_once bs cs ks held also) ∙ sym so

pub each_right : EachRight
unfolding AllRight answers
each_right l e [] = tt
each_right l e (c ∷ cs) = (answered_right l e c, each_right l (after l e c) cs)

pub ruleset laws = (one_transcript, calls_held, unread_held, is_cut, each_right)

pub ruleset steps = (going_none, going_more, going_all)
