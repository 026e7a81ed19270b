-- Which answers are right. Assumes nothing.
use Rattle.std.specs.Prelude.{◌≡◌, ◌≢◌, ℕ, suc, ◌+◌, ◌*◌, ◌≤◌, List, [], ◌∷◌, length, if◌then◌else◌, ◌==◌}
use Rattle.estate.specs.Cents.{in_cents}
use Rattle.estate.specs.Closed.{denominator, division}
use Rattle.estate.specs.Calls.{Call, claims, proves, comes, shares, cents, garbled}
use Rattle.estate.specs.Answers.{Answer, refused, number, parts, amounts}
use Rattle.estate.specs.Limits.{Limits}
use Rattle.estate.specs.Estates.{Estate, amount, counted, divided, Shared}
use Rattle.estate.specs.Refusals.{unreadable, turned, place}
use Rattle.estate.specs.Changes.{after}

-- What may be answered to a call that is not turned away: of a claim, how many there were before it; shares that divide,
-- in parts of which a cent has at most twice one more than there are creditors; whole cents that come of any division.
unfoldable pub MaySay : Estate → Call → Answer → Type 0
MaySay e (claims c) a = a ≡ number (length (counted e))
MaySay e (proves i c) a = a ≡ number i
MaySay e (comes x) a = a ≡ number (amount e + x)
MaySay e shares a =
    (d : ℕ) × (xs : List ℕ) × (a ≡ parts d xs) × (d ≤ 2 * suc (length (counted e))) × Shared e d xs
MaySay e cents a = (d : ℕ) × (xs : List ℕ) × Shared e d xs × (a ≡ amounts (in_cents d (divided e) xs))
MaySay e (garbled n) a = ⊥

-- An answer is right: one that may be given, or, to a call that is turned away, the refusal.
pub record IsRight (l : Limits) (e : Estate) (c : Call) (a : Answer) : Type 0 where
  pub said : turned l e c ≡ 0 → MaySay e c a
  pub away : turned l e c ≢ 0 → a ≡ refused (turned l e c) (place c (turned l e c))

-- each of these answers is right for the estate that the calls before it left
unfoldable pub AllRight : Limits → Estate → List Call → List Answer → Type 0
AllRight l e [] [] = Unit {0}
AllRight l e [] (a ∷ said) = ⊥
AllRight l e (c ∷ cs) [] = ⊥
AllRight l e (c ∷ cs) (a ∷ said) = IsRight l e c a × AllRight l (after l e c) cs said

-- the parts of a cent that this desk has for an estate, and the shares in them: those of the closed form
abbrev pub own_parts : Estate → ℕ
own_parts e = denominator (divided e) (counted e)

abbrev pub own_shares : Estate → List ℕ
own_shares e = division (divided e) (counted e)

-- The one answer that this desk gives, of those that may be given.
unfoldable pub says : Estate → Call → Answer
says e (claims c) = number (length (counted e))
says e (proves i c) = number i
says e (comes x) = number (amount e + x)
says e shares = parts (own_parts e) (own_shares e)
says e cents = amounts (in_cents (own_parts e) (divided e) (own_shares e))
says e (garbled n) = refused unreadable n

-- what this desk answers to a call: that, or the refusal of a call that is turned away
abbrev pub answered : Limits → Estate → Call → Answer
answered l e c = if turned l e c == 0 then says e c else refused (turned l e c) (place c (turned l e c))

-- the answer that is given is right
abbrev pub AnsweredRight : Type 0
AnsweredRight = (l : Limits) (e : Estate) (c : Call) → IsRight l e c (answered l e c)

-- of cents no other answer is
abbrev pub CentsOneAnswer : Type 0
CentsOneAnswer = (e : Estate) (a : Answer) → MaySay e cents a → a ≡ says e cents
