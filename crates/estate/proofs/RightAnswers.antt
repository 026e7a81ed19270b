-- The answer that is given is right, and to cents no other is. Assumes nothing.
use Rattle.std.proofs.Common.{◌≡◌, refl, ap, ◌∙◌, arith}
use Rattle.std.proofs.lemmas.Bool.{ne_eqb}
use Rattle.estate.specs.Calls.{Call, claims, proves, comes, shares, cents, garbled}
use Rattle.estate.specs.Answers.{amounts}
use Rattle.estate.specs.Limits.{Limits}
use Rattle.estate.specs.Estates.{Estate, counted, divided}
use Rattle.estate.specs.Refusals.{turned}
use Rattle.estate.specs.Right.{MaySay, says, AnsweredRight, CentsOneAnswer}
use Rattle.estate.proofs.ClosedForm.{denominator_few, own_divide}
use Rattle.estate.proofs.SameCents.{same_cents}

says_right : (l : Limits) (e : Estate) (c : Call) → turned l e c ≡ 0 → MaySay e c (says e c)
unfolding MaySay says
says_right l e (claims c) t = refl
says_right l e (proves i c) t = refl
says_right l e (comes x) t = refl
says_right l e shares t = (_, _, refl, omega (arith, denominator_few (divided e) (counted e)), own_divide e)
says_right l e cents t = (_, _, own_divide e, refl)
says_right l e (garbled n) t = absurd (omega (arith, t))

pub answered_right : AnsweredRight
answered_right l e c = record {
  said = λ t. rw t (says_right l e c t);
  away = λ t. rw (ne_eqb _ _ t) refl;
}

pub cents_one_answer : CentsOneAnswer
unfolding MaySay says
cents_one_answer e a h = h.3 ∙ ap amounts (same_cents h.0 _ (divided e) (counted e) h.1 _ h.2 (own_divide e))
