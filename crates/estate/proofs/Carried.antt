-- The theorems that contracts carry, a set for each function that carries some. Assumes nothing.
use Rattle.estate.proofs.Facts.{agrees_with_law}
use Rattle.estate.proofs.Plain.{plain_divides, only_plain}
use Rattle.estate.proofs.ClosedForm.{there_is_one, closed_divides}
use Rattle.estate.proofs.Compared.{just_one, more_there, gets_no_less, loses_no_less}
use Rattle.estate.proofs.Losses.{lost_alike}
use Rattle.estate.proofs.Without.{who_goes}
use Rattle.estate.proofs.RightAnswers.{answered_right, cents_one_answer}
use Rattle.estate.proofs.WholeCents.{cents_add_up}
use Rattle.estate.proofs.SameCents.{same_cents}

pub ruleset of_two = (agrees_with_law, plain_divides, only_plain, there_is_one, closed_divides)

pub ruleset compare = (just_one, more_there, gets_no_less, loses_no_less, lost_alike, who_goes)

pub ruleset worked_examples = (answered_right, cents_add_up, same_cents, cents_one_answer)
