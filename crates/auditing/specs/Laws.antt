-- What is true of audits. The contract of `audit` names each. Assumes nothing.
use Rattle.std.specs.Prelude.{◌≡◌, ℕ, ◌*◌, ◌≤◌, true, List, ◌++◌, length, Ok, sum}
use Rattle.estate.specs.Calls.{shares}
use Rattle.estate.specs.Division.{divides}
use Rattle.estate.specs.Estates.{Estate, counted, Within}
use Rattle.estate.specs.Limits.{most_served}
use Rattle.estate.specs.Right.{says}
use Rattle.text.specs.Printed.{spaced, as_line, answer_text}
use Rattle.auditing.specs.Audits.{Checked, HasClaims, HasShares, IsAudited}
use Rattle.auditing.specs.declared.checking.Finding.{Finding}
use Rattle.auditing.specs.declared.checking.Finding.TheVariants.{Right}

-- one finding fits
abbrev pub OneFinding : Type 0
OneFinding = (text : List ℕ) (f g : Finding) → IsAudited text f → IsAudited text g → f ≡ g

-- the claims of an estate, and below them its shares as the desk says them, both as they are printed
abbrev pub printed : Estate → List ℕ
printed e = as_line (spaced (counted e)) ++ as_line (answer_text (says e shares))

-- are right
abbrev pub DesksPass : Type 0
DesksPass =
    (e : Estate) (f : Finding) → Within e → length (counted e) ≤ most_served → IsAudited (printed e) f → f ≡ Right

-- and shares that are found right divide what they come to, if that is whole cents
unfoldable pub RightDivides : Type 0
RightDivides =
    (text : List ℕ) (d e : ℕ) (cs xs : List ℕ) → Checked text (Ok tt) → HasClaims text cs → HasShares text d xs → sum xs ≡ d * e → divides d e cs xs ≡ true
