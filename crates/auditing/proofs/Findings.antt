-- What an audit finds. Assumes nothing.
use Rattle.std.proofs.Common.{◌≡◌, ℕ, ◌+◌, ◌≤◌, Bool, true, false, List, [], ◌∷◌, length, Some, None, Ok, Err, Option, refl, sym, ap, ◌∙◌, arith}
use Rattle.std.proofs.lemmas.Bool.Decides.{nat_tests}
use Rattle.std.specs.Prelude.{nat_lt}
use Rattle.std.specs.Result.{result_unwrap_or}
use Rattle.estate.specs.Answers.{parts}
use Rattle.estate.specs.Estates.{Estate, counted, Within}
use Rattle.estate.specs.Limits.{most_served}
use Rattle.estate.proofs.ClosedForm.{own_divide}
use Rattle.estate.proofs.Limited.{claim_small, parts_small, share_small}
use Rattle.estate.specs.Right.{own_parts, own_shares, says}
use Rattle.wire.specs.Bytes.{Fitting}
use Rattle.wire.proofs.Bytes.{fitting_more}
use Rattle.text.proofs.Back.{numbers_back, shares_back}
use Rattle.auditing.proofs.Feeds.{one_line-spaced, one_line-parts, in_lines, last_line}
use Rattle.shares.specs.Pairs.{Answered, Verdict}
use Rattle.shares.proofs.EachTwo.{accepts_divisions, one_verdict, only_divisions}
use Rattle.text.specs.Read.{Reading, numbers_of, shares_of}
use Rattle.auditing.specs.Audits.{blank_behind, Checked, HasBoth, HasMore, IsAudited}
use Rattle.text.specs.Printed.{as_line, spaced, answer_text}
use Rattle.auditing.specs.Laws.{printed, OneFinding, DesksPass, RightDivides}
use Rattle.auditing.specs.Texts.{blank_lines, first_line, rest_of}
use Rattle.auditing.specs.declared.checking.Finding.{Finding}
use Rattle.auditing.specs.declared.checking.Finding.TheVariants.{Right, Wrong, ClaimsMisfit, TooMany, SharesMisfit, Line}

-- as many claims as are served are not more
served : (cs : List ℕ) → length cs ≤ most_served → nat_lt most_served (length cs) ≡ false
served cs few = grind (arith, nat_tests)

-- a check's answer as a finding
abbrev judged : Answered → Finding
judged (Ok _) = Right
judged (Err fault) = Wrong fault

-- The same as `IsAudited`, by what is read of the claims, whether they are too many, what is read of the shares, and whether
-- nothing is behind them.
abbrev Found : Reading (List ℕ) → Bool → Reading (ℕ × List ℕ) → Option ℕ → Finding → Type 0
Found (Err p) many shares ends f = f ≡ ClaimsMisfit p
Found (Ok cs) true shares ends f = f ≡ TooMany
Found (Ok cs) false (Err p) ends f = f ≡ SharesMisfit p
Found (Ok cs) false (Ok h) (Some n) f = f ≡ Line (n + 3)
Found (Ok cs) false (Ok h) None f = (r : Answered) × Verdict h.0 cs h.1 r × (f ≡ judged r)

abbrev InText : List ℕ → Finding → Type 0
InText text f =
    Found (numbers_of (first_line text)) (nat_lt most_served (length (result_unwrap_or (numbers_of (first_line text)) []))) (shares_of (first_line (rest_of text))) (blank_behind text) f

in_text : (text : List ℕ) (f : Finding) → IsAudited text f → InText text f
in_text text (ClaimsMisfit p) e = rw e refl
in_text text TooMany (cs, e, more) =
    let above : nat_lt most_served (length cs) ≡ true = grind (arith, nat_tests) in
    rw (e, above) refl
in_text text (SharesMisfit p) (cs, claims, e) = rw (claims.read, served cs claims.few, e) refl
in_text text (Line n) (k, m, line) =
    let b = m.lines in
    rw (b.has_claims.read, served b.claims b.has_claims.few, b.has_shares.read, m.more) (ap Line line)
in_text text (Wrong fault) c =
    let b = c.lines in
    rw (b.has_claims.read, served b.claims b.has_claims.few, b.has_shares.read, c.ends) (Err fault, c.verdict, refl)
in_text text Right c =
    let b = c.lines in
    rw (b.has_claims.read, served b.claims b.has_claims.few, b.has_shares.read, c.ends) (Ok tt, c.verdict, refl)

one_found : (claims : Reading (List ℕ)) (many : Bool) (shares : Reading (ℕ × List ℕ)) (ends : Option ℕ) (f g : Finding) → Found claims many shares ends f → Found claims many shares ends g → f ≡ g
one_found (Err p) many shares ends f g this that = this ∙ sym that
one_found (Ok cs) true shares ends f g this that = this ∙ sym that
one_found (Ok cs) false (Err p) ends f g this that = this ∙ sym that
one_found (Ok cs) false (Ok h) (Some n) f g this that = this ∙ sym that
one_found (Ok cs) false (Ok h) None f g (r, v, this) (s, w, that) =
    this ∙ (ap judged (one_verdict h.0 cs h.1 r s v w) ∙ sym that)

pub one_finding : OneFinding
one_finding text f g this that = one_found _ _ _ _ f g (in_text text f this) (in_text text g that)

-- what was printed of an estate within the limits
module _ (e : Estate) (within : Within e) where
  claims_fit : Fitting (counted e)
  claims_fit i = omega (arith, claim_small e within i)

  shares_fit : Fitting (own_parts e ∷ own_shares e)
  shares_fit =
      fitting_more _ _ (omega (arith, parts_small e within)) (λ i. omega (arith, share_small e within i))

  abbrev shares_text : List ℕ
  shares_text = answer_text (parts (own_parts e) (own_shares e))

  passed : (f : Finding) → Found (Ok (counted e)) false (Ok (own_parts e, own_shares e)) None f → f ≡ Right
  passed f (r, v, is) =
      is ∙ ap judged (accepts_divisions _ _ _ _ r v (own_divide e))

  pub printed_passes : (f : Finding) → length (counted e) ≤ most_served → InText (printed e) f → f ≡ Right
  unfolding says blank_lines
  printed_passes f few found =
      let (first, rest) = in_lines (spaced (counted e)) (as_line shares_text) (one_line-spaced (counted e) claims_fit) in
      let (second, end) = last_line shares_text (one_line-parts _ _ shares_fit) in
      passed f (rw (first, rest, second, end, numbers_back (counted e) claims_fit, served (counted e) few, shares_back _ _ shares_fit) at found)

pub desks_pass : DesksPass
desks_pass e f within few found = printed_passes e within f few (in_text (printed e) f found)

pub right_divides : RightDivides
unfolding RightDivides
right_divides text d e cs xs found claims shares whole =
    let same : found.lines.claims ≡ cs = cc in
    let parted : ◌≡◌ {A = ℕ × List ℕ} (found.lines.d, found.lines.shares) (d, xs) = cc in
    only_divisions d e cs xs (rw (same, ap (λ p. p.0) parted, ap (λ p. p.1) parted) at found.verdict) whole

-- what is found of claims and shares that were read
module _ (text cs : List ℕ) (d : ℕ) (xs : List ℕ) (claims : numbers_of (first_line text) ≡ Ok cs) (few : length cs ≤ most_served) (shares : shares_of (first_line (rest_of text)) ≡ Ok (d, xs)) where
  abbrev both : HasBoth text
  both = record {
    claims = cs;
    d = d;
    shares = xs;
    has_claims = record { read = claims; few = few };
    has_shares = record { read = shares };
  }

  pub found_more : (n : ℕ) → blank_behind text ≡ Some n → HasMore text n
  found_more n more = record { lines = both; more = more }

  pub found_checked : (r s : Answered) → blank_behind text ≡ None → Verdict d cs xs r → r ≡ s → Checked text s
  found_checked r s ends verdict same = record { lines = both; ends = ends; verdict = rw (sym same) verdict }

pub ruleset found = (found_more, found_checked)

pub ruleset laws = (one_finding, desks_pass, right_divides)
