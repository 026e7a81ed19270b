-- What is written on the terms that are found divides. Assumes nothing.
use Rattle.std.proofs.Common.{◌≡◌, ℕ, ◌*◌, ◌<◌, ◌≤◌, List, [], ◌∷◌, map, length, All, get_or, refl, ap, arith}
use Rattle.std.proofs.lemmas.List.{get_or-map}
use Rattle.std.proofs.lemmas.List.Elements.{All-tail, All-map}
use Rattle.estate.specs.Limits.{most_claimed}
use Rattle.estate.specs.Estates.{Estate, divided, counted}
use Rattle.estate.proofs.Limited.{share_small as own_small}
use Rattle.estate.proofs.ClosedForm.{denominator_few}
use Rattle.estate.specs.Right.{says}
use Rattle.level.specs.Terms.{parts_of, share_by}
use Rattle.level.specs.Laws.{AreRight, TermsRight, Small, TermsSmall}
use Rattle.level.specs.declared.closed.Terms.{Terms}
use Rattle.level.proofs.Agreeing.{terms_right, terms_small}
use Rattle.shares.proofs.EachTwo.{accepts_divisions}
use Rattle.shares.specs.Shares.{parts_word, share_word, shares_on}
use Rattle.shares.specs.Laws.{TermsFor, Divided, SharesDivide, SharesFit, SharesPass}

module _ (e : Estate) (ks : List ℕ) (t : Terms) (f : TermsFor e ks t) where
  right : AreRight e t
  unfolding TermsRight
  right = terms_right e ks t f.same f.rising f.found

  small : Small e t
  unfolding TermsSmall
  small = terms_small e ks t f.within f.same f.rising f.found

  -- nobody has more than it claims, since these shares divide
  share_small : (i d : ℕ) → i < length (counted e) → share_by t (get_or (counted e) i d) ≤ 2 * most_claimed
  share_small i d l =
      omega (arith, own_small e f.within i, ap (λ xs. get_or xs i 0) right.shares, get_or-map (share_by t) (counted e) i d 0 l)

  -- so no word is too small for its share
  no_word_short : (cs : List ℕ) → All (λ c. share_by t c ≤ 2 * most_claimed) cs → shares_on t cs ≡ map (share_by t) cs
  no_word_short [] h = refl
  no_word_short (c ∷ cs) h =
      let first : share_word t c ≡ share_by t c = omega (arith, h 0 0 (omega arith)) in
      let rest = no_word_short cs (All-tail (λ k. share_by t k ≤ 2 * most_claimed) c cs h) in
      cc

  pub shares_exact : shares_on t (counted e) ≡ map (share_by t) (counted e)
  shares_exact = no_word_short (counted e) share_small

  pub parts_exact : parts_word t ≡ parts_of t
  parts_exact = omega (arith, small.parts)

  divided_by : Divided e t
  unfolding says
  divided_by = record {
    few = omega (arith, parts_exact, right.parts, denominator_few (divided e) (counted e));
    divides = rw (parts_exact, shares_exact) right.divides;
    said = cc (parts_exact, right.parts, shares_exact, right.shares);
  }

pub shares_divide : SharesDivide
shares_divide e ks t f = divided_by e ks t f

pub shares_fit : SharesFit
shares_fit e ks t f =
    (All-map (λ x. x ≤ 2 * most_claimed) (share_word t) (counted e) (λ i d l. omega (arith, share_small e ks t f i d l)), omega arith)

pub shares_pass : SharesPass
shares_pass e ks t r f v = accepts_divisions _ _ _ _ r v (divided_by e ks t f).divides
