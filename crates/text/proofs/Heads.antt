-- The place that is answered of shares that cannot be read is that of the first byte that does not fit. Assumes nothing.
use Rattle.std.proofs.Common.{◌≡◌, ℕ, zero, suc, ◌+◌, ◌<◌, true, List, [], ◌∷◌, Some, None, Err, Option, refl, arith}
use mathlib.Core.Logic.{inl, inr}
use Rattle.std.proofs.lemmas.Bool.{cases_Bool}
use Rattle.std.proofs.lemmas.Bool.Decides.{nat_tests}
use Rattle.std.specs.Prelude.{◌==◌, ◌&&◌, codes, nat_lt, is_some}
use Rattle.text.proofs.Back.{digit_heads}
use Rattle.text.proofs.Places.{Readable, Stops, stops_here, stops_later, first_stop, numbers_stop}
use Rattle.text.specs.Laws.{MisfitsFirst}
use Rattle.text.specs.Read.{so_far, numbers_from, heads, headed, with_parts, shares_from, shares_of}

-- In a head digits begin behind two bytes.
abbrev InHead : ℕ → Option ℕ → Type 0
InHead at begun = at < 2 → begun ≡ None

in_head_next : (at : ℕ) (begun : Option ℕ) (b : ℕ) → InHead at begun → InHead (at + 1) (headed at begun b)
in_head_next at begun b from less =
    let first : nat_lt at 2 ≡ true = grind (arith, nat_tests, less) in
    rw first (from (omega (arith, less)))

-- some bytes end it, and the line
readable : (at : ℕ) (begun : Option ℕ) → InHead at begun → Readable (shares_from at begun)
unfolding shares_from numbers_from
readable zero None from = (codes "d 0:", (0, []), refl)
readable (suc zero) None from = (codes " 0:", (0, []), refl)
readable (suc (suc n)) None from =
    (codes "0:", (0, []), digit_heads (suc (suc n)) None 48 (codes ":") (omega arith) refl)
readable at (Some d) from = (codes ":", (d, []), refl)

shares_stop : (bs : List ℕ) (at : ℕ) (begun : Option ℕ) (p : ℕ) → InHead at begun → shares_from at begun bs ≡ Err p → Stops (shares_from at begun) at bs p
unfolding shares_from
shares_stop [] at begun p from e =
    stops_here _ at p [] (readable at begun from) (λ less. absurd (omega (arith, less))) refl e
shares_stop (b ∷ bs) at begun p from e =
    elim (cases_Bool (b == 58 && is_some begun)) [
      | inl f ↦ stops_later _ at p (λ cs. with_parts (so_far begun) (numbers_from (at + 1) [] None cs)) b bs (λ rest. rw f refl) (numbers_stop (with_parts (so_far begun)) (λ xs. ((so_far begun, xs), refl)) (λ q. refl) bs (at + 1) [] None p (rw f at e))
      | inr f ↦ elim (cases_Bool (heads at begun b)) [
        | inl g ↦ stops_later _ at p (shares_from (at + 1) (headed at begun b)) b bs (λ rest. rw (f, g) refl) (shares_stop bs (at + 1) (headed at begun b) p (in_head_next at begun b from) (rw (f, g) at e))
        | inr g ↦ stops_here _ at p (b ∷ bs) (readable at begun from) (λ less rest. rw (f, g) refl) (rw (f, g) refl) e
      ]
    ]

pub shares_misfits_first : MisfitsFirst shares_of
shares_misfits_first line p e =
    first_stop shares_of line p (shares_stop line 0 None p (λ less. refl) e)
