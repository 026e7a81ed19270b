-- The place that is answered of numbers that cannot be read is that of the first byte that does not fit. Assumes nothing.
use Rattle.std.proofs.Common.{◌≡◌, ℕ, suc, ◌+◌, ◌<◌, List, [], ◌∷◌, ◌++◌, length, take, Some, None, Ok, Err, Option, refl, sym, ◌∙◌, subst, arith}
use mathlib.Core.Logic.{inl, inr}
use Rattle.std.proofs.lemmas.Bool.{cases_Bool}
use Rattle.text.specs.Laws.{LineMisfit, MisfitsFirst}
use Rattle.text.specs.Read.{Reading, is_blank, grown, grows, so_far, closed, numbers_from, numbers_of}

-- What a reader that is at a place reads of some bytes, and that place p is where it stops.
abbrev pub Readable : {A : Type 0} → (List ℕ → Reading A) → Type 0
Readable {A} read = (rest : List ℕ) × (x : A) × (read rest ≡ Ok x)

abbrev pub Stops : {A : Type 0} → (List ℕ → Reading A) → ℕ → List ℕ → ℕ → Type 0
Stops read at bs p = (k : ℕ) × (p ≡ at + k) × LineMisfit read bs k

-- it stops at once, or one byte on
module _ {A : Type 0} (read : List ℕ → Reading A) (at p : ℕ) where
  pub stops_here : (bs : List ℕ) → Readable read → (0 < length bs → (rest : List ℕ) → read (take 1 bs ++ rest) ≡ Err at) → read bs ≡ Err at → read bs ≡ Err p → Stops read at bs p
  stops_here bs some none here e =
      let same : at ≡ p = cc in
      (0, omega arith, record { within = omega arith; before = some; with_it = λ less rest x f. cc (none less rest) })

  pub stops_later : (next : List ℕ → Reading A) (b : ℕ) (bs : List ℕ) → ((rest : List ℕ) → read (b ∷ rest) ≡ next rest) → Stops next (at + 1) bs p → Stops read at (b ∷ bs) p
  stops_later next b bs same (k, place, m) = (
    suc k,
    omega (arith, place),
    record {
      within = omega (arith, m.within);
      before = (m.before.0, m.before.1, same (take k bs ++ m.before.0) ∙ m.before.2);
      with_it = λ less rest x f. m.with_it (omega (arith, less)) rest x (sym (same (take (suc k) bs ++ rest)) ∙ f);
    },
  )

pub first_stop : {A : Type 0} (read : List ℕ → Reading A) (line : List ℕ) (p : ℕ) → Stops read 0 line p → LineMisfit read line p
first_stop read line p (k, place, m) =
    let same : k ≡ p = omega (arith, place) in
    subst (LineMisfit read line) same m

-- numbers, of which something is made that is read where they are, and stops where they do
module _ {A : Type 0} (made : Reading (List ℕ) → Reading A) (some : (ns : List ℕ) → (x : A) × (made (Ok ns) ≡ Ok x)) (stops : (p : ℕ) → made (Err p) ≡ Err p) where
  pub numbers_stop : (bs : List ℕ) (at : ℕ) (ns : List ℕ) (begun : Option ℕ) (p : ℕ) → made (numbers_from at ns begun bs) ≡ Err p → Stops (λ cs. made (numbers_from at ns begun cs)) at bs p
  unfolding numbers_from
  numbers_stop [] at ns begun p e =
      let s = some (closed ns begun) in
      absurd (cc (s.1))
  numbers_stop (b ∷ bs) at ns begun p e =
      elim (cases_Bool (is_blank b)) [
        | inl h ↦ stops_later _ at p (λ cs. made (numbers_from (at + 1) (closed ns begun) None cs)) b bs (λ rest. rw h refl) (numbers_stop bs (at + 1) (closed ns begun) None p (rw h at e))
        | inr h ↦ elim (cases_Bool (grows (so_far begun) b)) [
          | inl g ↦ stops_later _ at p (λ cs. made (numbers_from (at + 1) ns (Some (grown (so_far begun) b)) cs)) b bs (λ rest. rw (h, g) refl) (numbers_stop bs (at + 1) ns (Some (grown (so_far begun) b)) p (rw (h, g) at e))
          | inr g ↦ stops_here _ at p (b ∷ bs) ([], (some (closed ns begun)).0, (some (closed ns begun)).1) (λ less rest. rw (h, g) (stops at)) (rw (h, g) (stops at)) e
        ]
      ]

pub numbers_misfits_first : MisfitsFirst numbers_of
numbers_misfits_first line p e =
    first_stop numbers_of line p (numbers_stop (λ r. r) (λ ns. (ns, refl)) (λ q. refl) line 0 [] None p e)
