-- The contracts of a row, said in lists. Assumes nothing.
use Rattle.std.proofs.Common.{◌≡◌, ℕ, ◌+◌, ◌-◌, ◌<◌, ◌≤◌, List, length, take, drop, sym, ap, ◌∙◌, subst, arith}
use Rattle.std.specs.List.{remove}
use Rattle.std.proofs.lemmas.List.{places}
use Rattle.std.proofs.lemmas.Grind.{elements}
use Rattle.std.proofs.lemmas.List.Edits.{insert_end}
use Rattle.std.specs.List.Sorted.{IsNonDecreasing}
use Rattle.estate.specs.Order.{insert}
use Rattle.estate.proofs.Ordered.{rising_remove}
use Rattle.register.specs.Row.{part, Fits}
use Rattle.register.specs.Laws.{Inserts, Removes, Replaces, OnePlace, NotIn}
use Rattle.register.proofs.Parts.{in_part, fits_part, stands_part, missing_part, goes_part}
use Rattle.register.proofs.InOrder.{inserted_in_order, removed_in_order, missing_in_order, goes_in_order}

last_removed : (ks : List ℕ) (n m : ℕ) → n + 1 ≤ length ks → m ≡ n → remove (take (n + 1) ks) m ≡ take n ks
last_removed ks n m room same = grind (arith, elements)

pub inserts : Inserts
inserts low n c at ws new i =
    let moved = in_part low (n + 1) (low + n) at c ws new i.carried (omega arith) (omega arith) (omega arith) (omega arith) (omega arith) in
    let whole = last_removed (drop low ws) n (low + n - low) (grind (arith, places)) (omega arith) in
    (cc, λ rise. inserted_in_order (part low n ws) c (at - low) rise (fits_part low n c ws (omega arith) at i.fits))

pub removes : Removes
removes low n c at ws new r =
    let moved = in_part low n at (low + n - 1) 0 ws new r.carried r.room (omega arith) (omega arith) (omega arith) (omega arith) in
    let end : low + n - 1 - low ≡ length (remove (part low n ws) (at - low)) = grind (arith, places) in
    let last = insert_end (remove (part low n ws) (at - low)) 0 in
    (cc, λ rise. removed_in_order (part low n ws) c (at - low) rise (stands_part low n c ws r.room at r.stood))

pub replaces : Replaces
replaces low n old c from to ws new r =
    let s = r.stood in
    let ks = part low n ws in
    let here = stands_part low n old ws r.room from s in
    let goes = goes_part low n c ws r.room from to s.fits.above s.within r.goes in (
      in_part low n from to c ws new r.carried r.room s.fits.above r.goes.above s.within r.goes.within,
      λ rise.
          let out = removed_in_order ks old (from - low) rise here in
          let rest = subst IsNonDecreasing (sym out) (rising_remove old ks rise) in
          let fits = goes_in_order ks (from - low) c (to - low) rise here.within goes in
          inserted_in_order (remove ks (from - low)) c (to - low) rest fits ∙ ap (insert c) out,
    )

pub one_place : OnePlace
one_place low n l h c a b ws rise room first last f g = omega (arith, never_twice a b f g, never_twice b a g f)
  where
    never_twice : (a b : ℕ) → Fits l h c ws a → Fits l h c ws b → a < b → ⊥
    never_twice a b f g t =
        grind (arith, places, rise (a - low) (b - 1 - low) 0, f.behind, g.before)

pub not_in : NotIn
not_in low n c ws room m rise = missing_in_order (part low n ws) c rise (missing_part low n c ws room m)
