-- Claims in order after one more claim, or one that is another. Assumes nothing.
use Rattle.std.proofs.Common.{◌≡◌, ℕ, zero, suc, ◌<◌, List, [], ◌∷◌, ◌++◌, length, get_or, set, refl, ap, ◌∙◌, arith}
use Rattle.std.specs.List.{remove as removed, Contains}
use Rattle.std.proofs.lemmas.Bool.Decides.{nat_tests}
use Rattle.std.proofs.lemmas.List.{length-set, get_or-set_same, take-set, drop-set-lt}
use Rattle.std.proofs.lemmas.List.Elements.{Contains-get_or}
use Rattle.std.proofs.lemmas.List.Sorted.{Contains-permutation}
use Rattle.estate.specs.Order.{insert, remove, sorted}
use Rattle.estate.proofs.Ordered.{moved_sorted}

-- of two claims it does not matter which is entered first
insert_twice : (a b : ℕ) (ks : List ℕ) → insert a (insert b ks) ≡ insert b (insert a ks)
unfolding insert
insert_twice a b [] = grind (arith, nat_tests)
insert_twice a b (k ∷ ks) = let rest = insert_twice a b ks in grind (arith, nat_tests)

pub sorted_push : (cs : List ℕ) (c : ℕ) → sorted (cs ++ c ∷ []) ≡ insert c (sorted cs)
unfolding sorted
sorted_push [] c = refl
sorted_push (k ∷ cs) c = ap (insert k) (sorted_push cs c) ∙ insert_twice k c (sorted cs)

-- any of the claims may be the one that is entered last
pub sorted_apart : (cs : List ℕ) (i : ℕ) → i < length cs → sorted cs ≡ insert (get_or cs i 0) (sorted (removed cs i))
unfolding sorted
sorted_apart [] i h = absurd (omega arith)
sorted_apart (c ∷ cs) zero h = refl
sorted_apart (c ∷ cs) (suc i) h = ap (insert c) (sorted_apart cs i (omega arith)) ∙ insert_twice c (get_or cs i 0) (sorted (removed cs i))

pub has_sorted : (cs : List ℕ) (i : ℕ) → i < length cs → Contains (sorted cs) (get_or cs i 0)
has_sorted cs i h = Contains-permutation _ _ _ (moved_sorted cs) (Contains-get_or cs i 0 h)

remove-insert : (c : ℕ) (ks : List ℕ) → remove c (insert c ks) ≡ ks
unfolding insert remove
remove-insert c [] = grind (arith, nat_tests)
remove-insert c (k ∷ ks) = let rest = remove-insert c ks in grind (arith, nat_tests)

pub sorted-set : (cs : List ℕ) (i c : ℕ) → i < length cs → sorted (set cs i c) ≡ insert c (remove (get_or cs i 0) (sorted cs))
sorted-set cs i c h =
    let old = sorted_apart cs i h in
    let gone = remove-insert (get_or cs i 0) (sorted (removed cs i)) in
    let new = sorted_apart (set cs i c) i (simp length-set h) in
    let here = get_or-set_same cs i c 0 h in
    let front = take-set cs i c in
    let back = drop-set-lt (suc i) cs i c (omega arith) in
    cc
