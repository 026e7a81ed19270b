-- The terms of a division are found by the sums over claims in order that a desk keeps. Assumes nothing.
use Rattle.std.proofs.Common.{◌≡◌, ℕ, ◌-◌, ◌*◌, List, length, take, drop, Some, Option, sym, refl, ◌∙◌}
use Rattle.std.specs.Prelude.{slice_index}
use Rattle.estate.specs.Order.{sorted}
use Rattle.estate.proofs.Ordered.{rising_sorted}
use Rattle.estate.proofs.SameClaims.{same_sorted}
use Rattle.level.specs.Terms.{Found}
use Rattle.level.specs.declared.closed.Terms.{Terms}
use Rattle.sums.specs.Ledger.{room}
use Rattle.sums.specs.Trees.{IsTree}
use Rattle.sums.specs.declared.tree.Tree.{Tree}
use Rattle.desk.specs.Memory.{header_words, words_asked, estate_of, Headed}
use Rattle.desk.specs.Steps.{Summed, Termed}
use Rattle.desk.proofs.Words.{claims_counted, rows_read}
use Rattle.desk.proofs.Keeping.{part_room, part_is}

pub tree_known : (m : List ℕ) (end count k : ℕ) (tree : Tree) → Headed m → end ≡ words_asked (slice_index m 0) → count ≡ slice_index m 2 → k ≡ end - header_words → tree.claims.now ≡ take count (drop (room (take k (drop header_words m))) (take k (drop header_words m))) → tree.sums.now ≡ take count (drop (2 * room (take k (drop header_words m))) (take k (drop header_words m))) → Summed m tree
unfolding Summed
tree_known m end count k tree h l n span claims sums = λ s.
    let is = part_is m end count k l n span h s in
    let same = part_room m end count k l n span h in
    let length : count ≡ length (estate_of m).claimed = sym (claims_counted m h ∙ sym n) in
    rows_read _ (estate_of m) s.allowed.few _ tree refl (rw (same, length, is) at claims) (rw (same, length, is) at sums)

pub terms_known : (m : List ℕ) (there : ℕ) (tree : Tree) (t : Terms) (o : Option Terms) → Summed m tree → there ≡ slice_index m 1 → o ≡ Some t → (IsTree tree → Found there tree.claims.now o) → Termed m t
unfolding Termed Summed
terms_known m there tree t o summed e is found = λ s.
    let cs = (estate_of m).claimed in
    let (tree, order) = summed s in (
      sorted cs,
      record {
        within = s.allowed.within;
        same = same_sorted cs;
        rising = rising_sorted cs;
        found = rw (is, order, e) at (found tree);
      },
    )
