use Rattle.std.proofs.Common.{[], refl, ◌∙◌, arith, rules}
use Rattle.std.proofs.lemmas.Grind.{common_steps}
use Rattle.estate.specs.Order.{sorted}
use Rattle.std.proofs.lemmas.List.{take_all}
use Rattle.std.proofs.lemmas.List.Sums.{fold_more}
use Rattle.register.specs.Rows.{middle}
use Rattle.register.specs.Entries.{entered}
use Rattle.register.specs.declared.entries.Entry.TheVariants.{Add}
use Rattle.register.proofs.AsLists.{inserts, removes, replaces, one_place, not_in}
use Rattle.estate.proofs.Ordered.{rising_insert, rising_remove, rising_sorted}
use Rattle.estate.proofs.SameClaims.{same_sorted, only_sorted}
use Rattle.register.proofs.Keeping.{adds, changes, never_out_of_order}
use Rattle.register.proofs.Entering.{enters}
use Rattle.register.proofs.entries.enter_all.Goals as goal

pub loop-entry-init : goal.loop-entry-init
unfolding sorted
loop-entry-init c =
    rw c.new-register.ensures
    (refl, record { count = refl; room = omega arith; words = grind (arith, common_steps) })

pub loop-entry-preserved : goal.loop-entry-preserved
loop-entry-preserved c =
    let k = c.loop-entry.invariant in
    let done = enters _ _ _ _ k.1 _ c.enter.ensures in
    rw (fold_more (entered (middle c.new-register.result.rows.now)) [] c.args.entries.now c.loop-entry.entry-index (Add 0) c.loop-entry-test.true)
    (done.0 ∙ k.0, done.1)

pub returns : goal.returns
returns c =
    let k = rw (take_all _ c.args.entries.now c.loop-entry-test.false) at c.loop-entry.invariant.1 in
    record {
      keeps = search rules;
      inserts = inserts;
      removes = removes;
      replaces = replaces;
      one_place = one_place;
      not_in = not_in;
      stays_rising = λ c ks rise. (rising_insert c ks rise, rising_remove c ks rise);
      ascending = λ cs. (rising_sorted cs, same_sorted cs);
      only_ascending = only_sorted;
      adds = adds;
      changes = changes;
      never_out_of_order = never_out_of_order;
    }
