-- Whole cents come of all shares that add up, and they pay. Assumes nothing.
use Rattle.std.proofs.Common.{ℕ, ◌/◌, ◌%◌, List, Ok, Err, Result, refl, sym, ◌∙◌, ap, arith}
use Rattle.std.proofs.Math.Nat.{mul-mod_right, mul-div_cancel_left}
use Rattle.std.specs.Result.{IsOkAnd}
use Rattle.estate.specs.Cents.{in_cents}
use Rattle.estate.specs.Estates.{divided, counted}
use Rattle.estate.specs.Right.{MaySay}
use Rattle.estate.proofs.Facts.{facts}
use Rattle.estate.proofs.WholeCents.{cents_rounded, cents_add_up}
use Rattle.estate.proofs.RightAnswers.{cents_one_answer}
use Rattle.shares.specs.Shares.{parts_word, shares_on}
use Rattle.shares.proofs.Divided.{shares_divide}
use Rattle.cents.specs.declared.split.Split.{Split}
use Rattle.cents.specs.declared.whole.Cents.{Cents}
use Rattle.cents.specs.declared.whole.CentsError.{CentsError}
use Rattle.cents.specs.declared.whole.CentsError.TheVariants.{NoParts, TooMany, NotWhole}
use Rattle.cents.specs.Parted.{split_parts, split_items}
use Rattle.cents.specs.Whole.{cents_of}
use Rattle.cents.specs.Laws.{Whole, AllCome, Paid, CentsPay}

module _ {P : Type 0} (parts : P → ℕ) (items : P → List ℕ) where
  pub all_come : AllCome parts items
  all_come d e xs (Err NoParts) parted few sums c = omega (arith, parted, c)
  all_come d e xs (Err TooMany) parted few sums c = omega (arith, few, c.1)
  all_come d e xs (Err NotWhole) parted few sums c = c.2 (ap (λ n. n % d) sums ∙ mul-mod_right d e)
  all_come d e xs (Ok c) parted few sums k =
      let is = k.3 ∙ ap (λ n. in_cents d n xs) (ap (λ n. n / d) sums ∙ mul-div_cancel_left e parted) in
      let r = cents_rounded d e xs parted sums in
      rw is (record { come = refl; paired = sym r.paired; sum_is = omega (arith, r.given); near = r.near })

pub cents_pay : CentsPay
unfolding MaySay
cents_pay e ks t r f c =
    let p = shares_divide e ks t f in
    let q = facts _ _ _ _ p.divides in
    paid r (all_come split_parts split_items _ (divided e) (shares_on t (counted e)) r q.parted (omega (arith, q.paired, f.within.few)) q.whole c)
  where
    paid : (r : Result (Cents Split) CentsError) → IsOkAnd r (λ c. Whole (parts_word t) (divided e) (shares_on t (counted e)) (cents_of split_parts split_items c)) → IsOkAnd r (λ c. Paid e t (cents_of split_parts split_items c))
    paid (Err why) w = w
    paid (Ok k) w =
        let p = shares_divide e ks t f in
        rw (w.come) (record {
          divided_by = p;
          come = refl;
          pays = cents_add_up _ _ _ _ p.divides;
          said = cents_one_answer e _ (parts_word t, shares_on t (counted e), p.divides, refl);
        })
