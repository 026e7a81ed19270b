-- A ledger after a claim, and after a change. Assumes nothing.
use Rattle.std.proofs.Common.{◌≡◌, ℕ, ◌+◌, ◌-◌, ◌*◌, ◌≤◌, List, ◌++◌, length, take, drop, min, Some, None, Ok, Err, Result, refl, sym, ap, ◌∙◌, arith}
use Rattle.std.specs.Prelude.{IsErrAnd}
use Rattle.std.proofs.lemmas.List.{take_at, drop_at}
use Rattle.register.specs.Rows.{middle, Addition, Change, IsUnfit}
use Rattle.register.specs.declared.row.Moved.{Moved}
use Rattle.register.specs.declared.rows.Unfit.{Unfit}
use Rattle.sums.specs.Sums.{renewed}
use Rattle.sums.specs.Ledger.{room, register, resummed, Enters, Amends}

-- rows of words of the same length, of which the first two are the register
module _ (ws two row : List ℕ) (rows : ws ≡ two ++ row) (long : length two ≡ 2 * room ws) where
  pub first_two : register ws ≡ two
  first_two = ap (take (2 * room ws)) rows ∙ take_at two row (2 * room ws) long

  pub third : drop (2 * room ws) ws ≡ row
  third = ap (drop (2 * room ws)) rows ∙ drop_at two row (2 * room ws) long

  -- the part of the register in order, as the code cuts it out
  sums_resummed : (n a k : ℕ) (front sums : List ℕ) → k ≡ n → sums ≡ renewed a (take k (drop (room ws) front)) (take n row) → front ++ (sums ++ drop n row) ≡ resummed n a ws front
  sums_resummed n a k front sums same is = rw (third, is, same) refl

  pub enters_none : (n c : ℕ) (front : List ℕ) → middle two ≤ n → front ≡ two → Enters n c ws (front ++ row) None
  unfolding Enters
  enters_none n c front full same = (omega arith, rw same (sym rows))

  pub enters_some : (n c at : ℕ) (front sums : List ℕ) → Addition n c at two front → sums ≡ renewed (at - room ws) (take (room ws + n + 1 - room ws) (drop (room ws) front)) (take (n + 1) row) → Enters n c ws (front ++ (sums ++ drop (n + 1) row)) (Some at)
  unfolding Enters
  enters_some n c at front sums a is =
      record { front = front; added = rw first_two a; words = sums_resummed (n + 1) _ _ front sums (omega arith) is }

  pub amends_none : (n i c : ℕ) (front : List ℕ) (r : Result Moved Unfit) → IsErrAnd r (λ why. IsUnfit n i two why) → front ≡ two → Amends n i c ws (front ++ row) r
  unfolding Amends
  amends_none n i c front (Ok m) u same = absurd u
  amends_none n i c front (Err why) u same = (rw first_two u, rw same (sym rows))

  pub amends_some : (n i c low : ℕ) (m : Moved) (front sums : List ℕ) → low ≡ min m.from m.to → Change n i c m.from m.to two front → sums ≡ renewed (low - room ws) (take (room ws + n - room ws) (drop (room ws) front)) (take n row) → Amends n i c ws (front ++ (sums ++ drop n row)) (Ok m)
  unfolding Amends
  amends_some n i c low m front sums l a is =
      record { front = front; changed = rw first_two a; words = sums_resummed n _ _ front sums (omega arith) (rw l at is) }

pub ruleset enters = (enters_none, enters_some)

pub ruleset amends = (amends_none, amends_some)
