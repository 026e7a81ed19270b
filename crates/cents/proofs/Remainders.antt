-- What creditors lack of their shares of a division when these are rounded down. Assumes nothing.
use Rattle.std.proofs.Common.{◌≡◌, ℕ, zero, suc, ◌*◌, ◌%◌, ◌≤◌, max, Bool, ◌⊎◌, arith}
use Rattle.std.proofs.Math.Nat.{add-mod_right, add-mul-mod_self_left, le-mul_of_pos_right, mod-eq_of_lt}
use Rattle.estate.specs.Closed.{share}
use Rattle.estate.specs.Estates.{counted}
use Rattle.estate.proofs.Rows.{get_or-map_zero}
use Rattle.level.specs.Sides.{gains}
use Rattle.level.specs.Terms.{parts_of, share_by}
use Rattle.shares.proofs.Divided.{parts_exact, shares_exact}
use Rattle.cents.specs.Laws.{FewRemainders}

module _ (m : ℕ) where
  -- the parts of a cent
  abbrev d : ℕ
  d = max 1 (2 * m)

  -- half of c whole cents lacks nothing or half a cent
  none_or_half : (c : ℕ) → (m * c % d ≡ 0) ⊎ (2 * (m * c % d) ≡ d)
  none_or_half zero = grind arith
  none_or_half (suc zero) = grind (arith, mod-eq_of_lt)
  none_or_half (suc (suc c)) = grind (arith, none_or_half c, add-mod_right (m * c) d)

  module _ (n : ℕ) (b : Bool) where
    -- what a claim of c gets where n is spread among m sharers
    abbrev got : ℕ → ℕ
    got c = share b (record { spread = n; sharers = m }) c

    -- a claim of which half reaches the level lacks as much as a claim of n would
    same_above : (c : ℕ) → n ≤ m * c → got c % d ≡ got n % d
    same_above c h =
        grind (arith, le-mul_of_pos_right, add-mul-mod_self_left (got c) d n, add-mul-mod_self_left (got n) d c)

pub few_remainders : FewRemainders
few_remainders e ks t f =
    let m : ℕ = t.level.denominator in
    let n : ℕ = t.level.numerator in
    let each = get_or-map_zero (share_by t) (grind arith) (counted e) in
    (share_by t n % parts_of t, λ i. rw (parts_exact e ks t f, shares_exact e ks t f, each i) (grind (arith, none_or_half m, same_above m n (gains t.side))))
