-- A bit that is set, and the others. Assumes nothing.
use Rattle.std.proofs.Common.{◌≡◌, ◌≢◌, ℕ, ◌*◌, ◌/◌, ◌%◌, ◌^◌, ◌<◌, List, length, get_or, slice_set, bit_or, Bool, true, false, ◌||◌, ◌==◌, w64, refl, ap, arith}
use mir.Val.{bool_byte}
use Rattle.std.specs.Int.Bits.{or_zero_r}
use Rattle.std.specs.Int.{bit_at}
use Rattle.std.proofs.lemmas.List.{get_or-set_same, get_or-set_other}
use Rattle.std.proofs.lemmas.Nat.Bits.{bit_at_set_same, bit_at_set_other}

-- a word with the bit of place i, if it is to be set
abbrev with_bit : ℕ → ℕ → ℕ → ℕ
with_bit n b i = bit_or n (b * 2 ^ (i % 64) % 18446744073709551616)

module _ (ws : List ℕ) (i b : ℕ) (there : i / 64 < length ws) where
  abbrev word : ℕ
  word = get_or ws (i / 64) 0

  abbrev marked : List ℕ
  marked = slice_set ws (i / 64) (with_bit word b i)

  unset : b ≡ 0 → with_bit word b i ≡ word
  unset e = let none : 0 * 2 ^ (i % 64) % 18446744073709551616 ≡ 0 = omega arith in rw (e, none) (or_zero_r word)

  pub this_marked : (also : Bool) → b ≡ bool_byte also → (bit_at (get_or marked (i / 64) 0) (i % 64) == 1) ≡ (also || (bit_at word (i % 64) == 1))
  this_marked true e =
      let set : b ≡ 1 = e in
      rw (set, get_or-set_same ws (i / 64) (with_bit word 1 i) 0 there) (ap (λ n. n == 1) (bit_at_set_same w64 word (i % 64) (omega arith)))
  this_marked false e =
      rw (get_or-set_same ws (i / 64) (with_bit word b i) 0 there, unset e) refl

  -- another bit, of the same word or of another
  pub other_marked : (also : Bool) → b ≡ bool_byte also → (k : ℕ) → k ≢ i → bit_at (get_or marked (k / 64) 0) (k % 64) ≡ bit_at (get_or ws (k / 64) 0) (k % 64)
  other_marked true e k h =
      let set : b ≡ 1 = e in
      rw set (grind (arith, there, get_or-set_same ws (i / 64) (with_bit word 1 i) 0 there, get_or-set_other ws (i / 64) (k / 64) (with_bit word 1 i) 0, bit_at_set_other w64 word (i % 64) (omega arith) (k % 64)))
  other_marked false e k h =
      grind (arith, there, unset e, get_or-set_same ws (i / 64) (with_bit word b i) 0 there, get_or-set_other ws (i / 64) (k / 64) (with_bit word b i) 0)
