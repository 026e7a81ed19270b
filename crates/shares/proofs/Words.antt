-- Shares in words. Assumes nothing.
use Rattle.std.proofs.Common.{◌≡◌, ℕ, zero, suc, ◌+◌, ◌<◌, ◌≤◌, List, [], ◌∷◌, ◌++◌, map, length, get_or, take, drop, slice_set, bit_or, sym, ap, ◌∙◌, arith}
use Rattle.std.proofs.lemmas.List.{length-map, get_or-map, get_or_past, take_all}
use mathlib.Core.Logic.{inl, inr}
use Rattle.std.proofs.lemmas.Bool.{cases_lt}
use Rattle.std.proofs.lemmas.Nat.{le_or_l, le_or_r}
use Rattle.std.proofs.lemmas.Grind.{elements}
use Rattle.std.proofs.lemmas.Option.{slice_get-map}
use Rattle.level.specs.declared.closed.Terms.{Terms}
use Rattle.wire.specs.Bytes.{Fitting}
use Rattle.wire.proofs.Bytes.{put_more, length-flat_map}
use Rattle.shares.specs.Shares.{share_word}

pub fits : (t : Terms) (cs : List ℕ) → Fitting (map (share_word t) cs)
fits t [] i = omega arith
fits t (c ∷ cs) zero = omega arith
fits t (c ∷ cs) (suc i) = fits t cs i

-- the number at i is written behind those before it
pub word_more : (i n : ℕ) (ns before out : List ℕ) → out ≡ take i ns ++ drop i before → length ns ≤ length before → i < length ns → n ≡ get_or ns i 0 → slice_set out i n ≡ take (i + 1) ns ++ drop (i + 1) before
word_more i n ns before out h room lt e = rw h (grind (arith, elements))

pub share_at : (i x : ℕ) (t : Terms) (cs : List ℕ) → i < length cs → x ≡ share_word t (get_or cs i 0) → x ≡ get_or (map (share_word t) cs) i 0
share_at i x t cs lt e = e ∙ sym (get_or-map (share_word t) cs i 0 0 lt)

pub ruleset write_steps = (word_more, share_at, length-map)

pub ruleset put_steps = (put_more, share_at, take_all, length-map, length-flat_map)

pub ruleset put_long = (length-map, length-flat_map)

-- a word is no more than bits of which it has some, and those before it are none either
module _ (b : ℕ) (ws : List ℕ) where
  pub bits_more : (i k w : ℕ) → i < length ws → w ≡ get_or ws i 0 → ((j : ℕ) → j < i → get_or ws j 0 ≤ b) → k < i + 1 → get_or ws k 0 ≤ bit_or b w
  bits_more i k w some is before less =
      elim (cases_lt k i) [
        | inl l ↦ omega (arith, before k l, le_or_l b w)
        | inr g ↦ omega (arith, ap (λ j. get_or ws j 0) (same g), is, le_or_r b w)
      ]
    where
      same : i ≤ k → k ≡ i
      same g = omega (arith, g, less)

  pub bits_all : (k : ℕ) → ((j : ℕ) → j < length ws → get_or ws j 0 ≤ b) → get_or ws k 0 ≤ b
  bits_all k within = grind (arith, within k, get_or_past)

pub ruleset bits_steps = (bits_more, bits_all, le_or_l)

pub ruleset get = (slice_get-map)
