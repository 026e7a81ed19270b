-- Of three rows that may hold anything, the claims as they came, after one more and after a change. Assumes nothing.
use Rattle.std.proofs.Common.{◌≡◌, ℕ, ◌+◌, ◌*◌, ◌<◌, ◌≤◌, List, [], ◌∷◌, ◌++◌, length, take, drop, slice_set, length-append, length-drop, sym, ap, ◌∙◌, arith}
use Rattle.std.proofs.lemmas.List.{length-set, length-take-le, take-take, take-append-le}
use Rattle.register.specs.Rows.{middle}
use Rattle.register.proofs.Came.{came_added, came_changed}
use Rattle.sums.specs.Ledger.{room, register, resummed, Entered, Amended}
use Rattle.sums.proofs.Written.{renewed_long}

-- the register takes two of the three rows
pub two_long : (ws : List ℕ) → length (register ws) ≡ 2 * room ws
two_long ws = length-take-le _ ws (omega arith)

pub halves : (ws : List ℕ) → middle (register ws) ≡ room ws
halves ws = let long = two_long ws in omega arith

-- rows of which n claims were in the register, with another register and other sums
module _ (n a : ℕ) (ws front : List ℕ) (long : length front ≡ length (register ws)) (few : n ≤ room ws) where
  resummed_long : length (resummed n a ws front) ≡ length ws
  resummed_long =
      let two = two_long ws in
      let claims : length (take n (drop (room ws) front)) ≡ n = length-take-le n _ (omega (arith, length-drop (room ws) front)) in
      let words : length (take n (drop (2 * room ws) ws)) ≡ n = length-take-le n _ (omega (arith, length-drop (2 * room ws) ws)) in
      omega (arith, length-append {A = ℕ}, renewed_long a _ _ (words ∙ sym claims), length-drop n (drop (2 * room ws) ws), length-drop (2 * room ws) ws)

  resummed_front : (k : ℕ) → k ≤ n → take k (resummed n a ws front) ≡ take k front
  resummed_front k l = take-append-le k front _ (omega (arith, long, two_long ws))

module _ (n c : ℕ) (ws new : List ℕ) where
  module _ (at : ℕ) (e : Entered n c at ws new) where
    front_added : length e.front ≡ length (register ws)
    front_added = e.added.inserted.carried.long ∙ length-set (register ws) n c

    pub entered_long : (n < room ws) × (length new ≡ length ws)
    entered_long =
        let few : n < room ws = omega (arith, halves ws, e.added.room) in
        (few, ap length e.words ∙ resummed_long (n + 1) _ ws e.front front_added (omega arith))

    pub entered_came : take (n + 1) new ≡ take n ws ++ c ∷ []
    entered_came =
        let few = entered_long.0 in
        ap (take (n + 1)) e.words
        ∙ resummed_front (n + 1) _ ws e.front front_added (omega arith) (n + 1) (omega arith)
        ∙ came_added n c at (register ws) e.front e.added
        ∙ ap (λ cs. cs ++ c ∷ []) (take-take n (2 * room ws) ws (omega arith))

  module _ (i from to : ℕ) (e : Amended n i c from to ws new) where
    front_changed : length e.front ≡ length (register ws)
    front_changed = e.changed.replaced.carried.long ∙ length-set (register ws) i c

    pub amended_long : (i < n) × (n ≤ room ws) × (length new ≡ length ws)
    amended_long =
        let few : n ≤ room ws = omega (arith, halves ws, e.changed.room) in
        (e.changed.there, few, ap length e.words ∙ resummed_long n _ ws e.front front_changed few)

    pub amended_came : take n new ≡ slice_set (take n ws) i c
    amended_came =
        let few = amended_long.1 in
        ap (take n) e.words
        ∙ resummed_front n _ ws e.front front_changed few n (omega arith)
        ∙ came_changed n i c from to (register ws) e.front e.changed
        ∙ ap (λ cs. slice_set cs i c) (take-take n (2 * room ws) ws (omega arith))
