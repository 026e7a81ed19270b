-- What a line is as numbers, and as shares. Assumes nothing.
use Rattle.std.specs.Prelude.{◌≡◌, ℕ, ◌+◌, ◌-◌, ◌*◌, ◌^◌, Bool, ◌&&◌, ◌||◌, if◌then◌else◌, List, [], ◌∷◌, ◌++◌, drop, Some, None, Ok, Err, Option, Result, is_some, unwrap_or, nat_lt, nat_le, ◌==◌}
use Rattle.text.specs.declared.reading.ShareLine.{ShareLine}
use Rattle.text.specs.declared.reading.ReadError.{ReadError}
use Rattle.text.specs.declared.reading.ReadError.TheVariants.{Misfit, OutOfMemory}

-- a space, a tab, or the return that ends a line before its feed
abbrev pub is_blank : ℕ → Bool
is_blank b = b == 32 || b == 9 || b == 13

-- a number with one more digit, and whether the byte is one, and a word holds the number
abbrev pub grown : ℕ → ℕ → ℕ
grown n b = 10 * n + (b - 48)

abbrev pub grows : ℕ → ℕ → Bool
grows n b = nat_le 48 b && nat_le b 57 && nat_lt (grown n b) (2 ^ 64)

-- the number whose digits are being read, so far
abbrev pub so_far : Option ℕ → ℕ
so_far begun = unwrap_or begun 0

-- the whole numbers, with the one whose digits were being read
abbrev pub closed : List ℕ → Option ℕ → List ℕ
closed ns None = ns
closed ns (Some n) = ns ++ (n ∷ [])

-- What is read: or else the place of the first byte that does not fit.
abbrev pub Reading : Type 0 → Type 0
Reading A = Result A ℕ

-- Numbers with blanks before, between and behind them, from a place on, behind those that are whole and one that is begun.
unfoldable pub numbers_from : ℕ → List ℕ → Option ℕ → List ℕ → Reading (List ℕ)
numbers_from at ns begun [] = Ok (closed ns begun)
numbers_from at ns begun (b ∷ bs) =
    if is_blank b then numbers_from (at + 1) (closed ns begun) None bs
    else (if grows (so_far begun) b then numbers_from (at + 1) ns (Some (grown (so_far begun) b)) bs
    else Err at)

abbrev pub numbers_of : List ℕ → Reading (List ℕ)
numbers_of line = numbers_from 0 [] None line

-- with the parts of a cent that they are in
abbrev pub with_parts : ℕ → Reading (List ℕ) → Reading (ℕ × List ℕ)
with_parts d (Ok xs) = Ok (d, xs)
with_parts d (Err p) = Err p

-- The head of a line of shares, `d 6:`: the letter d, a space, and digits. What a byte makes of the number at a place, and
-- whether it fits there.
abbrev pub headed : ℕ → Option ℕ → ℕ → Option ℕ
headed at begun b = if nat_lt at 2 then begun else Some (grown (so_far begun) b)

abbrev pub heads : ℕ → Option ℕ → ℕ → Bool
heads at begun b = if at == 0 then b == 100 else (if at == 1 then b == 32 else grows (so_far begun) b)

-- The line, from a place in its head on: behind the colon are the shares.
unfoldable pub shares_from : ℕ → Option ℕ → List ℕ → Reading (ℕ × List ℕ)
shares_from at begun [] = Err at
shares_from at begun (b ∷ bs) =
    if b == 58 && is_some begun then with_parts (so_far begun) (numbers_from (at + 1) [] None bs)
    else (if heads at begun b then shares_from (at + 1) (headed at begun b) bs
    else Err at)

abbrev pub shares_of : List ℕ → Reading (ℕ × List ℕ)
shares_of line = shares_from 0 None line

abbrev pub in_parts : ShareLine → ℕ × List ℕ
in_parts v = (v.parts, v.shares.items)

-- What reading gives, where that is what is read: a value that means it, or the same place; or memory is wanting.
abbrev pub IsRead : {A V : Type 0} → (V → A) → Reading A → Result V ReadError → Type 0
IsRead means r (Ok v) = r ≡ Ok (means v)
IsRead means r (Err (Misfit p)) = r ≡ Err p
IsRead means r (Err OutOfMemory) = Unit {0}

-- What reading the head of a line gives: the parts of a cent, and the place from which on the shares are read; or where the
-- line ceases to be one of shares.
abbrev pub IsHead : List ℕ → Result (ℕ × ℕ) ReadError → Type 0
IsHead line (Ok h) =
    shares_of line ≡ with_parts h.0 (numbers_from h.1 [] None (drop h.1 line))
IsHead line (Err (Misfit p)) = shares_of line ≡ Err p
IsHead line (Err OutOfMemory) = ⊥
