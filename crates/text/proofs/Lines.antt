-- A line is read byte by byte. Assumes nothing.
use Rattle.std.proofs.Common.{◌≡◌, ℕ, ◌+◌, ◌<◌, ◌≤◌, List, [], length, drop, Some, None, Ok, Err, Option, refl}
use Rattle.std.proofs.lemmas.List.{at_drop_more, drop_all}
use Rattle.std.specs.Prelude.{if◌then◌else◌, slice_index, is_some, ◌&&◌, ◌==◌}
use Rattle.text.specs.Read.{is_blank, grown, grows, so_far, closed, with_parts, headed, heads, numbers_from, shares_from}

-- the byte at a place, and those behind it
pub numbers_next : (at : ℕ) (ns : List ℕ) (begun : Option ℕ) (line : List ℕ) → at < length line → numbers_from at ns begun (drop at line) ≡ (if is_blank (slice_index line at) then numbers_from (at + 1) (closed ns begun) None (drop (at + 1) line) else (if grows (so_far begun) (slice_index line at) then numbers_from (at + 1) ns (Some (grown (so_far begun) (slice_index line at))) (drop (at + 1) line) else Err at))
unfolding numbers_from
numbers_next at ns begun line less = at_drop_more (numbers_from at ns begun) line at 0 less

pub head_next : (at : ℕ) (begun : Option ℕ) (line : List ℕ) → at < length line → shares_from at begun (drop at line) ≡ (if slice_index line at == 58 && is_some begun then with_parts (so_far begun) (numbers_from (at + 1) [] None (drop (at + 1) line)) else (if heads at begun (slice_index line at) then shares_from (at + 1) (headed at begun (slice_index line at)) (drop (at + 1) line) else Err at))
unfolding shares_from
head_next at begun line less = at_drop_more (shares_from at begun) line at 0 less

pub numbers_end : (at : ℕ) (ns : List ℕ) (begun : Option ℕ) (line : List ℕ) → length line ≤ at → numbers_from at ns begun (drop at line) ≡ Ok (closed ns begun)
unfolding numbers_from
numbers_end at ns begun line more = rw (drop_all at line more) refl

pub head_end : (at : ℕ) (begun : Option ℕ) (line : List ℕ) → length line ≤ at → shares_from at begun (drop at line) ≡ Err at
unfolding shares_from
head_end at begun line more = rw (drop_all at line more) refl
