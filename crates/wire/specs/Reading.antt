-- What a row of bytes is as a call, and where it ceases to be one. Assumes nothing.
use Rattle.std.specs.Prelude.{◌≡◌, ℕ, suc, ◌<◌, ◌≤◌, min, if◌then◌else◌, ◌||◌, List, [], ◌++◌, length, take, drop, Some, None, Option, ◌==◌, ◌≢◌, nat_lt, slice_index}
use Rattle.estate.specs.Calls.{Call, claims, proves, comes, shares, cents, garbled}
use Rattle.wire.specs.Bytes.{number_at}
use Rattle.wire.specs.Calls.{call_row, Sendable, extent, narrow, last_call}

-- the call of kind k, which is known, that these bytes are
abbrev pub call_at : ℕ → List ℕ → Call
call_at k bs =
    if k == 0 then claims (number_at bs 1)
    else (if k == 1 then proves (number_at bs 1) (number_at bs 9)
    else (if k == 2 then comes (number_at bs 1)
    else (if k == 3 then shares else cents)))

-- What bytes are, of which the first is k. The first byte that does not fit: of no bytes and of an unknown kind the first;
-- of a call that is too short the one after its last; of one that is too long the first too many.
abbrev pub read_as : ℕ → List ℕ → Call
read_as k bs =
    if length bs == 0 || nat_lt last_call k then garbled 0
    else (if nat_lt (length bs) (extent k) then garbled (length bs)
    else (if nat_lt (extent k) (length bs) then garbled (extent k)
    else call_at k bs))

abbrev pub read : List ℕ → Call
read bs = read_as (slice_index bs 0) bs

-- these bytes are those of a call of kind k
pub record Whole (k : ℕ) (bs : List ℕ) : Type 0 where
  pub first : slice_index bs 0 ≡ k
  pub known : k ≤ last_call
  pub long : length bs ≡ extent k

-- some call begins with these bytes
abbrev pub Begins : List ℕ → Type 0
Begins bs = (c : Call) × (rest : List ℕ) × Sendable c × (call_row c ≡ bs ++ rest)

-- Place p is that of the first byte that does not fit: some call begins with the bytes before it, and none with these and
-- the one at p; or there is no byte at p, and the bytes are no whole call.
pub record FirstMisfit (bs : List ℕ) (p : ℕ) : Type 0 where
  pub within : p ≤ length bs
  pub before : Begins (take p bs)
  pub with_it : p < length bs → Begins (take (suc p) bs) → ⊥
  pub at_end : p ≡ length bs → (c : Call) → Sendable c → call_row c ≢ bs

-- how many bytes the first of a row of calls takes: all, where it cannot be read
abbrev pub first_extent : List ℕ → ℕ
first_extent bs =
    if nat_lt last_call (slice_index bs 0) then length bs else min (extent (slice_index bs 0)) (length bs)

-- What reading the bytes bs as the call c says: it is what they are, up to the width of a place; where they are no call the
-- place is that of the first byte that does not fit; and of the bytes of a call it is that call.
pub record Heard (bs : List ℕ) (c : Call) : Type 0 where
  pub value : c ≡ narrow (read bs)
  pub first : (p : ℕ) → c ≡ garbled p → FirstMisfit bs p
  pub back : (k : Call) → Sendable k → call_row k ≡ bs → c ≡ narrow k

-- What taking the first call off the bytes bs says, where first are its bytes and rest those behind them: together they are
-- all; something is taken, if there is something; of the bytes of a call with others behind them these are taken, and those
-- are left; and behind a call that cannot be read none are left.
pub record Split (bs first rest : List ℕ) : Type 0 where
  pub taken : first ≡ take (first_extent bs) bs
  pub left : rest ≡ drop (first_extent bs) bs
  pub whole : bs ≡ first ++ rest
  pub shorter : 0 < length bs → length rest < length bs
  pub next : (k : Call) (behind : List ℕ) → Sendable k → bs ≡ call_row k ++ behind → (first ≡ call_row k) × (rest ≡ behind)
  pub unread : (p : ℕ) → read first ≡ garbled p → rest ≡ []

-- What taking a call off a row of them says, with rest behind it: none where no bytes are left, and else the first.
abbrev pub Takes : List ℕ → Option (List ℕ) → List ℕ → Type 0
Takes bs None rest = (bs ≡ []) × (rest ≡ [])
Takes bs (Some first) rest = (0 < length bs) × Split bs first rest
