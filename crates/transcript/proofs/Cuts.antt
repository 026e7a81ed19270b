-- How a file is cut into calls. Assumes nothing.
use Rattle.std.proofs.Common.{◌≡◌, ℕ, suc, ◌<◌, ◌≤◌, List, [], ◌∷◌, ◌++◌, length, take, drop, sym, refl, ap, ◌∙◌, subst, arith, append_assoc, take-append-drop}
use mathlib.Core.Logic.{inl, inr}
use Rattle.std.proofs.lemmas.Bool.{cases_lt}
use Rattle.std.proofs.lemmas.Bool.Decides.{nat_tests}
use Rattle.std.proofs.lemmas.List.{places, take_all, length-take-le}
use Rattle.std.proofs.lemmas.List.Elements.{All-cons, All-nil}
use Rattle.std.proofs.Math.ListN.{drop_of_length-le}
use Rattle.std.specs.Prelude.{slice_index}
use Rattle.std.specs.List.{flat_map}
use Rattle.estate.specs.Calls.{Call, garbled}
use Rattle.wire.specs.Bytes.{Bytes}
use Rattle.wire.specs.Calls.{call_row, Sendable, extent, last_call}
use Rattle.wire.specs.Reading.{call_at, read, Whole, first_extent}
use Rattle.wire.proofs.Bytes.{bytes_take, bytes_drop}
use Rattle.wire.proofs.CallRows.{length-call_row, read_row, row_read}
use Rattle.wire.proofs.Misfits.{split_by}
use Rattle.transcript.specs.Cutting.{Holds, Unread}
use Rattle.transcript.specs.Cutting.Unread.{unknown, cut_short}
use Rattle.transcript.specs.Laws.{CallsHeld, UnreadHeld, IsCut, Cut}

-- bytes hold one row of calls
pub held_once : (bs : List ℕ) (cs ks : List Call) → Holds bs cs → Holds bs ks → cs ≡ ks
unfolding Holds
held_once bs [] [] h g = refl
held_once bs [] (k ∷ ks) h g = absurd (omega (arith, ap length h, g.0))
held_once bs (c ∷ cs) [] h g = absurd (omega (arith, ap length g, h.0))
held_once bs (c ∷ cs) (k ∷ ks) h g =
    let first = h.1 ∙ sym g.1 in
    let others = held_once (drop (first_extent bs) bs) cs ks h.2 g.2 in
    cc

-- with a call that was written in front of them
held_behind : (c : Call) (bs behind : List ℕ) (cs : List Call) → Sendable c → bs ≡ call_row c ++ behind → Holds behind cs → Holds bs (c ∷ cs)
unfolding Holds
held_behind c bs behind cs s is h =
    let parts = (split_by bs _ _ refl refl).next c behind s is in
    let long = length-call_row c in
    (grind (arith, nat_tests, places), cc (read_row c s, parts.0), subst (λ (ws : List ℕ). Holds ws cs) (sym parts.1) h)

pub calls_held : CallsHeld
calls_held [] ks rest s h = h
calls_held (c ∷ cs) ks rest s h =
    held_behind c _ (flat_map call_row cs ++ rest) (cs ++ ks) (s 0 c (omega arith)) (append_assoc (call_row c) (flat_map call_row cs) rest) (calls_held cs ks rest (λ k d less. s (suc k) d (omega arith)) h)

-- what cannot be read takes all bytes
unread_whole : (bs : List ℕ) (p : ℕ) → Unread bs p → (0 < length bs) × (first_extent bs ≡ length bs) × (read bs ≡ garbled p)
unread_whole bs p (unknown some known) = (some, grind (arith, nat_tests), grind (arith, nat_tests))
unread_whole bs p (cut_short some known short) = (some, grind (arith, nat_tests), grind (arith, nat_tests))

pub unread_held : UnreadHeld
unfolding Holds
unread_held rest p u =
    let (some, extent, is) = unread_whole rest p u in
    (some, sym (ap read (take_all (first_extent rest) rest (omega (arith, extent))) ∙ is), drop_of_length-le rest (omega (arith, extent)))

-- a file that begins with what cannot be read
cut_unread : (bs : List ℕ) (p : ℕ) (cs : List Call) → Unread bs p → Holds bs cs → IsCut bs cs
cut_unread bs p cs u h = record {
  calls = [];
  rest = bs;
  sendable = All-nil Sendable;
  bytes = refl;
  held = inr (p, u, held_once bs cs (garbled p ∷ []) h (unread_held bs p u));
}

-- or with a call
cut_call : (bs : List ℕ) (c : Call) (cs : List Call) → Bytes bs → slice_index bs 0 ≤ last_call → extent (slice_index bs 0) ≤ length bs → c ≡ read (take (first_extent bs) bs) → IsCut (drop (first_extent bs) bs) cs → IsCut bs (c ∷ cs)
cut_call bs c cs b known long is t =
    let k : ℕ = slice_index bs 0 in
    let first : List ℕ = take (first_extent bs) bs in
    let same : first_extent bs ≡ extent k = grind (arith, nat_tests) in
    let w : Whole k first = record { first = rw same (grind (arith, nat_tests, places)); known = known; long = rw same (length-take-le _ bs long) } in
    let (s, row) = row_read k first w (bytes_take (first_extent bs) bs b) in
    let call : c ≡ call_at k first = is ∙ ap read (sym row) ∙ read_row (call_at k first) s in
    record {
      calls = c ∷ t.calls;
      rest = t.rest;
      sendable = All-cons Sendable c t.calls (rw call s) t.sendable;
      bytes = cc (take-append-drop (first_extent bs) bs, append_assoc (call_row c) (flat_map call_row t.calls) t.rest);
      held = elim t.held [ inl e ↦ inl (e.0, ap (λ ks. c ∷ ks) e.1) | inr e ↦ inr (e.0, e.1, ap (λ ks. c ∷ ks) e.2) ];
    }

pub is_cut : Cut
unfolding Holds
is_cut bs [] b h = record { calls = []; rest = []; sendable = All-nil Sendable; bytes = h; held = inl (refl, refl) }
is_cut bs (c ∷ cs) b h =
    elim (cases_lt last_call (slice_index bs 0)) [
      | inl unknown_kind ↦ cut_unread bs 0 (c ∷ cs) (unknown h.0 unknown_kind) h
      | inr known ↦ elim (cases_lt (length bs) (extent (slice_index bs 0))) [
        | inl short ↦ cut_unread bs (length bs) (c ∷ cs) (cut_short h.0 known short) h
        | inr long ↦ cut_call bs c cs b known long h.1 (is_cut (drop (first_extent bs) bs) cs (bytes_drop (first_extent bs) bs b) h.2)
      ]
    ]
