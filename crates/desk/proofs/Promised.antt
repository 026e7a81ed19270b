-- Desks that do as the contracts say keep the promises, and the desk of the definitions is one. Assumes nothing.
use Rattle.std.proofs.Common.{◌≡◌, ◌≢◌, ℕ, ◌<◌, ◌≤◌, Bool, true, false, ◌==◌, List, [], ◌∷◌, ◌++◌, length, drop, replicate, Ok, Err, Result, refl, sym, ap, ◌∙◌, subst, arith}
use Rattle.std.proofs.lemmas.Bool.{false≢true}
use Rattle.std.proofs.lemmas.Bool.Decides.{nat_tests}
use Rattle.std.proofs.lemmas.List.Elements.{All-append, All-set}
use Rattle.std.proofs.lemmas.List.{places, take_at, length-replicate, length_push, length-set}
use Rattle.std.specs.Prelude.{if◌then◌else◌, slice_index}
use Rattle.estate.specs.Answers.{Answer}
use Rattle.estate.specs.Calls.{Call, claims, proves, comes, shares, cents, garbled}
use Rattle.estate.specs.Changes.{changed, after, ran}
use Rattle.estate.specs.Desks.{Memory, Desk, all_said, left_by}
use Rattle.estate.specs.Estates.{Estate, new_estate}
use Rattle.estate.specs.Limits.{Limits, most_cents}
use Rattle.estate.specs.Refusals.{unreadable, too_large, turned}
use Rattle.estate.specs.Right.{IsRight, AllRight, answered}
use Rattle.estate.proofs.RightAnswers.{answered_right}
use Rattle.wire.specs.declared.refusals.TurnedAway.{TurnedAway}
use Rattle.wire.specs.Answers.{answer_row}
use Rattle.wire.proofs.AnswerRows.{one_answer}
use Rattle.desk.specs.Memory.{layout, bytes_asked, limits_of, estate_of, rest_of, Allowed, Stands, Lent}
use Rattle.desk.specs.Calling.{Given, Served, Called, turned_alone}
use Rattle.desk.specs.Promises.{Obeys, DesksRight, RefusalsKeep, RefusedAlone, OneEstate, NewDesk, StaysDesk}
use Rattle.desk.proofs.Checking.{answered_alone}
use Rattle.desk.proofs.Words.{count_read, long_enough, limits_read, estate_read, rest_read}

-- a desk stands where it was laid
module _ (l : Limits) (e : Estate) (rest : List ℕ) (f : Allowed l e) where
  reads : (limits_of (layout l e ++ rest) ≡ l) × (estate_of (layout l e ++ rest) ≡ e) × (rest_of (layout l e ++ rest) ≡ rest)
  reads = (limits_read l.creditors e rest f.few, estate_read l.creditors e rest f.few, rest_read l.creditors e rest f.few)

  pub stands : Stands (layout l e ++ rest)
  stands = let (n, t, r) = reads in record { allowed = rw (n, t) f; laid = rw (n, t, r) refl }

-- a call that is not turned away leaves an estate within the limits
allowed_changed : (l : Limits) (e : Estate) (c : Call) → (turned l e c == 0) ≡ true → Allowed l e → Allowed l (changed e c)
allowed_changed l e (claims c) t f =
    let fits : (c ≤ most_cents) × (length e.claimed < l.creditors) = (grind (arith, nat_tests), grind (arith, nat_tests)) in
    let long = length_push e.claimed c in
    record {
      limit = f.limit;
      few = omega (arith, fits.1);
      within = record { few = omega (arith, fits.1, f.limit); each = All-append (λ k. k ≤ most_cents) e.claimed (c ∷ []) f.within.each (λ j d h. grind (arith, places, fits.0)); there = f.within.there };
    }
allowed_changed l e (proves i c) t f =
    let fits : c ≤ most_cents = grind (arith, nat_tests) in
    let long = length-set e.claimed i c in
    record {
      limit = f.limit;
      few = omega (arith, f.few);
      within = record { few = omega (arith, f.within.few); each = All-set (λ k. k ≤ most_cents) e.claimed i c fits f.within.each; there = f.within.there };
    }
allowed_changed l e (comes x) t f = record {
  limit = f.limit;
  few = f.few;
  within = record { few = f.within.few; each = f.within.each; there = grind (arith, nat_tests) };
}
allowed_changed l e shares t f = f
allowed_changed l e cents t f = f
allowed_changed l e (garbled n) t f = f

allowed_if : (l : Limits) (e : Estate) (c : Call) (b : Bool) → (turned l e c == 0) ≡ b → Allowed l e → Allowed l (if b then changed e c else e)
allowed_if l e c true t f = allowed_changed l e c t f
allowed_if l e c false t f = f

pub allowed_after : (l : Limits) (e : Estate) (c : Call) → Allowed l e → Allowed l (after l e c)
allowed_after l e c f = allowed_if l e c _ refl f

-- in given bytes there is one answer
one_given : (a b : Answer) (out sent : List ℕ) (r : Result ℕ TurnedAway) → Given a out sent r → Given b out sent r → a ≡ b
one_given a b out sent (Err t) g h = g.0 ∙ sym h.0
one_given a b out sent (Ok n) g h =
    let one = take_at (answer_row a) (drop n out) n (sym g.0.long) in
    let two = take_at (answer_row b) (drop n out) n (sym h.0.long) in
    let same = g.0.holds in
    let also = h.0.holds in
    one_answer a b g.1 h.1 (cc)

-- enough bytes for an answer
abbrev zeros : Memory → List ℕ
zeros m = replicate (bytes_asked (limits_of m.words).creditors) 0

-- a desk that stands asks for no more than its memory
pub lent_enough : (m out : List ℕ) → Stands m → bytes_asked (limits_of m).creditors ≤ length out → Lent m out
lent_enough m out s enough =
    let l = s.laid in
    let c = count_read (limits_of m).creditors (estate_of m) (rest_of m) s.allowed.few in
    let count : slice_index m 2 ≡ length (estate_of m).claimed = ap (λ ws. slice_index ws 2) s.laid ∙ c in
    let long = ap length s.laid in
    record {
      headed = record {
        limit = s.allowed.limit;
        there = s.allowed.within.there;
        few = omega (arith, count, s.allowed.few);
        words = omega (arith, long, long_enough (limits_of m).creditors (estate_of m) (rest_of m) s.allowed.few);
      };
      bytes = enough;
    }

-- a call that is turned away leaves the estate
after-turned : (l : Limits) (e : Estate) (c : Call) → 0 < turned l e c → after l e c ≡ e
after-turned l e c h = let t : (turned l e c == 0) ≡ false = grind (arith, nat_tests) in rw t refl

module _ (k : Desk) (o : Obeys k) where
  -- one call
  served : (m : Memory) (c : Call) → Stands m.words → Served c m.words (k.next m c).words (k.says m c)
  unfolding Called
  served m c s =
      let lent = lent_enough m.words (zeros m) s (omega (arith, length-replicate {A = ℕ} (bytes_asked (limits_of m.words).creditors) 0)) in
      let (sent, r, called, given) = o.calls m c (zeros m) s lent in
      subst (Served c m.words (k.next m c).words) (one_given called.0 (k.says m c) (zeros m) sent r called.1 given) (called.2.served s lent)

  -- of a desk with these limits and this estate
  module _ (l : Limits) (rest : List ℕ) where
    goes_on : (e : Estate) (m : Memory) (c : Call) → Allowed l e → m.words ≡ layout l e ++ rest → ((k.next m c).words ≡ layout l (after l e c) ++ rest) × (k.says m c ≡ answered l e c)
    goes_on e m c f w =
        let v = served m c (subst Stands (sym w) (stands l e rest f)) in
        let (n, t, r) = reads l e rest f in
        rw (sym (ap limits_of w ∙ n), sym (ap estate_of w ∙ t), sym (ap rest_of w ∙ r)) (v.memory, v.answer)

    all_served : (e : Estate) (m : Memory) (cs : List Call) → Allowed l e → m.words ≡ layout l e ++ rest → AllRight l e cs (all_said k m cs)
    unfolding AllRight all_said
    all_served e m [] f w = tt
    all_served e m (c ∷ cs) f w =
        let g = goes_on e m c f w in
        (subst (IsRight l e c) (sym g.1) (answered_right l e c), all_served (after l e c) (k.next m c) cs (allowed_after l e c f) g.0)

    left : (e : Estate) (m : Memory) (cs : List Call) → Allowed l e → m.words ≡ layout l e ++ rest → Allowed l (ran l e cs) × ((left_by k m cs).words ≡ layout l (ran l e cs) ++ rest)
    unfolding ran left_by
    left e m [] f w = (f, w)
    left e m (c ∷ cs) f w = left (after l e c) (k.next m c) cs (allowed_after l e c f) (goes_on e m c f w).0

pub new_desk : NewDesk
unfolding NewDesk
new_desk l few =
    record { limit = few; few = omega arith; within = record { few = omega arith; each = λ j d h. omega (arith, h); there = omega arith } }

pub desks_right : DesksRight
unfolding NewDesk
desks_right k o l cs few =
    let (m, opened) = o.opens l few in
    all_served k o l _ new_estate (k.opened l) cs (new_desk l few) opened.2

pub refusals_keep : RefusalsKeep
unfolding NewDesk
refusals_keep k o l cs c few turned =
    let (m, opened) = o.opens l few in
    let (f, w) = left k o l _ new_estate (k.opened l) cs (new_desk l few) opened.2 in
    let g = goes_on k o l _ (ran l new_estate cs) (left_by k (k.opened l) cs) c f w in
    let same = after-turned l (ran l new_estate cs) c turned in
    ap (λ ws. record { words = ws }) (rw same at g.0 ∙ sym w)

-- where nothing turns a call away by itself, no estate does for its bytes or its size
let_pass : (l : Limits) (e : Estate) (c : Call) → (turned_alone c == 0) ≡ true → (turned l e c ≢ unreadable) × (turned l e c ≢ too_large)
let_pass l e (claims c) t = grind (arith, nat_tests)
let_pass l e (proves i c) t = grind (arith, nat_tests)
let_pass l e (comes x) t = grind (arith, nat_tests)
let_pass l e shares t = grind (arith, nat_tests)
let_pass l e cents t = grind (arith, nat_tests)
let_pass l e (garbled n) t = absurd (false≢true t)

pub refused_alone : RefusedAlone
unfolding RefusedAlone
refused_alone l e c = (answered_alone l e c, let_pass l e c)

pub one_estate : OneEstate
one_estate l k e f rest more allowed also same =
    let (n, t, r) = reads l e rest allowed in
    let (m, u, s) = reads k f more also in
    (sym n ∙ ap limits_of same ∙ m, sym t ∙ ap estate_of same ∙ u, sym r ∙ ap rest_of same ∙ s)

pub stays_desk : StaysDesk
unfolding StaysDesk
stays_desk l e rest f = (stands l e rest f, λ c. allowed_after l e c f)

pub ruleset desks = (one_estate, new_desk, stays_desk)
