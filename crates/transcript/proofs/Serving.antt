-- What the desk of a session does with a call, and what opening one leaves. Assumes nothing.
use Rattle.std.proofs.Common.{◌≡◌, ℕ, ◌≤◌, List, ◌++◌, length, take, drop, None, Ok, Err, Result, sym, refl, ap, ◌∙◌, subst, IsOk, arith, length-append}
use Rattle.std.proofs.lemmas.List.{take_at, length-take-le}
use Rattle.std.specs.Prelude.{slice_index}
use Rattle.estate.specs.Answers.{Answer}
use Rattle.estate.specs.Calls.{Call}
use Rattle.estate.specs.Changes.{after}
use Rattle.estate.specs.Estates.{new_estate}
use Rattle.estate.specs.Limits.{most_creditors, most_served}
use Rattle.estate.specs.Right.{answered}
use Rattle.wire.specs.Answers.{answer_row, Sendable, Received}
use Rattle.wire.specs.Meaning.{refusal, told}
use Rattle.wire.specs.declared.answers.Answer as answers
use Rattle.wire.specs.declared.refusals.TurnedAway.{TurnedAway}
use Rattle.wire.proofs.AnswerRows.{one_answer}
use Rattle.desk.specs.Memory.{layout, limits_for, words_asked, bytes_asked, limits_of, estate_of, rest_of, Allowed, Stands}
use Rattle.desk.specs.Opening.{Opened}
use Rattle.desk.specs.Calling.{Given, Served, Called}
use Rattle.desk.specs.Promises.{NewDesk}
use Rattle.desk.proofs.Words.{limits_read, estate_read}
use Rattle.desk.proofs.Promised.{stands, lent_enough, allowed_after, new_desk}
use Rattle.transcript.specs.Sessions.{served}

-- a call on a desk that stands, with enough bytes lent for its answer
module _ (c : Call) (m new out sent : List ℕ) (s : Stands m) (limit : slice_index m 0 ≡ most_served) (enough : bytes_asked most_served ≤ length out) where
  module _ (r : Result ℕ TurnedAway) (called : Called c m new out sent r) where
    answer_given : (a : Answer) × Given a out sent r × Served c m new a
    unfolding Called
    answer_given =
        let (a, g, p, e) = called in
        (a, g, p.served s (lent_enough m out s (rw limit enough)))

    given : Given (answered served (estate_of m) c) out sent r
    given =
        let (a, g, v) = answer_given in
        subst (λ (a : Answer). Given a out sent r) (rw limit at v.answer) g

    allowed_next : Allowed (limits_of m) (after (limits_of m) (estate_of m) c)
    allowed_next = allowed_after (limits_of m) (estate_of m) c s.allowed

    pub still_stands : Stands new
    still_stands =
        subst Stands (sym answer_given.2.memory) (stands (limits_of m) (after (limits_of m) (estate_of m) c) (rest_of m) allowed_next)

    pub same_limit : slice_index new 0 ≡ most_served
    unfolding Called
    same_limit = called.2.bounds.limit ∙ limit

    pub estate_after : estate_of new ≡ after served (estate_of m) c
    estate_after =
        let e = estate_read (slice_index m 0) (after (limits_of m) (estate_of m) c) (rest_of m) allowed_next.few in
        rw limit at (ap estate_of answer_given.2.memory ∙ e)

  -- a call that is turned away is answered by that refusal
  pub turned_away : (t : TurnedAway) → Called c m new out sent (Err t) → refusal t ≡ answered served (estate_of m) c
  turned_away t called = sym (given (Err t) called).0

  -- and another answer is written
  module _ (n : ℕ) (called : Called c m new out sent (Ok n)) where
    written_within : n ≤ length sent
    written_within =
        let w = (given (Ok n) called).0 in
        omega (arith, ap length w.holds, length-append {A = ℕ})

    pub written_long : n ≡ length (take n sent)
    written_long = sym (length-take-le n sent written_within)

    written_row : take n sent ≡ answer_row (answered served (estate_of m) c)
    written_row =
        let w = (given (Ok n) called).0 in
        rw w.holds (take_at (answer_row (answered served (estate_of m) c)) (drop n out) n (sym w.long))

    -- which is the one that is read
    pub read_back : {L : Type 0} (items : L → List ℕ) (a : answers.Answer L) → Sendable (told items a) → answer_row (told items a) ≡ take n sent → told items a ≡ answered served (estate_of m) c
    read_back items a s row = one_answer _ _ s (given (Ok n) called).1 (row ∙ written_row)

    pub never_unread : Received (take n sent) None → ⊥
    never_unread r = r (answered served (estate_of m) c) (given (Ok n) called).1 (sym written_row)

-- a desk that is opened for so many creditors, where there is enough memory
module _ (n : ℕ) (m new : List ℕ) (r : Result (Unit {0}) TurnedAway) (opened : Opened n m new r) (few : n ≤ most_creditors) (room : words_asked n ≤ length m) where
  laid_if : (r : Result (Unit {0}) TurnedAway) → Opened n m new r → IsOk r × (new ≡ layout (limits_for n) new_estate ++ drop (words_asked n) m)
  laid_if (Ok _) o = (refl, o.2)
  laid_if (Err t) o = absurd (omega arith)

  pub is_opened : IsOk r
  is_opened = (laid_if r opened).0

  laid : new ≡ layout (limits_for n) new_estate ++ drop (words_asked n) m
  laid = (laid_if r opened).1

  allowed : Allowed (limits_for n) new_estate
  unfolding NewDesk
  allowed = new_desk (limits_for n) few

  pub stands_opened : Stands new
  stands_opened = subst Stands (sym laid) (stands (limits_for n) new_estate (drop (words_asked n) m) allowed)

  pub limit_opened : slice_index new 0 ≡ n
  limit_opened = ap (λ l. l.creditors) (ap limits_of laid ∙ limits_read n new_estate (drop (words_asked n) m) allowed.few)

  pub estate_opened : estate_of new ≡ new_estate
  estate_opened = ap estate_of laid ∙ estate_read n new_estate (drop (words_asked n) m) allowed.few

pub ruleset openings = (is_opened, stands_opened, limit_opened, estate_opened, take_at)

pub ruleset replies = (still_stands, same_limit, estate_after, turned_away, written_long, read_back, never_unread, take_at)
