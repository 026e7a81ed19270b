-- Answers to rows of bytes and back. Assumes nothing.
use Rattle.std.proofs.Common.{◌≡◌, ℕ, ◌/◌, ◌%◌, List, length, get_or, Some, None, Ok, Err, Result, sym, refl, ap, ◌∙◌, arith}
use Rattle.std.specs.List.{between}
use Rattle.std.proofs.lemmas.Slice.{first_rest}
use Rattle.std.proofs.lemmas.List.{places}
use Rattle.estate.specs.Answers.{Answer}
use Rattle.wire.specs.declared.answers.Answer as answers
use Rattle.wire.specs.declared.answers.DecodeError.{DecodeError}
use Rattle.wire.specs.declared.answers.DecodeError.TheVariants.{NoAnswer, OutOfMemory}
use Rattle.wire.specs.Bytes.{Bytes, numbers, row}
use Rattle.wire.specs.Answers.{kind, fields}
use Rattle.wire.specs.Meaning.{IsDecoded, IsShaped}
use Rattle.wire.specs.Laws.{OneAnswer, AnswerBack}
use Rattle.wire.proofs.Bytes.{bytes_take, bytes_drop, rows, row_numbers, row_back}

same_answer : (a b : Answer) → kind a ≡ kind b → fields a ≡ fields b → a ≡ b
same_answer a b k f = grind arith

pub one_answer : OneAnswer
unfolding row
one_answer a b ha hb same =
    let one = row_numbers (kind a) (fields a) _ _ same ha.fitting in
    let two = row_numbers (kind b) (fields b) _ _ refl hb.fitting in
    same_answer a b (cc) (one ∙ sym two)

module _ {L : Type 0} (items : L → List ℕ) (bs ns : List ℕ) (whole : length bs % 8 ≡ 1) (h : Bytes bs) where
  abbrev rest : List ℕ
  rest = between 1 (length bs) bs

  pub decoded : (r : Result (answers.Answer L) DecodeError) → ns ≡ numbers (length rest / 8) rest → IsShaped items (get_or bs 0 0) ns r → IsDecoded items bs r
  decoded (Ok a) e g =
      let back = row_back _ _ _ rest g.1 (g.2 ∙ e) (grind (arith, places)) (bytes_take _ _ (bytes_drop 1 bs h)) in
      (record { listed = g.0; fitting = back.0 }, back.1 ∙ sym (first_rest bs 0 (omega arith)))
  decoded (Err NoAnswer) e g = λ a s same.
      let parts = same ∙ first_rest bs 0 (omega arith) in
      g a s.listed (grind (arith, rows)) (row_numbers _ _ _ _ parts s.fitting ∙ sym e)
  decoded (Err OutOfMemory) e g = tt

pub answer_back : AnswerBack
answer_back a None s h = absurd (h a s refl)
answer_back a (Some b) s h = ap Some (one_answer b a h.0 s h.1)

-- what `Answer::decode` rests on, and the theorems that it carries
pub ruleset decoding = (one_answer, answer_back, decoded, rows)
