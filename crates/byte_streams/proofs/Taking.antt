-- The lines that end in a piece, answered one after another.
use Rattle.std.proofs.Common.{◌≡◌, ℕ, ◌+◌, List, [], ◌∷◌, ◌++◌, true, Option, Some, Ok, Err, length, sym, ap, ◌∙◌, arith, append_assoc, append-nil, length-append, subst}
use Rattle.std.specs.Io.KnownBytes.{Appends}
use Rattle.std.proofs.KnownBytes.{Appends-trans}
use Rattle.text_lines.specs.Cuts.{HasNone, IsCutAt}
use Rattle.byte_streams.specs.Holding.{joined, held_line, ended, held_after}
use Rattle.byte_streams.specs.Lent.{SinkState, WroteOne}
use Rattle.byte_streams.specs.Answering.{AnswerAll, AreAnswered, AreCutOff}
use Rattle.byte_streams.proofs.Held.{ended-first, held_after-first, ended-none, held_after-none}
use Rattle.byte_streams.proofs.AnsweredLines.{AnswerAll-append, AnswerAll-one, cut_behind, cut_one}

-- of a piece some lines were answered and no write failed; these bytes are left of it
pub record Taking {S : Type 0} (answers : S → ℕ → Option (List ℕ) → List ℕ → S → Type 0) (start : S) (lines : ℕ) (held : Option (List ℕ)) (piece : List ℕ)
    (now : S) (lines_now : ℕ) (held_now : Option (List ℕ)) (left : List ℕ) (before after : SinkState) : Type 0 where
  pub done : List (Option (List ℕ))
  pub text : List ℕ
  pub split : ended held piece ≡ done ++ ended held_now left
  pub same : held_after held piece ≡ held_after held_now left
  pub are_answers : AnswerAll answers start (lines + 1) done text now
  pub written : Appends before.written after.written text
  pub unfailed : after.failed ≡ before.failed
  pub lines_are : lines_now ≡ lines + length done

-- ---- one more line

module _ {S : Type 0} (answers : S → ℕ → Option (List ℕ) → List ℕ → S → Type 0) (start : S) (lines : ℕ) (held : Option (List ℕ)) (piece : List ℕ)
    (now : S) (lines_now : ℕ) (held_now : Option (List ℕ)) (left line more : List ℕ) (before middle after : SinkState)
    (so_far : Taking answers start lines held piece now lines_now held_now left before middle) (cut : IsCutAt 10 left line more) where
  abbrev the_line : Option (List ℕ)
  the_line = held_line (joined held_now line)

  first_line : ended held_now left ≡ the_line ∷ ended (Some []) more
  first_line = ap (ended held_now) cut.split ∙ ended-first line more held_now cut.before

  split_more : ended held piece ≡ (so_far.done ++ the_line ∷ []) ++ ended (Some []) more
  split_more = so_far.split ∙ ap (λ l. so_far.done ++ l) first_line ∙ sym (append_assoc so_far.done (the_line ∷ []) (ended (Some []) more))

  answers_more : (text : List ℕ) (end : S) → answers now (lines_now + 1) the_line text end → AnswerAll answers start (lines + 1) (so_far.done ++ the_line ∷ []) (so_far.text ++ text) end
  answers_more text end is_answer =
      let lines_are = so_far.lines_are in
      AnswerAll-append answers so_far.done (the_line ∷ []) start now end (lines + 1) (lines_now + 1) so_far.text text so_far.are_answers (omega arith)
      (AnswerAll-one answers now end (lines_now + 1) the_line text is_answer)

  pub Taking-line : {T E : Type 0} (end : S) (held_then : Option (List ℕ)) (x : T) → WroteOne {T = T} {E = E} (λ text. answers now (lines_now + 1) the_line text end) (Ok x) middle after
      → held_then ≡ Some [] → Taking answers start lines held piece end (lines_now + 1) held_then more before after
  Taking-line end held_then x was cleared = record {
    done = so_far.done ++ the_line ∷ [];
    text = so_far.text ++ was.text;
    split = split_more ∙ ap (λ h. (so_far.done ++ the_line ∷ []) ++ ended h more) (sym cleared);
    same = so_far.same ∙ ap (held_after held_now) cut.split ∙ held_after-first line more held_now cut.before ∙ ap (λ h. held_after h more) (sym cleared);
    are_answers = answers_more was.text end was.is_text;
    written = Appends-trans before.written middle.written after.written so_far.text was.text so_far.written was.wrote;
    unfailed = was.unfailed ∙ so_far.unfailed;
    lines_are = let lines_are = so_far.lines_are in omega (arith, length-append so_far.done (the_line ∷ []));
  }

  pub Taking-failed : {T E : Type 0} (end : S) (e : E) → WroteOne {T = T} {E = E} (λ text. answers now (lines_now + 1) the_line text end) (Err e) middle after
      → (after.failed ≡ true) × AreCutOff answers start (lines + 1) (ended held piece) end before.written after.written
  Taking-failed end e was =
      let lines_are = so_far.lines_are in
      let whole : ended held piece ≡ so_far.done ++ the_line ∷ ended (Some []) more = so_far.split ∙ ap (λ l. so_far.done ++ l) first_line in (
        was.wrote.0,
        subst (λ l. AreCutOff answers start (lines + 1) l end before.written after.written) (sym whole)
            (cut_behind answers so_far.done (the_line ∷ ended (Some []) more) start now end (lines + 1) (lines_now + 1) so_far.text before.written middle.written after.written so_far.are_answers (omega arith) so_far.written
            (cut_one answers now end (lines_now + 1) the_line (ended (Some []) more) was.text middle.written after.written was.is_text was.wrote.1)),
      )

-- ---- no more line

module _ {S : Type 0} (answers : S → ℕ → Option (List ℕ) → List ℕ → S → Type 0) (start : S) (lines : ℕ) (held : Option (List ℕ)) (piece : List ℕ)
    (now : S) (lines_now : ℕ) (held_now : Option (List ℕ)) (left : List ℕ) (before after : SinkState)
    (so_far : Taking answers start lines held piece now lines_now held_now left before after) (no_end : HasNone 10 left) where
  all_done : ended held piece ≡ so_far.done
  all_done = so_far.split ∙ ap (λ l. so_far.done ++ l) (ended-none left held_now no_end) ∙ append-nil so_far.done

  pub Taking-answered : AreAnswered answers start (lines + 1) (ended held piece) now before after
  Taking-answered = record {
    text = so_far.text;
    are_answers = subst (λ l. AnswerAll answers start (lines + 1) l so_far.text now) (sym all_done) so_far.are_answers;
    written = so_far.written;
    unfailed = so_far.unfailed;
  }

  pub Taking-held : joined held_now left ≡ held_after held piece
  Taking-held = sym (so_far.same ∙ held_after-none left held_now no_end)

  pub Taking-lines : lines_now ≡ lines + length (ended held piece)
  Taking-lines = so_far.lines_are ∙ ap (λ l. lines + length l) (sym all_done)
