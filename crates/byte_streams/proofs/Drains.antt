-- An input that is read piece by piece.
use Rattle.std.proofs.Common.{◌≡◌, ℕ, ◌+◌, ◌<◌, ◌≤◌, List, [], ◌++◌, Option, Some, Ok, Err, length, take, refl, sym, ap, ◌∙◌, arith, append-nil, length-append, subst, inl, inr}
use Rattle.std.proofs.lemmas.Bool.{cases_lt}
use Rattle.std.proofs.lemmas.List.{take_all}
use Rattle.std.proofs.Math.Seq.{take-append-add}
use Rattle.std.specs.Io.KnownBytes.{Consumes, Keeps, IsAtEnd}
use Rattle.std.proofs.KnownBytes.{Appends-nil, Appends-kept, Appends-trans, Consumes-nil, Consumes-trans, Consumes-kept}
use Rattle.text_lines.specs.declared.limits.TheConstants.{MAX_INPUT}
use Rattle.byte_streams.specs.declared.drive_fault.DriveFault.{DriveFault}
use Rattle.byte_streams.specs.declared.drive_fault.DriveFault.TheVariants.{Read, Write, InputTooLong, Memory}
use Rattle.byte_streams.specs.Lent.{SinkState, Input, Output, Streams, output_sink}
use Rattle.byte_streams.specs.Holding.{ended, held_after}
use Rattle.byte_streams.specs.Answering.{AnswerAll, AreAnswered, AreCutOff, AreCutShort}
use Rattle.byte_streams.specs.Reading.{Reached, at_first, IsPastLimit, IsPieceAnswered, IsReadOn, IsReadAnswered, IsDrained}
use Rattle.byte_streams.specs.Streams.{IsShownAt}
use Rattle.byte_streams.proofs.Held.{ended-append, held_after-append, length-ended}
use Rattle.byte_streams.proofs.AnsweredLines.{AnswerAll-append, cut_behind}

module _ {S : Type 0} (answers : S → ℕ → Option (List ℕ) → List ℕ → S → Type 0) (start : S) (now : Reached S) (bytes piece : List ℕ) (before middle : SinkState)
    (first : IsPieceAnswered answers (at_first start) bytes now before middle) where
  whole : ended (Some []) bytes ++ ended now.held piece ≡ ended (Some []) (bytes ++ piece)
  whole =
      let at : ended now.held piece ≡ ended (held_after (Some []) bytes) piece = ap (λ h. ended h piece) first.held_is in
      ap (λ l. ended (Some []) bytes ++ l) at ∙ sym (ended-append bytes piece (Some []))

  next_number : now.lines + 1 ≡ 1 + length (ended (Some []) bytes)
  next_number = let lines_are : now.lines ≡ 0 + length (ended (Some []) bytes) = first.lines_are in omega arith

  answers_more : (text : List ℕ) (end : S) → AnswerAll answers now.state (now.lines + 1) (ended now.held piece) text end
      → AnswerAll answers start 1 (ended (Some []) (bytes ++ piece)) (first.text ++ text) end
  answers_more text end second =
      subst (λ l. AnswerAll answers start 1 l (first.text ++ text) end) whole
      (AnswerAll-append answers (ended (Some []) bytes) (ended now.held piece) start now.state end 1 (now.lines + 1) first.text text first.are_answers next_number second)

  -- a piece is answered, and the next
  pub piece_more : (next : Reached S) (after : SinkState) → IsPieceAnswered answers now piece next middle after → IsPieceAnswered answers (at_first start) (bytes ++ piece) next before after
  piece_more next after second =
      let lines_are : now.lines ≡ 0 + length (ended (Some []) bytes) = first.lines_are in
      let more_lines = second.lines_are in
      let all : next.lines ≡ 0 + length (ended (Some []) (bytes ++ piece)) = omega (arith, length-append (ended (Some []) bytes) (ended now.held piece), ap length whole) in
      record {
        text = first.text ++ second.text;
        are_answers = answers_more second.text next.state second.are_answers;
        written = Appends-trans before.written middle.written after.written first.text second.text first.written second.written;
        unfailed = second.unfailed ∙ first.unfailed;
        lines_are = all;
        held_is = second.held_is ∙ ap (λ h. held_after h piece) first.held_is ∙ sym (held_after-append bytes piece (Some []));
      }

  -- a piece is answered, and an answer in the next is cut off, or they can't be shown
  pub short_more : (end : S) (after : Option (List ℕ)) → AreCutShort answers now.state (now.lines + 1) (ended now.held piece) end middle.written after
      → AreCutShort answers start 1 (ended (Some []) (bytes ++ piece)) end before.written after
  short_more end after (inl second) =
      inl
      (subst (λ l. AreCutOff answers start 1 l end before.written after) whole
      (cut_behind answers (ended (Some []) bytes) (ended now.held piece) start now.state end 1 (now.lines + 1) first.text before.written middle.written after first.are_answers next_number first.written second))
  short_more end after (inr second) =
      inr (record {
        text = first.text ++ second.text;
        are_answers = answers_more second.text end second.are_answers;
        written = Appends-trans before.written middle.written after first.text second.text first.written second.written;
      })

-- the lines that end in a piece are answered
pub all_answered : {S : Type 0} (answers : S → ℕ → Option (List ℕ) → List ℕ → S → Type 0) (now next : Reached S) (piece : List ℕ) (before after : SinkState)
    → AreAnswered answers now.state (now.lines + 1) (ended now.held piece) next.state before after → next.held ≡ held_after now.held piece → next.lines ≡ now.lines + length (ended now.held piece)
    → IsPieceAnswered answers now piece next before after
all_answered answers now next piece before after were held lines =
    record { text = were.text; are_answers = were.are_answers; written = were.written; unfailed = were.unfailed; lines_are = lines; held_is = held }

-- the bytes of a piece within the limit
pub within_limit : (piece : List ℕ) (left within : ℕ) → within ≤ left → (within < length piece → within ≡ left) → take within piece ≡ take left piece
within_limit piece left within few all = elim (cases_lt within (length piece)) [
  | inl less ↦ ap (λ (n : ℕ). take n piece) (all less)
  | inr not_less ↦ take_all within piece (omega (arith, not_less)) ∙ sym (take_all left piece (omega (arith, not_less, few)))
]

-- nothing is held back past the limit, unless that failed
pub shown_past : (e : DriveFault) (before after : Output) → IsPastLimit e before after → IsShownAt e after.pending
shown_past Read before after fault = absurd fault
shown_past Write before after fault = tt
shown_past InputTooLong before after fault = fault.1
shown_past Memory before after fault = absurd fault

-- so much was read, the lines that end in it are answered, and no device failed; so many bytes are left of the limit
pub record Draining {S : Type 0} (answers : S → ℕ → Option (List ℕ) → List ℕ → S → Type 0) (start : S) (now : Reached S) (left : ℕ) (before after : Streams) : Type 0 where
  pub bytes : List ℕ
  pub was_read : Consumes before.input.left after.input.left bytes
  pub unfailed : after.input.failed ≡ before.input.failed
  pub count : length bytes + left ≡ MAX_INPUT
  pub answered : IsPieceAnswered answers (at_first start) bytes now (output_sink before.output) (output_sink after.output)

-- before the first read
pub Draining-first : {S : Type 0} (answers : S → ℕ → Option (List ℕ) → List ℕ → S → Type 0) (start : S) (lines : ℕ) (held : Option (List ℕ)) (before : Streams) → lines ≡ 0 → held ≡ Some []
    → Draining answers start (record { state = start; lines = lines; held = held }) MAX_INPUT before before
Draining-first answers start lines held before no_lines none_held = record {
  bytes = [];
  was_read = Consumes-nil before.input.left;
  unfailed = refl;
  count = refl;
  answered = record { text = []; are_answers = (refl, refl); written = Appends-nil before.output.written; unfailed = refl; lines_are = no_lines; held_is = none_held };
}

module _ {S : Type 0} (answers : S → ℕ → Option (List ℕ) → List ℕ → S → Type 0) (start : S) (now : Reached S) (left : ℕ) (before middle : Streams)
    (so_far : Draining answers start now left before middle) where
  -- fewer lines have ended than the limit has bytes
  pub Draining-lines : now.lines + left ≤ MAX_INPUT
  Draining-lines =
      let count = so_far.count in
      let lines_are : now.lines ≡ 0 + length (ended (Some []) so_far.bytes) = so_far.answered.lines_are in
      omega (arith, length-ended so_far.bytes (Some []))

  -- showing the answers, or the read behind it, failed
  pub Draining-unread : {U : Type 0} {room : ℕ} (T : Type 0) (e : DriveFault) (after : Streams) → Keeps middle.input.left after.input.left → Keeps middle.output.written after.output.written
      → IsReadOn {T = T} (Err e) (record { before = middle; after = after }) → IsDrained {T = U} (Err e) room answers start now before after
  Draining-unread T Read after kept kept_written failed =
      let count = so_far.count in
      record {
        bytes = so_far.bytes;
        was_read = Consumes-kept before.input.left middle.input.left after.input.left so_far.bytes so_far.was_read kept;
        comes_to = (
          failed.0,
          omega arith,
          record {
            text = so_far.answered.text;
            are_answers = so_far.answered.are_answers;
            written = Appends-kept before.output.written middle.output.written after.output.written so_far.answered.text so_far.answered.written kept_written;
            unfailed = failed.1 ∙ so_far.answered.unfailed;
          },
        );
      }
  Draining-unread T Write after kept kept_written failed =
      let count = so_far.count in
      let all : so_far.bytes ≡ take MAX_INPUT so_far.bytes = sym (take_all MAX_INPUT so_far.bytes (omega arith)) in
      record {
        bytes = so_far.bytes;
        was_read = Consumes-kept before.input.left middle.input.left after.input.left so_far.bytes so_far.was_read kept;
        comes_to = (
          failed.1,
          inr (record {
            text = so_far.answered.text;
            are_answers = subst (λ l. AnswerAll answers start 1 (ended (Some []) l) so_far.answered.text now.state) all so_far.answered.are_answers;
            written = Appends-kept before.output.written middle.output.written after.output.written so_far.answered.text so_far.answered.written kept_written;
          }),
          failed.0 ∙ so_far.unfailed,
        );
      }
  Draining-unread T InputTooLong after kept kept_written failed = absurd failed
  Draining-unread T Memory after kept kept_written failed = absurd failed

  -- showing them fails no device, and takes nothing
  pub Draining-shown : (shown : Output) → Keeps middle.output.written shown.written → shown.failed ≡ middle.output.failed → Draining answers start now left before (record { input = middle.input; output = shown })
  Draining-shown shown kept unfailed = record {
    bytes = so_far.bytes;
    was_read = so_far.was_read;
    unfailed = so_far.unfailed;
    count = so_far.count;
    answered = record {
      text = so_far.answered.text;
      are_answers = so_far.answered.are_answers;
      written = Appends-kept before.output.written middle.output.written shown.written so_far.answered.text so_far.answered.written kept;
      unfailed = unfailed ∙ so_far.answered.unfailed;
      lines_are = so_far.answered.lines_are;
      held_is = so_far.answered.held_is;
    };
  }

  module _ (input : Input) (piece : List ℕ) (gave : Consumes middle.input.left input.left piece) (gave_unfailed : input.failed ≡ middle.input.failed) where
    -- nothing was read at the end
    pub Draining-ended : {T : Type 0} {room : ℕ} (x : T) → piece ≡ [] → IsAtEnd input.left → IsDrained {T = T} (Ok x) room answers start now before (record { input = input; output = middle.output })
    Draining-ended x none at_end =
        let count = so_far.count in
        record {
          bytes = so_far.bytes;
          was_read = subst (Consumes before.input.left input.left) (ap (λ l. so_far.bytes ++ l) none ∙ append-nil so_far.bytes)
              (Consumes-trans before.input.left middle.input.left input.left so_far.bytes piece so_far.was_read gave);
          comes_to = (at_end, omega arith, so_far.answered, gave_unfailed ∙ so_far.unfailed);
        }

    -- a piece was read and answered
    pub Draining-more : (rest : ℕ) (next : Reached S) (output : Output) → IsReadAnswered (Ok rest) answers now piece left next (output_sink middle.output) (output_sink output)
        → Draining answers start next rest before (record { input = input; output = output })
    Draining-more rest next output reading =
        let count = so_far.count in
        let fewer = reading.0 in
        record {
          bytes = so_far.bytes ++ piece;
          was_read = Consumes-trans before.input.left middle.input.left input.left so_far.bytes piece so_far.was_read gave;
          unfailed = gave_unfailed ∙ so_far.unfailed;
          count = omega (arith, length-append so_far.bytes piece);
          answered = piece_more answers start now so_far.bytes piece (output_sink before.output) (output_sink middle.output) so_far.answered next (output_sink output) reading.1;
        }

    -- it was answered as far as so many bytes were left, and more came: showing that, or the fault that more came
    pub past_limit : (e : DriveFault) (next : Reached S) (output shown : Output) → left < length piece → IsPieceAnswered answers now (take left piece) next (output_sink middle.output) (output_sink output)
        → Keeps output.written shown.written → IsPastLimit e output shown → IsReadAnswered (Err e) answers now piece left next (output_sink middle.output) (output_sink shown)
    past_limit Read next output shown over answered kept fault = absurd fault
    past_limit Memory next output shown over answered kept fault = absurd fault
    past_limit Write next output shown over answered kept fault = (
      fault,
      inr (record {
        text = answered.text;
        are_answers = answered.are_answers;
        written = Appends-kept middle.output.written output.written shown.written answered.text answered.written kept;
      }),
    )
    past_limit InputTooLong next output shown over answered kept fault = (
      over,
      record {
        text = answered.text;
        are_answers = answered.are_answers;
        written = Appends-kept middle.output.written output.written shown.written answered.text answered.written kept;
        unfailed = fault.0 ∙ answered.unfailed;
        lines_are = answered.lines_are;
        held_is = answered.held_is;
      },
    )

    -- what is left of the limit takes so much of the piece
    cut : so_far.bytes ++ take left piece ≡ take MAX_INPUT (so_far.bytes ++ piece)
    cut = sym (take-append-add so_far.bytes piece left) ∙ ap (λ (n : ℕ). take n (so_far.bytes ++ piece)) so_far.count

    -- a piece was read, and a write failed, or it went past the limit
    pub Draining-failed : {T : Type 0} (room : ℕ) (e : DriveFault) (next : Reached S) (output : Output) → IsReadAnswered (Err e) answers now piece left next (output_sink middle.output) (output_sink output) → length piece ≤ room
        → IsDrained {T = T} (Err e) room answers start next before (record { input = input; output = output })
    Draining-failed room Read next output reading fits = absurd reading
    Draining-failed room Memory next output reading fits = absurd reading
    Draining-failed room Write next output reading fits = record {
      bytes = so_far.bytes ++ piece;
      was_read = Consumes-trans before.input.left middle.input.left input.left so_far.bytes piece so_far.was_read gave;
      comes_to = (
        reading.0,
        subst (λ l. AreCutShort answers start 1 (ended (Some []) l) next.state before.output.written output.written) cut
            (short_more answers start now so_far.bytes (take left piece) (output_sink before.output) (output_sink middle.output) so_far.answered next.state output.written reading.1),
        gave_unfailed ∙ so_far.unfailed,
      );
    }
    Draining-failed room InputTooLong next output reading fits =
        let count = so_far.count in
        let over = reading.0 in
        let both = piece_more answers start now so_far.bytes (take left piece) (output_sink before.output) (output_sink middle.output) so_far.answered next (output_sink output) reading.1 in
        record {
          bytes = so_far.bytes ++ piece;
          was_read = Consumes-trans before.input.left middle.input.left input.left so_far.bytes piece so_far.was_read gave;
          comes_to = (
            omega (arith, length-append so_far.bytes piece),
            omega (arith, fits, length-append so_far.bytes piece),
            record {
              text = both.text;
              are_answers = subst (λ l. AnswerAll answers start 1 (ended (Some []) l) both.text next.state) cut both.are_answers;
              written = both.written;
              unfailed = both.unfailed;
            },
            gave_unfailed ∙ so_far.unfailed,
          );
        }
