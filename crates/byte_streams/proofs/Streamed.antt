-- A whole input, from what was drained and what came last.
use Rattle.std.proofs.Common.{◌≡◌, ℕ, ◌+◌, List, [], ◌++◌, length, true, Option, Some, Result, Ok, Err, take, sym, ap, ◌∙◌, arith, append_assoc, append-nil, subst, inl, inr, ◌⊎◌}
use Rattle.std.specs.Prelude.{OnOk, OnErr}
use Rattle.std.specs.Io.KnownBytes.{Appends, Keeps}
use Rattle.std.proofs.KnownBytes.{Appends-kept, Appends-trans}
use Rattle.text_lines.specs.declared.limits.TheConstants.{MAX_INPUT}
use Rattle.byte_streams.specs.declared.drive_fault.DriveFault.{DriveFault}
use Rattle.byte_streams.specs.declared.drive_fault.DriveFault.TheVariants.{Read, Write, InputTooLong, Memory}
use Rattle.byte_streams.specs.Lent.{SinkState, Output, Streams, WroteOne, output_sink}
use Rattle.byte_streams.specs.Lines.{input_lines}
use Rattle.byte_streams.specs.Holding.{held_line, ended}
use Rattle.byte_streams.specs.Answering.{AnswerAll, AreAnswered, AreCutOff, AreCutShort, IsClosingCut, WereAnswered}
use Rattle.byte_streams.specs.Streams.{IsShownAt, IsStreamed}
use Rattle.byte_streams.specs.Reading.{Reached, at_first, IsPieceAnswered, IsDrained, IsWhollyFinished, IsFinished, last_line}
use Rattle.byte_streams.proofs.AnsweredLines.{AnswerAll-append, AnswerAll-one, cut_behind, closing_cut_behind, cut_one}
use Rattle.byte_streams.proofs.WholeLines.{input_lines-ended, complete_lines-ended, last_line-some}

-- ---- the last line

pub last_some : {S T E : Type 0} (answers : S → ℕ → Option (List ℕ) → List ℕ → S → Type 0) (start : S) (number : ℕ) (held : Option (List ℕ)) (end : S) (outcome : Result T E) (before after : SinkState)
    → (held ≡ Some [] → ⊥) → WroteOne (λ text. answers start number (held_line held) text end) outcome before after
    → WereAnswered answers start number (last_line held) end outcome before after
last_some answers start number held end (Ok x) before after some_held was = record {
  text = was.text;
  are_answers = subst (λ l. AnswerAll answers start number l was.text end) (sym (last_line-some held some_held)) (AnswerAll-one answers start end number (held_line held) was.text was.is_text);
  written = was.wrote;
  unfailed = was.unfailed;
}
last_some answers start number held end (Err e) before after some_held was = (
  was.wrote.0,
  subst (λ l. AreCutOff answers start number l end before.written after.written) (sym (last_line-some held some_held))
      (cut_one answers start end number (held_line held) [] was.text before.written after.written was.is_text was.wrote.1),
)

-- ---- the closing text behind it

-- the last line is answered, and the closing text behind it is cut off
pub finish_cut : {S T E : Type 0} (e : E) (answers : S → ℕ → Option (List ℕ) → List ℕ → S → Type 0) (closes : S → List ℕ → Type 0) (now : Reached S) (end : S) (before middle after : SinkState)
    → AreAnswered answers now.state (now.lines + 1) (last_line now.held) end before middle
    → WroteOne {T = T} (closes end) (Err e) middle after
    → (after.failed ≡ true) × (AreCutOff answers now.state (now.lines + 1) (last_line now.held) end before.written after.written ⊎ IsClosingCut answers closes now.state (now.lines + 1) (last_line now.held) end before.written after.written)
finish_cut e answers closes now end before middle after were was = (
  was.wrote.0,
  inr
      (record {
        text = were.text;
        are_answers = were.are_answers;
        closing = was.text;
        is_closing = was.is_text;
        between = middle.written;
        written = were.written;
        part = was.wrote.1;
      }),
)

-- or it is written too, and then they are shown, or that failed
pub finish_shown : {S T U E F : Type 0} (x : T) (outcome : Result U F) (answers : S → ℕ → Option (List ℕ) → List ℕ → S → Type 0) (closes : S → List ℕ → Type 0) (now : Reached S) (end : S) (before middle closed after : SinkState)
    → AreAnswered answers now.state (now.lines + 1) (last_line now.held) end before middle
    → WroteOne {E = E} (closes end) (Ok x) middle closed
    → Keeps closed.written after.written → OnOk outcome (after.failed ≡ closed.failed) → OnErr outcome (after.failed ≡ true)
    → IsFinished outcome answers closes now end before after
finish_shown x (Ok y) answers closes now end before middle closed after were was kept unfailed has_failed = record {
  text = were.text;
  are_answers = were.are_answers;
  closing = was.text;
  is_closing = was.is_text;
  written = Appends-kept before.written closed.written after.written (were.text ++ was.text) (Appends-trans before.written middle.written closed.written were.text was.text were.written was.wrote) kept;
  unfailed = unfailed ∙ was.unfailed ∙ were.unfailed;
}
finish_shown x (Err e) answers closes now end before middle closed after were was kept unfailed has_failed = (
  has_failed,
  inr
      (record {
        text = were.text;
        are_answers = were.are_answers;
        closing = was.text;
        is_closing = was.is_text;
        between = middle.written;
        written = were.written;
        part = ([], record { out = was.text; took = Appends-kept middle.written closed.written after.written was.text was.wrote kept; whole = append-nil was.text });
      }),
)

-- ---- all of the input

-- reading came to a fault
pub stream_drained : {S T U : Type 0} {room : ℕ} (e : DriveFault) (answers : S → ℕ → Option (List ℕ) → List ℕ → S → Type 0) (closes : S → List ℕ → Type 0) (start : S) (next : Reached S) (before after : Streams)
    → IsDrained {T = T} (Err e) room answers start next before after → IsShownAt e after.output.pending
    → IsStreamed {T = U} (Err e) room answers closes start next.state before after
stream_drained Memory answers closes start next before after drained shown = absurd drained.comes_to
stream_drained Read answers closes start next before after drained shown =
    let answered = drained.comes_to.2 in
    record {
      input = drained.bytes;
      was_read = drained.was_read;
      comes_to = (
        drained.comes_to.0,
        drained.comes_to.1,
        record {
          text = answered.text;
          are_answers = subst (λ l. AnswerAll answers start 1 l answered.text next.state) (complete_lines-ended drained.bytes) answered.are_answers;
          written = answered.written;
          unfailed = answered.unfailed;
        },
      );
      shown = shown;
    }
stream_drained InputTooLong answers closes start next before after drained shown =
    let answered = drained.comes_to.2 in
    record {
      input = drained.bytes;
      was_read = drained.was_read;
      comes_to = (
        drained.comes_to.0,
        drained.comes_to.1,
        record {
          text = answered.text;
          are_answers = subst (λ l. AnswerAll answers start 1 l answered.text next.state) (complete_lines-ended (take MAX_INPUT drained.bytes)) answered.are_answers;
          written = answered.written;
          unfailed = answered.unfailed;
        },
        drained.comes_to.3,
      );
      shown = shown;
    }
stream_drained Write answers closes start next before after drained shown =
    record {
      input = drained.bytes;
      was_read = drained.was_read;
      comes_to = (
        drained.comes_to.0,
        inl (subst (λ l. AreCutShort answers start 1 l next.state before.output.written after.output.written) (complete_lines-ended (take MAX_INPUT drained.bytes)) drained.comes_to.1),
        drained.comes_to.2,
      );
      shown = shown;
    }

-- the last line and the closing text behind what was drained
module _ {S T : Type 0} {room : ℕ} (answers : S → ℕ → Option (List ℕ) → List ℕ → S → Type 0) (closes : S → List ℕ → Type 0) (start : S) (now : Reached S) (end : S) (x : T)
    (before between : Streams) (last : Output) (drained : IsDrained {T = T} (Ok x) room answers start now before between) where
  abbrev after : Streams
  after = record { input = between.input; output = last }

  abbrev so_far : IsPieceAnswered answers (at_first start) drained.bytes now (output_sink before.output) (output_sink between.output)
  so_far = drained.comes_to.2

  all_lines : ended (Some []) drained.bytes ++ last_line now.held ≡ input_lines drained.bytes
  all_lines = ap (λ h. ended (Some []) drained.bytes ++ last_line h) so_far.held_is ∙ input_lines-ended drained.bytes

  next_number : now.lines + 1 ≡ 1 + length (ended (Some []) drained.bytes)
  next_number = let lines_are : now.lines ≡ 0 + length (ended (Some []) drained.bytes) = so_far.lines_are in omega arith

  pub stream_done : {V : Type 0} (v : V) → IsWhollyFinished answers closes now end (output_sink between.output) (output_sink last) → last.pending ≡ []
      → IsStreamed {T = V} (Ok v) room answers closes start end before after
  stream_done v finished shown =
      let all : AnswerAll answers start 1 (ended (Some []) drained.bytes ++ last_line now.held) (so_far.text ++ finished.text) end =
      AnswerAll-append answers (ended (Some []) drained.bytes) (last_line now.held) start now.state end 1 (now.lines + 1) so_far.text finished.text so_far.are_answers next_number finished.are_answers in
      record {
        input = drained.bytes;
        was_read = drained.was_read;
        comes_to = record {
          at_end = drained.comes_to.0;
          within = drained.comes_to.1;
          text = so_far.text ++ finished.text;
          are_answers = subst (λ l. AnswerAll answers start 1 l (so_far.text ++ finished.text) end) all_lines all;
          closing = finished.closing;
          is_closing = finished.is_closing;
          written = subst (Appends before.output.written last.written) (sym (append_assoc so_far.text finished.text finished.closing))
              (Appends-trans before.output.written between.output.written last.written so_far.text (finished.text ++ finished.closing) so_far.written finished.written);
          read_unfailed = drained.comes_to.3;
          write_unfailed = finished.unfailed ∙ so_far.unfailed;
        };
        shown = shown;
      }

  -- the answer to the last line was cut off, or the closing text
  cut_at : AreCutOff answers now.state (now.lines + 1) (last_line now.held) end between.output.written last.written ⊎ IsClosingCut answers closes now.state (now.lines + 1) (last_line now.held) end between.output.written last.written
      → AreCutOff answers start 1 (input_lines drained.bytes) end before.output.written last.written ⊎ IsClosingCut answers closes start 1 (input_lines drained.bytes) end before.output.written last.written
  cut_at (inl off) =
      inl
      (subst (λ l. AreCutOff answers start 1 l end before.output.written last.written) all_lines
      (cut_behind answers (ended (Some []) drained.bytes) (last_line now.held) start now.state end 1 (now.lines + 1) so_far.text before.output.written between.output.written last.written so_far.are_answers next_number so_far.written off))
  cut_at (inr closing) =
      inr
      (subst (λ l. IsClosingCut answers closes start 1 l end before.output.written last.written) all_lines
      (closing_cut_behind answers closes (ended (Some []) drained.bytes) (last_line now.held) start now.state end 1 (now.lines + 1) so_far.text before.output.written between.output.written last.written so_far.are_answers next_number so_far.written closing))

  pub stream_failed : {V : Type 0} → (last.failed ≡ true)
      × (AreCutOff answers now.state (now.lines + 1) (last_line now.held) end between.output.written last.written ⊎ IsClosingCut answers closes now.state (now.lines + 1) (last_line now.held) end between.output.written last.written)
      → IsStreamed {T = V} (Err Write) room answers closes start end before after
  stream_failed finished = record {
    input = drained.bytes;
    was_read = drained.was_read;
    comes_to = (finished.0, inr (drained.comes_to.0, drained.comes_to.1, cut_at finished.1), drained.comes_to.3);
    shown = tt;
  }
