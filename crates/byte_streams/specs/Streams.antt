-- A whole input that is read and answered line by line.
use Rattle.std.specs.Prelude.{◌≡◌, ℕ, ◌+◌, ◌<◌, ◌≤◌, List, [], ◌++◌, length, take, Option, true, Result, Ok, Err, ◌⊎◌}
use Rattle.std.specs.Io.KnownBytes.{Appends, Consumes, IsAtEnd}
use Rattle.text_lines.specs.declared.limits.TheConstants.{MAX_INPUT}
use Rattle.byte_streams.specs.declared.drive_fault.DriveFault.{DriveFault}
use Rattle.byte_streams.specs.declared.drive_fault.DriveFault.TheVariants.{Read, Write, InputTooLong, Memory}
use Rattle.byte_streams.specs.Lent.{Streams, output_sink}
use Rattle.byte_streams.specs.Lines.{input_lines, complete_lines}
use Rattle.byte_streams.specs.Answering.{AnswerAll, AreAnswered, AreCutOff, AreCutShort, IsClosingCut}

-- all lines of an input were answered, the closing text was written behind them, the input was read to its end, and neither a read nor a write failed
pub record IsAllAnswered {S : Type 0} (answers : S → ℕ → Option (List ℕ) → List ℕ → S → Type 0) (closes : S → List ℕ → Type 0) (start : S) (input : List ℕ) (end : S)
    (before after : Streams) : Type 0 where
  pub at_end : IsAtEnd after.input.left
  pub within : length input ≤ MAX_INPUT
  pub text : List ℕ
  pub are_answers : AnswerAll answers start 1 (input_lines input) text end
  pub closing : List ℕ
  pub is_closing : closes end closing
  pub written : Appends before.output.written after.output.written (text ++ closing)
  pub read_unfailed : after.input.failed ≡ before.input.failed
  pub write_unfailed : after.output.failed ≡ before.output.failed

-- a write failed: at the answer to one of the complete lines within the limit or at showing the answers to all of these, or, once the input was read to its end, at the answer to one of all lines or at the closing text. No line behind it was answered
abbrev pub IsCutOff : {S : Type 0} → (S → ℕ → Option (List ℕ) → List ℕ → S → Type 0) → (S → List ℕ → Type 0) → S → List ℕ → S → Streams → Streams → Type 0
IsCutOff answers closes start input end before after =
    AreCutShort answers start 1 (complete_lines (take MAX_INPUT input)) end before.output.written after.output.written
    ⊎ (IsAtEnd after.input.left × (length input ≤ MAX_INPUT)
    × (AreCutOff answers start 1 (input_lines input) end before.output.written after.output.written ⊎ IsClosingCut answers closes start 1 (input_lines input) end before.output.written after.output.written))

-- what a stream comes to once this input was read into a room of so many bytes, piece by piece, on success and with each fault. Of an input that is too long no piece is read behind the one that goes past the limit. A device has failed only where it is the fault, or it had failed before
abbrev pub ComesTo : {S T : Type 0} → Result T DriveFault → ℕ → (S → ℕ → Option (List ℕ) → List ℕ → S → Type 0) → (S → List ℕ → Type 0) → S → List ℕ → S → Streams → Streams → Type 0
ComesTo (Ok x) room answers closes start input end before after =
    IsAllAnswered answers closes start input end before after
ComesTo (Err Read) room answers closes start input end before after =
    (after.input.failed ≡ true) × (length input ≤ MAX_INPUT) × AreAnswered answers start 1 (complete_lines input) end (output_sink before.output) (output_sink after.output)
ComesTo (Err Write) room answers closes start input end before after =
    (after.output.failed ≡ true) × IsCutOff answers closes start input end before after × (after.input.failed ≡ before.input.failed)
ComesTo (Err InputTooLong) room answers closes start input end before after =
    (MAX_INPUT < length input) × (length input ≤ MAX_INPUT + room) × AreAnswered answers start 1 (complete_lines (take MAX_INPUT input)) end (output_sink before.output) (output_sink after.output) × (after.input.failed ≡ before.input.failed)
ComesTo (Err Memory) room answers closes start input end before after = ⊥

-- nothing is held back at a fault, unless it is a failed write
abbrev pub IsShownAt : DriveFault → List ℕ → Type 0
IsShownAt Write pending = Unit {0}
IsShownAt Read pending = pending ≡ []
IsShownAt InputTooLong pending = pending ≡ []
IsShownAt Memory pending = pending ≡ []

-- nor without a fault
abbrev pub IsShown : {T : Type 0} → Result T DriveFault → List ℕ → Type 0
IsShown (Ok x) pending = pending ≡ []
IsShown (Err fault) pending = IsShownAt fault pending

-- an input was read from what was left to read, into a room of so many bytes, this is what the stream comes to, and nothing is held back of what was answered
pub record IsStreamed {S T : Type 0} (outcome : Result T DriveFault) (room : ℕ) (answers : S → ℕ → Option (List ℕ) → List ℕ → S → Type 0) (closes : S → List ℕ → Type 0) (start end : S)
    (before after : Streams) : Type 0 where
  pub input : List ℕ
  pub was_read : Consumes before.input.left after.input.left input
  pub comes_to : ComesTo outcome room answers closes start input end before after
  pub shown : IsShown outcome after.output.pending
