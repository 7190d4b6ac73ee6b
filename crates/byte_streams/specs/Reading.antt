-- How far an input has been read and answered.
use Rattle.std.specs.Prelude.{◌≡◌, ℕ, ◌+◌, ◌<◌, ◌≤◌, List, [], ◌∷◌, ◌++◌, length, take, Option, Some, None, true, Result, Ok, Err, ◌⊎◌}
use Rattle.std.specs.Io.KnownBytes.{Appends, Consumes, IsAtEnd}
use Rattle.text_lines.specs.declared.limits.TheConstants.{MAX_INPUT}
use Rattle.byte_streams.specs.declared.drive_fault.DriveFault.{DriveFault}
use Rattle.byte_streams.specs.declared.drive_fault.DriveFault.TheVariants.{Read, Write, InputTooLong, Memory}
use Rattle.byte_streams.specs.declared.pieces.Input.{Input as Held}
use Rattle.byte_streams.specs.Lent.{SinkState, Output, Streams, Lent, output_sink}
use Rattle.byte_streams.specs.Holding.{ended, held_after, held_line}
use Rattle.byte_streams.specs.Answering.{AnswerAll, AreAnswered, AreCutOff, AreCutShort, IsClosingCut}

-- how far an input is answered: the state that its lines lead to, how many have ended, and what is held of the next
pub record Reached (S : Type 0) : Type 0 where
  pub state : S
  pub lines : ℕ
  pub held : Option (List ℕ)

-- this state, behind so many lines and what is held of the next
abbrev pub reached : {S : Type 0} → S → Held → Reached S
reached handler input = record { state = handler; lines = input.lines; held = input.held }

-- before the first byte
abbrev pub at_first : {S : Type 0} → S → Reached S
at_first start = record { state = start; lines = 0; held = Some [] }

-- the lines that end in a piece were answered and no write failed
pub record IsPieceAnswered {S : Type 0} (answers : S → ℕ → Option (List ℕ) → List ℕ → S → Type 0) (now : Reached S) (piece : List ℕ) (next : Reached S) (before after : SinkState) : Type 0 where
  pub text : List ℕ
  pub are_answers : AnswerAll answers now.state (now.lines + 1) (ended now.held piece) text next.state
  pub written : Appends before.written after.written text
  pub unfailed : after.failed ≡ before.failed
  pub lines_are : next.lines ≡ now.lines + length (ended now.held piece)
  pub held_is : next.held ≡ held_after now.held piece

-- the fault where more came than the limit: what was answered is shown, or that failed
abbrev pub IsPastLimit : DriveFault → Output → Output → Type 0
IsPastLimit InputTooLong before after = (after.failed ≡ before.failed) × (after.pending ≡ [])
IsPastLimit Write before after = after.failed ≡ true
IsPastLimit Read before after = ⊥
IsPastLimit Memory before after = ⊥

-- what was read was answered, as far as so many bytes were left of the limit
abbrev pub IsReadAnswered : {S : Type 0} → Result ℕ DriveFault → (S → ℕ → Option (List ℕ) → List ℕ → S → Type 0) → Reached S → List ℕ → ℕ → Reached S → SinkState → SinkState → Type 0
IsReadAnswered (Ok rest) answers now piece left next before after = (rest + length piece ≡ left) × IsPieceAnswered answers now piece next before after
IsReadAnswered (Err InputTooLong) answers now piece left next before after = (left < length piece) × IsPieceAnswered answers now (take left piece) next before after
IsReadAnswered (Err Write) answers now piece left next before after =
    (after.failed ≡ true) × AreCutShort answers now.state (now.lines + 1) (ended now.held (take left piece)) next.state before.written after.written
IsReadAnswered (Err Read) answers now piece left next before after = ⊥
IsReadAnswered (Err Memory) answers now piece left next before after = ⊥

-- which device has failed once more was asked for
abbrev pub IsReadOn : {T : Type 0} → Result T DriveFault → Lent → Type 0
IsReadOn (Ok x) streams = (streams.after.input.failed ≡ streams.before.input.failed) × (streams.after.output.failed ≡ streams.before.output.failed)
IsReadOn (Err Read) streams = (streams.after.input.failed ≡ true) × (streams.after.output.failed ≡ streams.before.output.failed)
IsReadOn (Err Write) streams = (streams.after.input.failed ≡ streams.before.input.failed) × (streams.after.output.failed ≡ true)
IsReadOn (Err InputTooLong) streams = ⊥
IsReadOn (Err Memory) streams = ⊥

-- what reading comes to once these bytes were read into a room of so many, piece by piece, the last line apart, and which device has failed
abbrev pub ReadsTo : {S T : Type 0} → Result T DriveFault → ℕ → (S → ℕ → Option (List ℕ) → List ℕ → S → Type 0) → S → List ℕ → Reached S → Streams → Streams → Type 0
ReadsTo (Ok x) room answers start bytes next before after =
    IsAtEnd after.input.left × (length bytes ≤ MAX_INPUT) × IsPieceAnswered answers (at_first start) bytes next (output_sink before.output) (output_sink after.output) × (after.input.failed ≡ before.input.failed)
ReadsTo (Err Read) room answers start bytes next before after =
    (after.input.failed ≡ true) × (length bytes ≤ MAX_INPUT) × AreAnswered answers start 1 (ended (Some []) bytes) next.state (output_sink before.output) (output_sink after.output)
ReadsTo (Err Write) room answers start bytes next before after =
    (after.output.failed ≡ true) × AreCutShort answers start 1 (ended (Some []) (take MAX_INPUT bytes)) next.state before.output.written after.output.written × (after.input.failed ≡ before.input.failed)
ReadsTo (Err InputTooLong) room answers start bytes next before after =
    (MAX_INPUT < length bytes) × (length bytes ≤ MAX_INPUT + room) × AreAnswered answers start 1 (ended (Some []) (take MAX_INPUT bytes)) next.state (output_sink before.output) (output_sink after.output)
    × (after.input.failed ≡ before.input.failed)
ReadsTo (Err Memory) room answers start bytes next before after = ⊥

-- these bytes were read into a room of so many, and this is what reading comes to
pub record IsDrained {S T : Type 0} (outcome : Result T DriveFault) (room : ℕ) (answers : S → ℕ → Option (List ℕ) → List ℕ → S → Type 0) (start : S) (next : Reached S) (before after : Streams) : Type 0 where
  pub bytes : List ℕ
  pub was_read : Consumes before.input.left after.input.left bytes
  pub comes_to : ReadsTo outcome room answers start bytes next before after

-- the last line, if it has bytes and no line feed
abbrev pub last_line : Option (List ℕ) → List (Option (List ℕ))
last_line None = None ∷ []
last_line (Some []) = []
last_line (Some (b ∷ bytes)) = held_line (Some (b ∷ bytes)) ∷ []

-- the last line was answered, the closing text was written behind it, and no write failed
pub record IsWhollyFinished {S : Type 0} (answers : S → ℕ → Option (List ℕ) → List ℕ → S → Type 0) (closes : S → List ℕ → Type 0) (now : Reached S) (end : S) (before after : SinkState) : Type 0 where
  pub text : List ℕ
  pub are_answers : AnswerAll answers now.state (now.lines + 1) (last_line now.held) text end
  pub closing : List ℕ
  pub is_closing : closes end closing
  pub written : Appends before.written after.written (text ++ closing)
  pub unfailed : after.failed ≡ before.failed

-- so it was finished, or a write failed at the last answer, at the closing text, or at showing them
abbrev pub IsFinished : {S T E : Type 0} → Result T E → (S → ℕ → Option (List ℕ) → List ℕ → S → Type 0) → (S → List ℕ → Type 0) → Reached S → S → SinkState → SinkState → Type 0
IsFinished (Ok x) answers closes now end before after = IsWhollyFinished answers closes now end before after
IsFinished (Err e) answers closes now end before after =
    (after.failed ≡ true) × (AreCutOff answers now.state (now.lines + 1) (last_line now.held) end before.written after.written
    ⊎ IsClosingCut answers closes now.state (now.lines + 1) (last_line now.held) end before.written after.written)
