-- What the command without words does.
use Rattle.std.specs.Prelude.{◌≡◌, ◌+◌, ◌<◌, ◌≤◌, ℕ, List, None, true, Result, Ok, Err, length}
use Rattle.std.specs.Io.KnownBytes.{Consumes, IsAtEnd}
use Rattle.text_lines.specs.declared.limits.TheConstants.{MAX_INPUT}
use Rattle.byte_streams.specs.declared.rooms.TheConstants.{MAX_PIECE}
use Rattle.command_answers.specs.declared.answer.Answer.{Answer}
use Rattle.command_answers.specs.declared.command_fault.CommandFault.{CommandFault}
use Rattle.command_answers.specs.declared.command_fault.CommandFault.TheVariants.{Read, InputTooLong, Memory}
use Rattle.command_answers.specs.Parsed.{AreFactsAnswered}
use Rattle.command_answers.specs.Steps.{Then, Concludes}
use Rattle.command_run.specs.Streams.{Input}

-- the whole input was read; or a read failed, more bytes came than the limit but no more than one piece, or memory ran out
abbrev pub IsInputRead : Input → Result (List ℕ) CommandFault → Input → Type 0
IsInputRead before (Ok text) after = Consumes before.left after.left text × IsAtEnd after.left × (length text ≤ MAX_INPUT) × (after.failed ≡ before.failed)
IsInputRead before (Err Read) after = after.failed ≡ true
IsInputRead before (Err InputTooLong) after = (text : List ℕ) × Consumes before.left after.left text × (MAX_INPUT < length text) × (length text ≤ MAX_INPUT + MAX_PIECE) × (after.failed ≡ before.failed)
IsInputRead before (Err Memory) after = after.failed ≡ before.failed
IsInputRead before (Err other) after = ⊥

-- the input is read whole, and the facts of the instance that it gives are answered
abbrev pub RunsInput : Input → Result Answer CommandFault → Input → Type 0
RunsInput = Then IsInputRead (λ text. Concludes (AreFactsAnswered text None))
