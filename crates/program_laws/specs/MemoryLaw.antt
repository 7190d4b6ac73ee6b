-- The law that no byte of a log is changed where memory runs out.
use Rattle.std.specs.Prelude.{◌≡◌, ℕ, List, Bool, false, Some, Result}
use Rattle.command_answers.specs.declared.command_fault.CommandFault.{CommandFault}
use Rattle.command_run.specs.Streams.{Devices}
use Rattle.command_run.specs.Logs.{LogEnd, IsUntouched}
use Rattle.command_run.specs.Program.{RunsProgram}

-- a run ends with 4, and the log that was opened or made is held: nothing was appended to it, and it wasn't cut
abbrev pub OutOfMemoryChangesNoLog : {W : Type 0} → (W → List ℕ → Result (List ℕ) CommandFault → W → Type 0) → Type 0
OutOfMemoryChangesNoLog {W} gives = (words : List (List ℕ)) (before after : Devices W) (end : LogEnd) (written : Bool)
    → RunsProgram gives words before 4 after (Some end) → IsUntouched written end → written ≡ false
