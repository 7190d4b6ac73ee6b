-- What driving the cell of an accepted plan comes to.
use Rattle.std.specs.Prelude.{◌≡◌, ℕ, [], Bool, true, false, Result, Ok, Err}
use Rattle.plan_verifier.specs.declared.verdict.Verdict.TheVariants.{Accepted, Refused}
use Rattle.plan_verifier.specs.Accepted.{VerifiedPlan}
use Rattle.cell_drive.specs.declared.begin.DriveEnd.{DriveEnd}
use Rattle.byte_streams.specs.declared.drive_fault.DriveFault.{DriveFault}
use Rattle.byte_streams.specs.declared.drive_fault.DriveFault.TheVariants.{Read as NotRead, Write as NotWritten, InputTooLong as TooLong, Memory as OutOfMemory}
use Rattle.cell_drive.specs.declared.protocol.Protocol.{Protocol}
pub use Rattle.cell_drive.specs.InProtocol.{IsDriveIn}
use Rattle.command_answers.specs.declared.answer.Answer.{Answer}
use Rattle.command_answers.specs.declared.command_fault.CommandFault.{CommandFault}
use Rattle.command_answers.specs.declared.command_fault.CommandFault.TheVariants.{Read, Write, InputTooLong, Memory}
use Rattle.command_answers.specs.declared.loading.Loaded.{Loaded}
use Rattle.command_answers.specs.declared.loading.Loaded.TheVariants.{NotShaped, Judged}
use Rattle.command_answers.specs.Checks.{IsLineOf}
use Rattle.command_answers.specs.Steps.{IsOrMemory}
use Rattle.command_run.specs.Streams.{Streams}

-- the fault of a driven run as a command's
abbrev pub drive_command_fault : DriveFault → CommandFault
drive_command_fault NotRead = Read
drive_command_fault NotWritten = Write
drive_command_fault TooLong = InputTooLong
drive_command_fault OutOfMemory = Memory

-- the status of a run: whether it has ended
abbrev pub status_at : Bool → ℕ
status_at true = 0
status_at false = 1

-- no more is answered at the end, since all lines are written
abbrev pub IsEnded : Bool → Result Answer CommandFault → Type 0
IsEnded done (Ok answer) = (answer.text.items ≡ []) × (answer.status ≡ status_at done)
IsEnded done (Err fault) = ⊥

abbrev pub IsEndAnswer : Result Bool DriveFault → Result Answer CommandFault → Type 0
IsEndAnswer (Ok done) outcome = IsEnded done outcome
IsEndAnswer (Err fault) outcome = outcome ≡ Err (drive_command_fault fault)

-- whether the run has ended
abbrev pub end_of_drive : Result DriveEnd DriveFault → Result Bool DriveFault
end_of_drive (Ok end) = Ok end.done
end_of_drive (Err fault) = Err fault

-- the cell was driven by this protocol, and the status says whether its run has ended
pub record DrivesCell (protocol : Protocol) (v : VerifiedPlan) (before after : Streams) (outcome : Result Answer CommandFault) : Type 0 where
  pub end : Result DriveEnd DriveFault
  pub is : IsDriveIn protocol v before after end
  pub answer : IsEndAnswer (end_of_drive end) outcome

-- the line of a plan that isn't accepted, unless memory ran out
abbrev pub IsLineAnswer : Loaded → Result Answer CommandFault → Type 0
IsLineAnswer loaded = IsOrMemory (IsLineOf loaded)

-- what follows what is to be said of the plan: an accepted one drives the cell by this protocol; any other is answered by its line, with no byte read or written
abbrev pub Drives : Protocol → Result Loaded CommandFault → Streams → Streams → Result Answer CommandFault → Type 0
Drives protocol (Err fault) before after outcome = (outcome ≡ Err fault) × (after ≡ before)
Drives protocol (Ok (NotShaped fault)) before after outcome = IsLineAnswer (NotShaped fault) outcome × (after ≡ before)
Drives protocol (Ok (Judged (Refused back why))) before after outcome = IsLineAnswer (Judged (Refused back why)) outcome × (after ≡ before)
Drives protocol (Ok (Judged (Accepted v))) before after outcome = DrivesCell protocol v before after outcome
