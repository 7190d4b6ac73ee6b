-- What driving the cells of several plans comes to.
use Rattle.std.specs.Prelude.{◌≡◌, List, Bool, Result, Ok, Err}
use Rattle.plan_verifier.specs.Accepted.{VerifiedPlan}
use Rattle.cell_drive.specs.declared.hub.HubEnd.{HubEnd}
use Rattle.byte_streams.specs.declared.drive_fault.DriveFault.{DriveFault}
use Rattle.cell_drive.specs.declared.protocol.Protocol.{Protocol}
pub use Rattle.cell_drive.specs.ProtocolCells.{AreDrivesIn}
use Rattle.command_answers.specs.declared.answer.Answer.{Answer}
use Rattle.command_answers.specs.declared.cells.Cells.{Cells}
use Rattle.command_answers.specs.declared.cells.Cells.TheVariants.{Accepted, Line}
use Rattle.command_answers.specs.declared.command_fault.CommandFault.{CommandFault}
use Rattle.command_run.specs.Streams.{Streams}
use Rattle.command_run.specs.Drives.{IsEndAnswer}

-- whether all runs have ended
abbrev pub end_of_hub : Result HubEnd DriveFault → Result Bool DriveFault
end_of_hub (Ok end) = Ok end.all_done
end_of_hub (Err fault) = Err fault

-- the cells were driven by this protocol, and the status says whether all their runs have ended
pub record DrivesCells (protocol : Protocol) (cells : List VerifiedPlan) (before after : Streams) (outcome : Result Answer CommandFault) : Type 0 where
  pub end : Result HubEnd DriveFault
  pub are : AreDrivesIn protocol cells before after end
  pub answer : IsEndAnswer (end_of_hub end) outcome

-- what follows the loading of the plans: accepted ones drive their cells by this protocol; else the line of the first that isn't is answered, with no byte read or written
abbrev pub DrivesAll : Protocol → Result Cells CommandFault → Streams → Streams → Result Answer CommandFault → Type 0
DrivesAll protocol (Err fault) before after outcome = (outcome ≡ Err fault) × (after ≡ before)
DrivesAll protocol (Ok (Line answer)) before after outcome = (outcome ≡ Ok answer) × (after ≡ before)
DrivesAll protocol (Ok (Accepted cells)) before after outcome = DrivesCells protocol cells.items before after outcome
