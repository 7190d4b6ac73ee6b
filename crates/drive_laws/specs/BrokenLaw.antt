-- The law that a driven cell stays as promised where driving it is broken off.
use Rattle.std.specs.Prelude.{◌≡◌, Result, Err}
use Rattle.plan_verifier.specs.Accepted.{VerifiedPlan, IsVerified}
use Rattle.byte_streams.specs.{declared.drive_fault.DriveFault.DriveFault, Lent.Streams}
use Rattle.byte_streams.specs.declared.drive_fault.DriveFault.TheVariants.{Memory}
use Rattle.cell_drive.specs.{declared.protocol.Protocol.Protocol, declared.begin.DriveEnd.DriveEnd}
use Rattle.cell_drive.specs.{InProtocol.IsDriveIn, OneRun.IsRunOf, OneRun.NeverWentWrong, Session.SessionState}

-- the log of a session is the controlled run of some reports, through which all stayed as the plan promises
pub record StayedAsPromised (v : VerifiedPlan) (end : SessionState) : Type 0 where
  pub run : IsRunOf v.planned end.log.entries
  pub promised : NeverWentWrong v end.log.entries

-- so it is up to the line at which driving the cell of an accepted plan has come to an end, or was broken off by a read or a write that failed, or by an input that is too long
abbrev pub ABrokenDriveStaysAsPromised : Type 0
ABrokenDriveStaysAsPromised = (v : VerifiedPlan) (protocol : Protocol) (before after : Streams) (outcome : Result DriveEnd DriveFault) → IsVerified v → (outcome ≡ Err Memory → ⊥)
    → (is : IsDriveIn protocol v before after outcome) → StayedAsPromised v is.end
