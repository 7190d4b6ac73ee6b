-- What driving a cell by any protocol comes to.
use Rattle.std.specs.Prelude.{◌≡◌, Result, IfOk}
use Rattle.plan_verifier.specs.Accepted.{VerifiedPlan}
use Rattle.cell_control.specs.Control.{verified_in}
use Rattle.byte_streams.specs.{declared.drive_fault.DriveFault.DriveFault, Lent.Streams, Lent.SinkState}
use Rattle.cell_drive.specs.{declared.protocol.Protocol.Protocol, declared.begin.DriveEnd.DriveEnd}
use Rattle.cell_drive.specs.{declared.resume.RestEnd.RestEnd, OneRun.IsStreamedFrom}
use Rattle.cell_drive.specs.Session.{SessionState, SessionAnswer, SessionCloses, IsEndOf, session_start}
use Rattle.cell_drive.specs.{Recovered.Recovered, Resuming.WritesAndContinues, Resuming.again_of, Resuming.due_text}
use Rattle.cell_drive.specs.Replay.{IsReplayWritten, replay_text}

-- a run that has begun: its plan, and the protocol by which it is to be driven
pub record BegunRun : Type 0 where
  pub protocol : Protocol
  pub verified : VerifiedPlan

-- these two as one value
abbrev pub begun_in : Protocol → VerifiedPlan → BegunRun
begun_in protocol v = record { protocol = protocol; verified = v }

-- those of a session
abbrev pub begun_by : SessionState → BegunRun
begun_by s = begun_in s.protocol (verified_in s.control)

-- a session before its first line
abbrev pub IsUndriven : SessionState → Type 0
IsUndriven s = s ≡ session_start s.protocol (verified_in s.control)

-- the cell of the plan was driven by this protocol from its start to this end; or driving it was broken off by this fault
pub record IsDriveIn (protocol : Protocol) (v : VerifiedPlan) (before after : Streams) (outcome : Result DriveEnd DriveFault) : Type 0 where
  pub end : SessionState
  pub streamed : IsStreamedFrom SessionAnswer SessionCloses (session_start protocol v) outcome end before after
  pub came_to : IfOk outcome (IsEndOf v end)

-- the events of a run that was recovered were written again by this protocol
abbrev pub IsReplayedIn : {T : Type 0} → Protocol → Recovered → SinkState → SinkState → Result T DriveFault → Type 0
IsReplayedIn protocol recovered = IsReplayWritten (replay_text protocol recovered)

-- behind the events, which were written again, the run was driven on by this protocol to this end; or that was broken off by this fault
abbrev pub IsContinuedIn : Protocol → Recovered → Streams → Streams → Result RestEnd DriveFault → Type 0
IsContinuedIn protocol recovered = WritesAndContinues protocol (due_text recovered) recovered

-- the events of the run that was recovered were written again by this protocol, and it was driven on
abbrev pub IsResumeIn : Protocol → Recovered → Streams → Streams → Result RestEnd DriveFault → Type 0
IsResumeIn protocol recovered = WritesAndContinues protocol (again_of protocol recovered) recovered
