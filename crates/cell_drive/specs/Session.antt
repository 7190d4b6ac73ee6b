-- A session: a controller, begun from any cell, and the log of its whole run, whose lines are read and answered by a protocol.
use Rattle.std.specs.Prelude.{◌≡◌, ℕ, ◌*◌, List, [], Option, Some}
use Rattle.shop_base.specs.{Plan.PlannedShop, Plan.IsWellShaped, Run.IsRun, Ends.stated_number}
use Rattle.plan_verifier.specs.Accepted.{VerifiedPlan}
use Rattle.cell_tables.specs.Events.{events_of}
use Rattle.cell_control.specs.Control.{Control, IsControl, control_at_start, verified_in}
use Rattle.event_lines.specs.declared.requests.Request.{Request}
use Rattle.run_log.specs.{Log.Noted, Audits.IsReplayed}
use Rattle.cell_drive.specs.{declared.protocol.Protocol.Protocol, declared.begin.DriveEnd.DriveEnd}
use Rattle.cell_drive.specs.{declared.resume.RestEnd.RestEnd, LineAnswers.IsClosingLine, AnswerText.DrivenCell}
use Rattle.cell_drive.specs.OneRun.{IsNeverFull, IsRunOf, IsSoFar, NeverWentWrong, cell_after}
use Rattle.cell_drive.specs.ProtocolText.{AsksFor, ProtocolAnswers}

-- its protocol, its controller and its log
pub record SessionState : Type 0 where
  pub protocol : Protocol
  pub control : Control
  pub log : Noted

-- these three as one value
abbrev pub session_by : Protocol → Control → Noted → SessionState
session_by protocol control log = record { protocol = protocol; control = control; log = log }

-- before the first line of a run that begins
abbrev pub session_start : Protocol → VerifiedPlan → SessionState
session_start protocol v = session_by protocol (control_at_start v) (record { entries = []; reserved = 2 * stated_number v.planned })

-- the log has a run of the plan, which leads to the controller's cell, and room for the rest of it
pub record HoldsRun (v : Control) (log : Noted) : Type 0 where
  pub shaped : IsWellShaped v.planned
  pub control : IsControl v
  pub replayed : IsReplayed v.planned v.cell log.entries
  pub reserved : log.reserved ≡ 2 * stated_number v.planned

-- its cell, and what was accepted and ordered in the whole run
abbrev pub seen : SessionState → DrivenCell
seen s = record { cell = s.control.cell; entries = s.log.entries }

-- the line of this number is answered by this text, by the cell and into the log
pub record SessionAnswer (start : SessionState) (number : ℕ) (line : Option (List ℕ)) (text : List ℕ) (end : SessionState) : Type 0 where
  pub answer : ProtocolAnswers start.control.planned start.protocol (seen start) number line text (seen end)
  pub plan : verified_in end.control ≡ verified_in start.control
  pub reserved : end.log.reserved ≡ start.log.reserved
  pub protocol : end.protocol ≡ start.protocol

-- the texts that answer a line of this number that isn't too long, by a controller and its log before and after it
abbrev pub AnsweredBy : Protocol → Control → Noted → ℕ → List ℕ → Control → Noted → List ℕ → Type 0
AnsweredBy protocol control log number line control_then log_then text = SessionAnswer (session_by protocol control log) number (Some line) text (session_by protocol control_then log_then)

-- the texts that answer any line of this number that asks for this
abbrev pub AnswersRequest : Protocol → Control → Noted → ℕ → Request → Control → Noted → List ℕ → Type 0
AnswersRequest protocol control log number request control_then log_then text =
    (line : List ℕ) → (line ≡ [] → ⊥) → AsksFor protocol.version_2 line request → AnsweredBy protocol control log number line control_then log_then text

-- the closing line
abbrev pub SessionCloses : SessionState → List ℕ → Type 0
SessionCloses s = IsClosingLine s.control.planned s.control.cell

-- what driving has come to, with the cell and the log at its end: the log and the plan; the log is the controlled run of some reports, which leads to that cell; how far that is, and that it was never full and all stayed as the plan promises
pub record IsEndOf (v : VerifiedPlan) (s : SessionState) (end : DriveEnd) : Type 0 where
  pub log : end.log ≡ s.log
  pub plan : end.verified ≡ v
  pub run : IsRunOf v.planned end.log.entries
  pub cell : s.control.cell ≡ cell_after v.planned end.log.entries
  pub so_far : IsSoFar v.planned end.log.entries end.done end.last end.left
  pub never_full : IsNeverFull v.planned end.log
  pub promised : NeverWentWrong v end.log.entries

-- what driving on has come to, with the cell and the log at its end: the log, which is a run of the plan and leads to that cell; how far that is, and that the log was never full
pub record IsRestEndOf (p : PlannedShop) (s : SessionState) (end : RestEnd) : Type 0 where
  pub log : end.log ≡ s.log
  pub run : IsRun p (events_of end.log.entries)
  pub cell : s.control.cell ≡ cell_after p end.log.entries
  pub so_far : IsSoFar p end.log.entries end.done end.last end.left
  pub never_full : IsNeverFull p end.log
