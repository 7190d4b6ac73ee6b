-- What a run that is recovered goes on to write.
use Rattle.std.specs.Prelude.{◌≡◌, ℕ, ◌≤◌, List, ◌∷◌, ◌++◌, length, take, drop, Some, Bool, true, Result, Ok, Err, IfOk, IfErr, MatchResult, ◌⊎◌}
use Rattle.std.specs.Io.KnownBytes.{Appends}
use Rattle.shop_base.specs.{declared.report.Report.Report, Plan.PlannedShop, Plan.IsWellShaped, Cell.start}
use Rattle.shop_base.specs.{Run.IsRun, Run.IsAtRest, Ahead.GoesOnTo}
use Rattle.text_lines.specs.Lines.{lines_of}
use Rattle.cell_tables.specs.{declared.entry.Entry.Entry, Events.events_of}
use Rattle.run_log.specs.{declared.audit_result.Audit.Audit, declared.audit_fault.AuditFault.AuditFault}
use Rattle.run_log.specs.declared.audit_fault.AuditFault.TheVariants.{Memory as OutOfMemory}
use Rattle.run_log.specs.Audits.{IsAudit, ParseAsRun}
use Rattle.event_lines.specs.EventLines.{entry_lines}
use Rattle.byte_streams.specs.{Sinks.TookPart, declared.drive_fault.DriveFault.DriveFault, Lent.Output, Lent.Streams}
use Rattle.byte_streams.specs.{declared.drive_fault.DriveFault.TheVariants.Write, declared.rooms.TheConstants.MAX_PIECE}
use Rattle.byte_streams.specs.{Lines.input_lines, Streams.IsStreamed, Answering.AnswerAll}
use Rattle.cell_drive.specs.{declared.protocol.Protocol.Protocol, declared.resume.RestEnd.RestEnd, OneRun.cell_after}
use Rattle.cell_drive.specs.{AnswerText.DrivenCell, AnswerText.CellCloses, AuditLaw.IsLogOf, AuditLaw.IsFoundAgain}
use Rattle.cell_drive.specs.{ProtocolText.ProtocolAnswers, Replay.replay_lines, Replay.replay_text}
use Rattle.cell_drive.specs.Session.{SessionState, SessionAnswer, SessionCloses, IsRestEndOf, session_by, seen}
use Rattle.cell_drive.specs.Recovered.{Recovered, IsRecoveredRun, plan_of, replayed_events, replayed_cell}

-- an empty line, the mark, and the lines of these events
abbrev pub marked : List Entry → List ℕ
marked entries = 10 ∷ entry_lines entries

-- the events that were recorded, by a protocol, an empty line, and the orders that were due
abbrev pub again_text : PlannedShop → Protocol → List Entry → List Bool → List ℕ
again_text p protocol entries late = replay_lines p protocol (start p) (take (length late) entries) late ++ marked (drop (length late) entries)

-- the cell after these events
abbrev pub driven_so_far : PlannedShop → List Entry → DrivenCell
driven_so_far p entries = record { cell = cell_after p entries; entries = entries }

-- the events once more, of which so many were recorded; then the answers to the lines of an input by a protocol, from there on, and the closing line
pub record IsResumedText (p : PlannedShop) (protocol : Protocol) (entries : List Entry) (late : List Bool) (input text : List ℕ) (end : DrivenCell) : Type 0 where
  pub answers : List ℕ
  pub are_answers : AnswerAll (ProtocolAnswers p protocol) (driven_so_far p entries) 1 (input_lines input) answers end
  pub closing : List ℕ
  pub is_closing : CellCloses p end closing
  pub whole : text ≡ again_text p protocol entries late ++ (answers ++ closing)

-- the mark, and the orders that are due
abbrev pub due_text : Recovered → List ℕ
due_text recovered = marked (drop (length recovered.late) recovered.log.entries)

-- the events of a run that was recovered which its log recorded, once more, and behind them the orders that are due
abbrev pub again_of : Protocol → Recovered → List ℕ
again_of protocol recovered = replay_text protocol recovered ++ due_text recovered

-- a write failed before all of this text was written, and nothing was read
abbrev pub IsCutAgain : List ℕ → Streams → Streams → Result RestEnd DriveFault → Type 0
IsCutAgain text before after outcome =
    (outcome ≡ Err Write) × (after.output.failed ≡ true) × (after.input ≡ before.input) × TookPart before.output.written after.output.written text

-- the session of a run that was recovered
abbrev pub session_from : Protocol → Recovered → SessionState
session_from protocol recovered = session_by protocol recovered.control recovered.log

-- this text was written, and behind it the answers to the input, which is read into a room of 65,536 bytes, are streamed from this session on. It comes to this end or this fault, with this cell and log
pub record IsContinuedRun (protocol : Protocol) (text : List ℕ) (recovered : Recovered) (before after : Streams) (outcome : Result RestEnd DriveFault) : Type 0 where
  pub from : IsRecoveredRun recovered
  pub middle : Output
  pub again : Appends before.output.written middle.written text
  pub unfailed : middle.failed ≡ before.output.failed
  pub end : SessionState
  pub streamed : IsStreamed outcome MAX_PIECE SessionAnswer SessionCloses (session_from protocol recovered) end (record { input = before.input; output = middle }) after
  pub came_to : IfOk outcome (IsRestEndOf (plan_of recovered) end)

-- either of these
abbrev pub WritesAndContinues : Protocol → List ℕ → Recovered → Streams → Streams → Result RestEnd DriveFault → Type 0
WritesAndContinues protocol text recovered before after outcome = IsCutAgain text before after outcome ⊎ IsContinuedRun protocol text recovered before after outcome

-- the events are a run of the plan, and lead to a cell at rest
abbrev pub IsRunToRest : PlannedShop → List Entry → Type 0
IsRunToRest p entries = IsRun p (events_of entries) × IsAtRest p (cell_after p entries)

-- such a text is by itself a log of the whole run
abbrev pub AResumedTextIsALog : Type 0
AResumedTextIsALog = (p : PlannedShop) (protocol : Protocol) (entries : List Entry) (late : List Bool) (input text : List ℕ) (end : DrivenCell) → IsWellShaped p
    → IsRunToRest p entries → length late ≤ length entries → IsResumedText p protocol entries late input text end → IsLogOf p text end

-- an input has one such text, which leads to one cell with one list of events
abbrev pub OneResumedText : Type 0
OneResumedText = (p : PlannedShop) (protocol : Protocol) (entries : List Entry) (late : List Bool) (input text other : List ℕ) (end last : DrivenCell) → IsWellShaped p
    → IsRunToRest p entries → IsResumedText p protocol entries late input text end → IsResumedText p protocol entries late input other last → (other ≡ text) × (last ≡ end)

-- what was written behind what stood there, where driving on succeeded, is such a text of what was read
abbrev pub WhatWasResumedIsSuchAText : Type 0
WhatWasResumedIsSuchAText = (protocol : Protocol) (recovered : Recovered) (end : RestEnd) (before after : Streams) (is : IsContinuedRun protocol (again_of protocol recovered) recovered before after (Ok end))
    → IsResumedText (plan_of recovered) protocol recovered.log.entries recovered.late is.streamed.input (again_of protocol recovered ++ (is.streamed.comes_to.text ++ is.streamed.comes_to.closing)) (seen is.end)

-- an audit of what was written finds what driving on came to, and its only fault is that it is out of memory
abbrev pub AnAuditKeepsWhatWasResumed : Type 0
AnAuditKeepsWhatWasResumed = (protocol : Protocol) (recovered : Recovered) (end : RestEnd) (before after : Streams) (start text : List ℕ) (outcome : Result Audit AuditFault)
    → WritesAndContinues protocol (again_of protocol recovered) recovered before after (Ok end)
    → before.output.written ≡ Some start → after.output.written ≡ Some (start ++ text)
    → IfOk outcome (IsAudit (plan_of recovered) (lines_of text))
    → (ParseAsRun (plan_of recovered) (lines_of text) → IfErr outcome (λ fault. fault ≡ OutOfMemory))
    → MatchResult outcome (IsFoundAgain (plan_of recovered) end.log.entries end.done end.last end.left) (λ fault. fault ≡ OutOfMemory)

-- after the events that the log recorded come those of the controlled run that goes on from their cell, at the moment at which the controller began
pub record ContinuesFrom (recovered : Recovered) (end : RestEnd) : Type 0 where
  pub later : List Entry
  pub whole : end.log.entries ≡ replayed_events recovered ++ later
  pub reports : List Report
  pub goes_on : GoesOnTo (plan_of recovered) (replayed_cell recovered) recovered.control.began reports (events_of later) (cell_after (plan_of recovered) end.log.entries)

-- so it is where driving on succeeded
abbrev pub WhatWasResumedGoesOn : Type 0
WhatWasResumedGoesOn = (text : List ℕ) (protocol : Protocol) (recovered : Recovered) (end : RestEnd) (before after : Streams) → IsContinuedRun protocol text recovered before after (Ok end) → ContinuesFrom recovered end
