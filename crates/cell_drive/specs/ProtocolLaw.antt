-- The laws of cells that are driven by a protocol.
use Rattle.std.specs.Prelude.{◌≡◌, ℕ, List, ◌∷◌, ◌++◌, Option, None, Some, Bool, false, Result, Ok, IfOk, IfErr, MatchResult}
use Rattle.shop_base.specs.{Plan.PlannedShop, Plan.IsWellShaped, Cell.Cell, Run.IsRun, Punctual.IsPunctual}
use Rattle.shop_base.specs.{Sound.IsSound, Report.at}
use Rattle.shop_base.specs.declared.report.Report.{Report}
use Rattle.text_lines.specs.Lines.{lines_of}
use Rattle.plan_verifier.specs.Accepted.{VerifiedPlan}
use Rattle.cell_tables.specs.{declared.claim.Claim.Claim, declared.entry.Entry.Entry, declared.entry.Entry.TheVariants.Report as ReportEntry}
use Rattle.cell_tables.specs.Events.{events_of}
use Rattle.cell_control.specs.{Claims.CanClaim, OnceLaw.NamedEnd, OnceLaw.ReportsEnd, OnceLaw.Names}
use Rattle.cell_control.specs.Control.{verified_in}
use Rattle.run_log.specs.{declared.audit_result.Audit.Audit, declared.audit_fault.AuditFault.AuditFault}
use Rattle.run_log.specs.{declared.audit_fault.AuditFault.TheVariants.Memory, Audits.IsAudit, Audits.ParseAsRun}
use Rattle.byte_streams.specs.{Lent.Streams, Answering.AnswerAll}
use Rattle.event_lines.specs.declared.requests.Request.TheVariants.{Claim as ClaimRequest}
use Rattle.cell_drive.specs.{declared.protocol.Protocol.Protocol, Protocols.plain_from}
use Rattle.cell_drive.specs.{AnswerText.DrivenCell, AnswerText.CellAnswers, declared.begin.DriveEnd.DriveEnd}
use Rattle.cell_drive.specs.{AuditLaw.IsFoundAgain, Session.SessionState, Session.SessionAnswer, Session.seen}
use Rattle.cell_drive.specs.{InProtocol.IsDriveIn, Replay.replay_lines, PlainLines.plain_lines, OneRun.cell_after}
use Rattle.cell_drive.specs.{Refusals.IsAdmissible, Refusals.standing_of, States.overdue_in}
use Rattle.cell_drive.specs.ProtocolText.{ProtocolAnswers, CellRequests, AreProtocolAnswers, IsProtocolText}

-- by each protocol an input has one answer text at most, which leads to one cell with one list of events
abbrev pub OneAnswerText : Type 0
OneAnswerText = (p : PlannedShop) (protocol : Protocol) (input text other : List ℕ) (end last : DrivenCell)
    → IsWellShaped p → IsProtocolText p protocol input text end → IsProtocolText p protocol input other last → (other ≡ text) × (last ≡ end)

-- and so have its first lines
abbrev pub OneTextForLines : Type 0
OneTextForLines = (p : PlannedShop) (protocol : Protocol) (lines : List (Option (List ℕ))) (text other : List ℕ) (end last : DrivenCell)
    → IsWellShaped p → AreProtocolAnswers p protocol lines text end → AreProtocolAnswers p protocol lines other last → (other ≡ text) × (last ≡ end)

-- what a session answers to lines is what its cell answers to them by its plan, which stays
abbrev pub ASessionAnswersSo : Type 0
ASessionAnswersSo = (s end : SessionState) (number : ℕ) (lines : List (Option (List ℕ))) (text : List ℕ) → AnswerAll SessionAnswer s number lines text end
    → AnswerAll (ProtocolAnswers s.control.planned s.protocol) (seen s) number lines text (seen end) × (verified_in end.control ≡ verified_in s.control)

-- an audit of what was written by a protocol finds what driving came to, and its only fault is that it is out of memory. The premises are what is promised of success in driving, into an output whose bytes are known, and of an audit
abbrev pub AnAuditKeepsWhatWasDriven : Type 0
AnAuditKeepsWhatWasDriven = (v : VerifiedPlan) (protocol : Protocol) (end : DriveEnd) (before after : Streams) (start text : List ℕ) (outcome : Result Audit AuditFault)
    → IsWellShaped v.planned → IsDriveIn protocol v before after (Ok end) → before.output.written ≡ Some start → after.output.written ≡ Some (start ++ text)
    → IfOk outcome (IsAudit v.planned (lines_of text))
    → (ParseAsRun v.planned (lines_of text) → IfErr outcome (λ fault. fault ≡ Memory))
    → MatchResult outcome (IsFoundAgain v.planned end.log.entries end.done end.last end.left) (λ fault. fault ≡ Memory)

-- in version 1 of the lines, and with no leap, lines are answered as `drive` answers them
abbrev pub PlainlyAsEver : Type 0
PlainlyAsEver = (p : PlannedShop) (from number : ℕ) (lines : List (Option (List ℕ))) (text : List ℕ) (start end : DrivenCell)
    → AnswerAll (ProtocolAnswers p (plain_from from)) start number lines text end → AnswerAll (CellAnswers p) start number lines text end

-- in version 1 the events of a log are written again each by its line, and that of a late report by the line that it was late
abbrev pub PlainReplay : Type 0
PlainReplay = (p : PlannedShop) (protocol : Protocol) (c : Cell) (entries : List Entry) (late : List Bool) → protocol.version_2 ≡ false → replay_lines p protocol c entries late ≡ plain_lines entries late

-- once an end was reported in a run, it can't be claimed by its name, at whatever moment
abbrev pub NothingOfARunIsClaimedAgain : Type 0
NothingOfARunIsClaimedAgain = (p : PlannedShop) (before after : List Entry) (report : Report) (again : Claim) (ended : NamedEnd) → IsWellShaped p → IsRun p (events_of (before ++ ReportEntry report ∷ after))
    → ReportsEnd p (cell_after p before) report ended → Names p again ended → CanClaim p (cell_after p (before ++ ReportEntry report ∷ after)) again → ⊥

-- a claim that names an end was accepted behind some lines, and then further lines were answered: this end can't be claimed by its name again, at whatever moment
abbrev pub NothingIsAcceptedTwice : Type 0
NothingIsAcceptedTwice = (p : PlannedShop) (protocol : Protocol) (lines later : List (Option (List ℕ))) (before after end : DrivenCell) (number next : ℕ) (texts text others : List ℕ) (claim again : Claim) (ended : NamedEnd)
    → IsWellShaped p → AreProtocolAnswers p protocol lines texts before → IsAdmissible protocol p before.cell claim → CellRequests p protocol before number (ClaimRequest claim) text after
    → AnswerAll (ProtocolAnswers p protocol) after next later others end → Names p claim ended → Names p again ended → CanClaim p end.cell again → ⊥

-- where a report finds nothing overdue, it is punctual: so of each late one something is printed
abbrev pub ALateReportFindsSomethingOverdue : Type 0
ALateReportFindsSomethingOverdue = (p : PlannedShop) (c : Cell) (report : Report) → IsSound p c → overdue_in p c (standing_of p c report) (at report) ≡ None → IsPunctual p c report
