-- The law that the events of a log of a controlled run are written once more as they were answered.
use Rattle.std.specs.Prelude.{◌≡◌, ℕ, List, [], ◌∷◌, ◌++◌, Bool, Option, Some, length, take, drop}
use Rattle.shop_base.specs.{Plan.PlannedShop, Plan.IsWellShaped, Cell.Cell, Cell.start, Run.after}
use Rattle.cell_tables.specs.{declared.entry.Entry.Entry, Events.event_of}
use Rattle.cell_tables.specs.declared.entry.Entry.TheVariants.{Report as ReportEntry, Order as OrderEntry}
use Rattle.cell_tables.specs.{declared.claim.Claim.Claim, Claims.claimed}
use Rattle.event_lines.specs.{EventLines.entry_lines, SentLines.IsReportLine}
use Rattle.event_lines.specs.declared.requests.Request.TheVariants.{Claim as ClaimRequest}
use Rattle.cell_drive.specs.{declared.protocol.Protocol.Protocol, AnswerText.AreAnswersTo, CutLogs.IsCutLogOf}
use Rattle.cell_drive.specs.{LateEvents.AreLate, OneRun.cell_after, Refusals.IsAdmissible, Replay.replay_lines}
use Rattle.cell_drive.specs.ProtocolText.{AsksFor, AreProtocolAnswers, prints_end, end_part}
use Rattle.cell_drive.specs.{PlainLines.plain_lines, Resuming.driven_so_far}

-- the lines of an input are the reports among these events, one after another, and nothing else
abbrev pub AreReportLines : List (Option (List ℕ)) → List Entry → Type 0
AreReportLines lines [] = lines ≡ []
AreReportLines lines (ReportEntry report ∷ entries) = (line : List ℕ) × (rest : List (Option (List ℕ))) × IsReportLine line report × AreReportLines rest entries × (lines ≡ Some line ∷ rest)
AreReportLines lines (OrderEntry order ∷ entries) = AreReportLines lines entries

-- what is written once more of a log of a controlled run and the orders that are due, without the mark between them, is what `drive` answers to the reports of the log
abbrev pub ReplayAsAnswered : Type 0
ReplayAsAnswered = (p : PlannedShop) (log : List (List ℕ)) (entries : List Entry) (late : List Bool) (lines : List (Option (List ℕ)))
    → IsCutLogOf p log entries (length late) → AreLate p (start p) (take (length late) entries) late → AreReportLines lines entries
    → AreAnswersTo p lines (plain_lines (take (length late) entries) late ++ entry_lines (drop (length late) entries)) (driven_so_far p entries)

-- the lines of an input claim the reports among these events, one after another and nothing else, each so that it is accepted by a protocol, from this cell on
abbrev pub AreClaimLines : PlannedShop → Protocol → Cell → List (Option (List ℕ)) → List Entry → Type 0
AreClaimLines p protocol c lines [] = lines ≡ []
AreClaimLines p protocol c lines (ReportEntry report ∷ entries) =
    (line : List ℕ) × (claim : Claim) × (rest : List (Option (List ℕ))) × AsksFor protocol.version_2 line (ClaimRequest claim) × (claimed p claim ≡ report) × IsAdmissible protocol p c claim
    × AreClaimLines p protocol (after p c (event_of (ReportEntry report))) rest entries × (lines ≡ Some line ∷ rest)
AreClaimLines p protocol c lines (OrderEntry order ∷ entries) = AreClaimLines p protocol (after p c (event_of (OrderEntry order))) lines entries

-- `done T`, where these events have ended the run, and that is printed at once
abbrev pub end_behind_log : PlannedShop → Protocol → List Entry → List ℕ
end_behind_log p protocol entries = end_part [] (cell_after p entries).last (prints_end protocol p (cell_after p entries))

-- so it is by each protocol, with `done T` at once behind it where that is answered
abbrev pub ReplayInProtocol : Type 0
ReplayInProtocol = (p : PlannedShop) (protocol : Protocol) (log : List (List ℕ)) (entries : List Entry) (late : List Bool) (lines : List (Option (List ℕ))) → IsWellShaped p
    → IsCutLogOf p log entries (length late) → AreLate p (start p) (take (length late) entries) late → AreClaimLines p protocol (start p) lines entries
    → AreProtocolAnswers p protocol lines (replay_lines p protocol (start p) (take (length late) entries) late ++ (entry_lines (drop (length late) entries) ++ end_behind_log p protocol entries)) (driven_so_far p entries)
