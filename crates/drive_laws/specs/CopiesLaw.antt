-- The laws on copies of what was accepted.
use Rattle.std.specs.Prelude.{◌≡◌, ℕ, List, ◌∷◌, ◌++◌, Option}
use Rattle.shop_base.specs.{Plan.PlannedShop, Plan.IsWellShaped, Run.IsRun}
use Rattle.cell_tables.specs.{declared.claim.Claim.Claim, Claims.claimed, declared.entry.Entry.Entry, declared.entry.Entry.TheVariants.Report as ReportEntry}
use Rattle.cell_tables.specs.Events.{events_of}
use Rattle.cell_control.specs.{Claims.CanClaim, OnceLaw.copy_at, OnceLaw.MayBeCopied}
use Rattle.byte_streams.specs.Answering.{AnswerAll}
use Rattle.event_lines.specs.declared.requests.Request.TheVariants.{Claim as ClaimRequest}
use Rattle.cell_drive.specs.{declared.protocol.Protocol.Protocol, AnswerText.DrivenCell, OneRun.cell_after}
use Rattle.cell_drive.specs.{Refusals.IsAdmissible, ProtocolText.CellRequests, ProtocolText.ProtocolAnswers, ProtocolText.AreProtocolAnswers}
use Rattle.cell_drive.specs.Resuming.{driven_so_far, IsRunToRest}

-- once a claim was accepted in a run, a copy of it, at whatever moment, is possible only where it may be copied after the events since
abbrev pub ARunRefusesCopies : Type 0
ARunRefusesCopies = (p : PlannedShop) (before after : List Entry) (claim : Claim) (t : ℕ) → IsWellShaped p → IsRun p (events_of (before ++ ReportEntry (claimed p claim) ∷ after))
    → CanClaim p (cell_after p before) claim → CanClaim p (cell_after p (before ++ ReportEntry (claimed p claim) ∷ after)) (copy_at claim t) → MayBeCopied p claim (events_of after)

-- a claim was accepted behind some lines, and then further lines were answered: a copy of it is possible only so
abbrev pub ADrivenCellRefusesCopies : Type 0
ADrivenCellRefusesCopies = (p : PlannedShop) (protocol : Protocol) (lines later : List (Option (List ℕ))) (before after end : DrivenCell) (number next : ℕ) (texts text others : List ℕ) (claim : Claim) (t : ℕ)
    → IsWellShaped p → AreProtocolAnswers p protocol lines texts before → IsAdmissible protocol p before.cell claim → CellRequests p protocol before number (ClaimRequest claim) text after
    → AnswerAll (ProtocolAnswers p protocol) after next later others end → CanClaim p end.cell (copy_at claim t)
    → (since : List Entry) × (end.entries ≡ before.entries ++ ReportEntry (claimed p claim) ∷ since) × MayBeCopied p claim (events_of since)

-- so it is while lines are answered behind a run to rest in which it was accepted
abbrev pub ARunThatGoesOnRefusesCopies : Type 0
ARunThatGoesOnRefusesCopies = (p : PlannedShop) (protocol : Protocol) (before after : List Entry) (claim : Claim) (t : ℕ) (lines : List (Option (List ℕ))) (number : ℕ) (text : List ℕ) (end : DrivenCell)
    → IsWellShaped p → IsRunToRest p (before ++ ReportEntry (claimed p claim) ∷ after) → CanClaim p (cell_after p before) claim
    → AnswerAll (ProtocolAnswers p protocol) (driven_so_far p (before ++ ReportEntry (claimed p claim) ∷ after)) number lines text end → CanClaim p end.cell (copy_at claim t)
    → (since : List Entry) × (end.entries ≡ before ++ ReportEntry (claimed p claim) ∷ since) × MayBeCopied p claim (events_of since)
