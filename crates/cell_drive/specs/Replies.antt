-- How a cell answers a request. No public clause cites this module.
use Rattle.std.specs.Prelude.{◌≡◌, ℕ, List, [], ◌∷◌, map, Option, None, Some, Bool}
use Rattle.shop_base.specs.declared.report.Report.{Report}
use Rattle.cell_tables.specs.{declared.claim.Claim.Claim, Claims.claimed, declared.entry.Entry.Entry}
use Rattle.cell_tables.specs.declared.entry.Entry.TheVariants.{Report as ReportEntry, Order as OrderEntry}
use Rattle.cell_control.specs.Control.{Control, IsAnswered}
use Rattle.event_lines.specs.declared.requests.Request.{Request}
use Rattle.cell_drive.specs.declared.protocol.Protocol.{Protocol}
use Rattle.event_lines.specs.declared.details.Overdue.{Overdue}
use Rattle.cell_drive.specs.ProtocolText.{IsClaimAccepted, IsClaimRefused, RequestAnswer, acceptance_lines, prints_end, refusal_prefix}

-- a controller accepts this report, late or not, or nothing changes
abbrev pub HasAccepted : Control → Option Report → Control → Type 0
HasAccepted v None new = new ≡ v
HasAccepted v (Some report) new = (late : Bool) × IsAnswered v report (record { late = late }) new

-- the events that this adds
abbrev pub accepted_events : Control → Option Report → List Entry
accepted_events new None = []
accepted_events new (Some report) = ReportEntry report ∷ map OrderEntry new.orders

-- the lines of a report that was accepted, late or not, with this before each, where the controller is such behind it
abbrev pub reported_lines : Protocol → List ℕ → Control → Report → Bool → Option Overdue → List ℕ
reported_lines protocol prefix new report late overdue = acceptance_lines prefix report late overdue new.orders (prints_end protocol new.planned new.cell)

-- the texts by which the claim is accepted, with this before each line, where the controller is such before it and behind it
abbrev pub AcceptedBy : Protocol → List ℕ → Control → Claim → Control → List ℕ → Type 0
AcceptedBy protocol prefix v claim new text = IsClaimAccepted v.planned protocol prefix v.cell claim text (accepted_events new (Some (claimed v.planned claim))) new.cell

-- those by which it is refused
abbrev pub RefusedBy : Protocol → List ℕ → Control → ℕ → Claim → List ℕ → Type 0
RefusedBy protocol prefix v number claim text = IsClaimRefused v.planned protocol (refusal_prefix protocol prefix) v.cell number claim text [] v.cell

-- those by which the request is answered, where this report is accepted
abbrev pub RepliesBy : Protocol → List ℕ → Control → ℕ → Request → Option Report → Control → List ℕ → Type 0
RepliesBy protocol prefix v number request accepted new text = RequestAnswer v.planned protocol prefix v.cell number request text (accepted_events new accepted) new.cell
