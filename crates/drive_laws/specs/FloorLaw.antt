-- The law that a program which sends only what has ended on its floor never has a part ordered wrongly.
use Rattle.std.specs.Prelude.{◌≡◌, ◌==◌, ℕ, zero, suc, ◌<◌, ◌≤◌, List, [], ◌∷◌, ◌++◌, Option, Some, if◌then◌else◌}
use Rattle.shop_base.specs.declared.move_order.Spot.TheVariants.{At}
use Rattle.shop_base.specs.{Run.Event, Run.Reported, Run.Moved, Run.after, Run.IsRun}
use Rattle.shop_base.specs.{declared.move_order.MoveOrder.MoveOrder, Plan.PlannedShop, Plan.clean, Plan.IsWellShaped}
use Rattle.shop_base.specs.{declared.report.Report.Report, AtMostOnceLaw.HasLeft, Cell.Cell, Cell.start, Report.at}
use Rattle.cell_tables.specs.{declared.claim.Claim.Claim, Claims.claim_moment, declared.entry.Entry.Entry, Events.events_of}
use Rattle.cell_control.specs.OnceLaw.{NamedEnd, Arrived, Finished, Cleaned, ReportsEnd, Names}
use Rattle.byte_streams.specs.Answering.{AnswerAll}
use Rattle.event_lines.specs.declared.requests.Request.{Request, TheVariants.Claim as ClaimRequest}
use Rattle.cell_drive.specs.{declared.protocol.Protocol.Protocol, AnswerText.DrivenCell, ProtocolCells.AsksCell}
use Rattle.cell_drive.specs.ProtocolText.{AsksFor, AreProtocolAnswers, ProtocolAnswers}
use Rattle.cell_drive.specs.{ProtocolCellsLaw.SeesLines, Resuming.driven_so_far}

-- what has ended so far on a floor, in one run: each arrival, each operation and each cleaning after a step of a job, and at which moment
abbrev pub Floor : Type 0
Floor = NamedEnd → Option ℕ

-- this has ended, at this moment or before
abbrev pub HasEndedBy : Floor → NamedEnd → ℕ → Type 0
HasEndedBy floor ended t = (s : ℕ) × (floor ended ≡ Some s) × (s ≤ t)

-- ---- what is ordered

-- how many moves of a job are among these events
abbrev pub moves_of : ℕ → List Event → ℕ
moves_of job [] = 0
moves_of job (Reported r ∷ es) = moves_of job es
moves_of job (Moved o ∷ es) = if o.job == job then suc (moves_of job es) else moves_of job es

-- the end of what a job does behind so many moves: it arrives, or is worked in the step that it has entered last
abbrev pub end_behind : ℕ → ℕ → NamedEnd
end_behind job zero = Arrived job
end_behind job (suc k) = Finished job k

-- an order behind these events is right: what its job did where it stands has ended; each job that was ordered onto its target has been ordered away from there, and the cleaning after the step in which one was there has ended, if there is one
pub record IsRight (floor : Floor) (p : PlannedShop) (es : List Event) (o : MoveOrder) : Type 0 where
  pub own : HasEndedBy floor (end_behind o.job (moves_of o.job es)) o.at
  pub free : (m : ℕ) (before between : List Event) (earlier : MoveOrder) → es ≡ before ++ Moved earlier ∷ between → o.target ≡ At m → earlier.target ≡ At m → HasLeft earlier.job m between
  pub cleaned : (m k : ℕ) (before between : List Event) (earlier : MoveOrder) → es ≡ before ++ Moved earlier ∷ between → o.target ≡ At m → earlier.source ≡ At m → moves_of earlier.job before ≡ suc k → 0 < clean p m
      → HasEndedBy floor (Cleaned m earlier.job k) o.at

-- so is each order among these events
abbrev pub AreRight : Floor → PlannedShop → List Event → Type 0
AreRight floor p es = (before later : List Event) (o : MoveOrder) → es ≡ before ++ Moved o ∷ later → IsRight floor p before o

-- ---- what is reported

-- the report says what has ended by its moment
abbrev pub IsTrueReport : Floor → PlannedShop → Cell → Report → Type 0
IsTrueReport floor p c r = (ended : NamedEnd) × ReportsEnd p c r ended × HasEndedBy floor ended (at r)

-- so does each report among these events, from this cell on
abbrev pub AreTrue : Floor → PlannedShop → Cell → List Event → Type 0
AreTrue floor p c [] = Unit {0}
AreTrue floor p c (Reported r ∷ es) = IsTrueReport floor p c r × AreTrue floor p (after p c (Reported r)) es
AreTrue floor p c (Moved o ∷ es) = AreTrue floor p (after p c (Moved o)) es

-- in any run whose reports do, each order is right
abbrev pub NothingIsOrderedWrongly : Type 0
NothingIsOrderedWrongly = (floor : Floor) (p : PlannedShop) (es : List Event) → IsWellShaped p → IsRun p es → AreTrue floor p (start p) es → AreRight floor p es

-- ---- what is sent

-- the claim names what has ended by its moment: so it isn't `clean M T`, and has no machine that the job visits again in place of a step
abbrev pub IsTruthful : Floor → PlannedShop → Claim → Type 0
IsTruthful floor p claim = (ended : NamedEnd) × Names p claim ended × HasEndedBy floor ended (claim_moment claim)

-- whatever is claimed by the line, if it asks for anything, is so
abbrev pub SaysTruth : Floor → PlannedShop → (List ℕ → Request → Type 0) → Option (List ℕ) → Type 0
SaysTruth floor p asks line = (words : List ℕ) (claim : Claim) → line ≡ Some words → asks words (ClaimRequest claim) → IsTruthful floor p claim

-- and by each of these lines
abbrev pub SayTruth : Floor → PlannedShop → (List ℕ → Request → Type 0) → List (Option (List ℕ)) → Type 0
SayTruth floor p asks [] = Unit {0}
SayTruth floor p asks (line ∷ lines) = SaysTruth floor p asks line × SayTruth floor p asks lines

-- each order that answers such lines is right
abbrev pub ADrivenCellOrdersRightly : Type 0
ADrivenCellOrdersRightly = (floor : Floor) (p : PlannedShop) (protocol : Protocol) (lines : List (Option (List ℕ))) (text : List ℕ) (end : DrivenCell) → IsWellShaped p
    → AreProtocolAnswers p protocol lines text end → SayTruth floor p (AsksFor protocol.version_2) lines → AreRight floor p (events_of end.entries)

-- also behind the events of a log, whose reports tell the truth
abbrev pub ARunThatGoesOnOrdersRightly : Type 0
ARunThatGoesOnOrdersRightly = (floor : Floor) (p : PlannedShop) (protocol : Protocol) (entries : List Entry) (lines : List (Option (List ℕ))) (number : ℕ) (text : List ℕ) (end : DrivenCell) → IsWellShaped p
    → IsRun p (events_of entries) → AreTrue floor p (start p) (events_of entries) → AnswerAll (ProtocolAnswers p protocol) (driven_so_far p entries) number lines text end
    → SayTruth floor p (AsksFor protocol.version_2) lines → AreRight floor p (events_of end.entries)

-- and in each cell of several, of whose lines those are such that ask something of it
abbrev pub EachCellOrdersRightly : Type 0
EachCellOrdersRightly = (floor : Floor) (p : PlannedShop) (protocol : Protocol) (cell number : ℕ) (lines : List (Option (List ℕ))) (events : List Entry) (end : Cell) → IsWellShaped p
    → SeesLines p protocol cell number (start p) lines events end → SayTruth floor p (λ words. AsksCell protocol.version_2 words cell) lines → AreRight floor p (events_of events)
