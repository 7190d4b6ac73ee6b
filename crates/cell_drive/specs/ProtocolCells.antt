-- Several cells that are driven by a protocol, in the order of their numbers.
use Rattle.std.specs.Prelude.{◌≡◌, ◌↔◌, ℕ, List, codes, Bool, true, false, Option, None, Some, IsTrue, Result, IfOk, OnOk, slice_get, slice_set}
use Rattle.shop_base.specs.Cell.{Cell}
use Rattle.plan_verifier.specs.Accepted.{VerifiedPlan}
use Rattle.cell_tables.specs.declared.entry.Entry.{Entry}
use Rattle.byte_streams.specs.{declared.drive_fault.DriveFault.DriveFault, Lent.Streams}
use Rattle.event_lines.specs.{AnswerLines.refused_line, SentLines.IsCellReport, SentLines.cell_prefix}
use Rattle.event_lines.specs.{Requests.IsCellRequest, declared.requests.Request.Request}
use Rattle.cell_tables.specs.declared.claim.Claim.TheVariants.{Report}
use Rattle.event_lines.specs.declared.requests.Request.TheVariants.{Claim as ClaimRequest, Status}
use Rattle.cell_drive.specs.{declared.protocol.Protocol.Protocol, declared.hub.HubEnd.HubEnd, OneRun.IsStreamedFrom}
use Rattle.cell_drive.specs.{LineAnswers.SaysOnly, LineAnswers.LineAnswer, ProtocolText.RequestAnswer}
use Rattle.cell_drive.specs.ManyCells.{HubCell, hub_start, AreVerified, CellsClose, AreAllDone}

-- the line asks this of the cell of this number: in version 1 of the lines it is a report on it, in version 2 whatever is a request
abbrev pub AsksCell : Bool → List ℕ → ℕ → Request → Type 0
AsksCell true line cell request = IsCellRequest line cell request
AsksCell false line cell (ClaimRequest (Report report)) = IsCellReport line cell report
AsksCell false line cell _ = ⊥

-- it asks nothing of any cell
abbrev pub AsksNoCell : Bool → List ℕ → Type 0
AsksNoCell version_2 line = (cell : ℕ) (request : Request) → AsksCell version_2 line cell request → ⊥

-- what is asked of the cell of a number
pub record OfCell : Type 0 where
  pub cell : ℕ
  pub request : Request

-- by a line
abbrev pub AsksOf : Bool → List ℕ → OfCell → Type 0
AsksOf version_2 line asked = AsksCell version_2 line asked.cell asked.request

-- the cell answers what it is asked, with its number before each line, and the others stay as they are
pub record IsCellReply (protocol : Protocol) (c : HubCell) (cells : List HubCell) (number : ℕ) (asked : OfCell) (text : List ℕ) (end : List HubCell) : Type 0 where
  pub events : List Entry
  pub next : Cell
  pub answer : RequestAnswer c.plan.planned protocol (cell_prefix asked.cell) c.cell number asked.request text events next
  pub end_is : end ≡ slice_set cells asked.cell (record { plan = c.plan; cell = next })

-- what is asked is answered by the cell of its number, where there is one
abbrev pub IsReplyIn : Protocol → Option HubCell → List HubCell → ℕ → OfCell → List ℕ → List HubCell → Type 0
IsReplyIn protocol None cells number asked text end = SaysOnly (refused_line number (codes "NoSuchCell")) cells text end
IsReplyIn protocol (Some c) cells number asked text end = IsCellReply protocol c cells number asked text end

abbrev pub CellsReply : Protocol → List HubCell → ℕ → OfCell → List ℕ → List HubCell → Type 0
CellsReply protocol cells number asked text end = IsReplyIn protocol (slice_get cells asked.cell) cells number asked text end

-- and so is a line
abbrev pub ProtocolCellsAnswer : Protocol → List HubCell → ℕ → Option (List ℕ) → List ℕ → List HubCell → Type 0
ProtocolCellsAnswer protocol = LineAnswer (AsksOf protocol.version_2) (CellsReply protocol)

-- these cells, and the protocol
pub record HubOfCells : Type 0 where
  pub protocol : Protocol
  pub cells : List HubCell

-- a protocol and cells, as one
abbrev pub hub_of : Protocol → List HubCell → HubOfCells
hub_of protocol cells = record { protocol = protocol; cells = cells }

-- before the first line
abbrev pub hub_of_plans : Protocol → List VerifiedPlan → HubOfCells
hub_of_plans protocol plans = hub_of protocol (hub_start plans)

-- the line of this number is answered by this text
pub record HubAnswer (start : HubOfCells) (number : ℕ) (line : Option (List ℕ)) (text : List ℕ) (end : HubOfCells) : Type 0 where
  pub answer : ProtocolCellsAnswer start.protocol start.cells number line text end.cells
  pub protocol : end.protocol ≡ start.protocol

-- the closing lines
abbrev pub HubCloses : HubOfCells → List ℕ → Type 0
HubCloses s = CellsClose 0 s.cells

-- the cells of these plans, which are accepted ones, were driven by this protocol from their starts to this end, and all are done exactly where the run of each has ended; or driving them was broken off by this fault
pub record AreDrivesIn (protocol : Protocol) (plans : List VerifiedPlan) (before after : Streams) (outcome : Result HubEnd DriveFault) : Type 0 where
  pub end : HubOfCells
  pub streamed : IsStreamedFrom HubAnswer HubCloses (hub_of_plans protocol plans) outcome end before after
  pub done : IfOk outcome (λ come_to. IsTrue come_to.all_done ↔ AreAllDone end.cells)
  pub verified : OnOk outcome (AreVerified plans)
