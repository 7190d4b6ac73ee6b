-- The laws of several cells that are driven by a protocol.
use Rattle.std.specs.Prelude.{◌≡◌, ◌↔◌, ℕ, ◌+◌, List, [], ◌∷◌, ◌++◌, Bool, Option, Some, slice_get}
use Rattle.shop_base.specs.{declared.report.Report.Report, Plan.PlannedShop, Cell.Cell, Cell.start}
use Rattle.shop_base.specs.{Controlled.IsControlledRun, Ends.stated_number, Ends.reports_in, Ends.HasEnded}
use Rattle.plan_verifier.specs.Accepted.{VerifiedPlan}
use Rattle.cell_tables.specs.{declared.entry.Entry.Entry, Events.events_of}
use Rattle.byte_streams.specs.{Lines.input_lines, Answering.AnswerAll}
use Rattle.event_lines.specs.{SentLines.cell_prefix, declared.requests.Request.Request}
use Rattle.cell_drive.specs.{declared.protocol.Protocol.Protocol, Protocols.plain_from, OneRun.StaysAsPromised}
use Rattle.cell_drive.specs.ManyCells.{HubCell, hub_start, AreVerified, CellsAnswer, CellsClose}
use Rattle.cell_drive.specs.{ProtocolText.RequestAnswer, ProtocolCells.AsksCell, ProtocolCells.ProtocolCellsAnswer}

-- the first lines of an input of cells by these plans are answered by this text
abbrev pub AreCellsAnswers : List VerifiedPlan → Protocol → List (Option (List ℕ)) → List ℕ → List HubCell → Type 0
AreCellsAnswers plans protocol lines text end = AnswerAll (ProtocolCellsAnswer protocol) (hub_start plans) 1 lines text end

-- the first lines of an input have one text of answers at most, which leads to one list of what the cells hold
abbrev pub OneCellsTextForLines : Type 0
OneCellsTextForLines = (plans : List VerifiedPlan) (protocol : Protocol) (lines : List (Option (List ℕ))) (text other : List ℕ) (end last : List HubCell)
    → AreVerified plans → AreCellsAnswers plans protocol lines text end → AreCellsAnswers plans protocol lines other last → (other ≡ text) × (last ≡ end)

-- the answer text of an input: the answers to its lines, in order, and the cells' closing lines
pub record IsCellsText (plans : List VerifiedPlan) (protocol : Protocol) (input text : List ℕ) (end : List HubCell) : Type 0 where
  pub answers : List ℕ
  pub are_answers : AreCellsAnswers plans protocol (input_lines input) answers end
  pub closing : List ℕ
  pub is_closing : CellsClose 0 end closing
  pub whole : text ≡ answers ++ closing

-- and an input has one answer text at most
abbrev pub OneCellsText : Type 0
OneCellsText = (plans : List VerifiedPlan) (protocol : Protocol) (input text other : List ℕ) (end last : List HubCell)
    → AreVerified plans → IsCellsText plans protocol input text end → IsCellsText plans protocol input other last → (other ≡ text) × (last ≡ end)

-- the line asks nothing of the cell of this number
abbrev pub AsksNotOf : Bool → ℕ → Option (List ℕ) → Type 0
AsksNotOf version_2 cell line = (words : List ℕ) (request : Request) → line ≡ Some words → AsksCell version_2 words cell request → ⊥

-- these lines, from a number on, as the cell of a number sees them: those that ask something of it are answered by it alone, with these events, and by the others nothing changes in it
pub data SeesLines (p : PlannedShop) (protocol : Protocol) (cell : ℕ) : ℕ → Cell → List (Option (List ℕ)) → List Entry → Cell → Type 0 where
  none_left : (number : ℕ) (c : Cell) → SeesLines p protocol cell number c [] [] c
  asked : (number : ℕ) (words : List ℕ) (lines : List (Option (List ℕ))) (c next end : Cell) (request : Request) (text : List ℕ) (events more : List Entry) → AsksCell protocol.version_2 words cell request
      → RequestAnswer p protocol (cell_prefix cell) c number request text events next → SeesLines p protocol cell (number + 1) next lines more end
      → SeesLines p protocol cell number c (Some words ∷ lines) (events ++ more) end
  passed_over : (number : ℕ) (line : Option (List ℕ)) (lines : List (Option (List ℕ))) (c end : Cell) (more : List Entry) → AsksNotOf protocol.version_2 cell line
      → SeesLines p protocol cell (number + 1) c lines more end → SeesLines p protocol cell number c (line ∷ lines) more end

-- the cell of this number, by this plan, is as alone: it answers what these lines ask of it, and these events are the controlled run of some reports, which leads to it, has ended exactly where as many were accepted as the stated number, and in which all stayed as the plan promises
pub record IsProtocolAlone (v : VerifiedPlan) (protocol : Protocol) (cell : ℕ) (lines : List (Option (List ℕ))) (end : HubCell) : Type 0 where
  pub events : List Entry
  pub sees : SeesLines v.planned protocol cell 1 (start v.planned) lines events end.cell
  pub plan : end.plan ≡ v
  pub reports : List Report
  pub run : IsControlledRun v.planned reports (events_of events) end.cell
  pub counted : HasEnded v.planned end.cell ↔ (reports_in (events_of events) ≡ stated_number v.planned)
  pub promised : StaysAsPromised v (events_of events)

-- whatever lines were answered, each cell is so
abbrev pub EachProtocolCellIsAlone : Type 0
EachProtocolCellIsAlone = (plans : List VerifiedPlan) (protocol : Protocol) (lines : List (Option (List ℕ))) (text : List ℕ) (end : List HubCell) (cell : ℕ) (v : VerifiedPlan)
    → AreVerified plans → AreCellsAnswers plans protocol lines text end → slice_get plans cell ≡ Some v → (content : HubCell) × (slice_get end cell ≡ Some content) × IsProtocolAlone v protocol cell lines content

-- in version 1 of the lines, and with no leap, lines are answered as `hub` answers them
abbrev pub PlainlyAsEverForCells : Type 0
PlainlyAsEverForCells = (from number : ℕ) (lines : List (Option (List ℕ))) (text : List ℕ) (start end : List HubCell)
    → AnswerAll (ProtocolCellsAnswer (plain_from from)) start number lines text end → AnswerAll CellsAnswer start number lines text end
