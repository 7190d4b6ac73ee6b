-- The laws that a log is recovered in one way, and that one without events is driven as from the start.
use Rattle.std.specs.Prelude.{◌≡◌, ℕ, List, [], ◌∷◌, Option, None}
use Rattle.shop_base.specs.Plan.{PlannedShop}
use Rattle.event_lines.specs.LogLines.{LinesParse}
use Rattle.cell_drive.specs.{declared.protocol.Protocol.Protocol, AnswerText.DrivenCell, ProtocolText.IsProtocolText}
use Rattle.cell_drive.specs.{Recovered.Recovered, Recovered.IsRecovered, Recovered.seen_in, Resuming.IsResumedText}

-- a log is recovered by a plan, at a moment, as one cell with one list of events, of which the same are recorded as late
abbrev pub OneRecovery : Type 0
OneRecovery = (p : PlannedShop) (lines : List (List ℕ)) (at : Option ℕ) (recovered other : Recovered) → IsRecovered p lines at recovered → IsRecovered p lines at other
    → (seen_in other ≡ seen_in recovered) × (other.late ≡ recovered.late)

-- and by each protocol an input has one text that answers it from there
abbrev pub OneTextFromALog : Type 0
OneTextFromALog = (p : PlannedShop) (protocol : Protocol) (lines : List (List ℕ)) (at : Option ℕ) (recovered other : Recovered) (input text other_text : List ℕ) (end last : DrivenCell)
    → IsRecovered p lines at recovered → IsRecovered p lines at other
    → IsResumedText p protocol recovered.log.entries recovered.late input text end → IsResumedText p protocol other.log.entries other.late input other_text last
    → (other_text ≡ text) × (last ≡ end)

-- behind a log that records no event, and is recovered without a moment, the text is the mark and what `drive` answers
abbrev pub ALogWithoutEventsIsDriven : Type 0
ALogWithoutEventsIsDriven = (p : PlannedShop) (protocol : Protocol) (lines : List (List ℕ)) (recovered : Recovered) (input text : List ℕ) (end : DrivenCell)
    → LinesParse p lines [] → IsRecovered p lines None recovered → IsResumedText p protocol recovered.log.entries recovered.late input text end
    → (answer : List ℕ) × IsProtocolText p protocol input answer end × (text ≡ 10 ∷ answer)
