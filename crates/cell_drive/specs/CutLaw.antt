-- The laws that a log which was cut is recovered.
use Rattle.std.specs.Prelude.{◌≡◌, ℕ, List, [], ◌++◌, map, length, ◌≤◌, Bool, Option, None, ◌⊎◌}
use Rattle.shop_base.specs.{declared.move_order.MoveOrder.MoveOrder, Plan.PlannedShop, Plan.IsWellShaped, Run.IsRun}
use Rattle.text_lines.specs.Lines.{lines_of, ended_lines}
use Rattle.plan_verifier.specs.Accepted.{IsAcceptable}
use Rattle.cell_tables.specs.{declared.entry.Entry.Entry, declared.entry.Entry.TheVariants.Order as OrderEntry}
use Rattle.cell_tables.specs.Events.{events_of}
use Rattle.event_lines.specs.LogLines.{LinesParse}
use Rattle.byte_streams.specs.Answering.{AnswerAll}
use Rattle.cell_drive.specs.{declared.protocol.Protocol.Protocol, AnswerText.DrivenCell, AnswerText.CellCloses}
use Rattle.cell_drive.specs.{OneRun.IsRunOf, CutLogs.IsCutLog}
use Rattle.cell_drive.specs.ProtocolText.{ProtocolAnswers, AreProtocolAnswers}
use Rattle.cell_drive.specs.Recovered.{Recovered, IsRecovered, IsRecoverable, replayed_events}
use Rattle.cell_drive.specs.Resuming.{again_text, driven_so_far, IsRunToRest}

-- ---- any run

-- the ended lines of these bytes record a run, the first of these events
pub record IsRunPrefix (p : PlannedShop) (cut : List ℕ) (entries : List Entry) : Type 0 where
  pub recorded : List Entry
  pub parses : LinesParse p (ended_lines cut) recorded
  pub run : IsRun p (events_of recorded)
  pub later : List Entry
  pub whole : entries ≡ recorded ++ later

-- so do those of the log of a run that is cut at any byte
abbrev pub ACutLogIsRecovered : Type 0
ACutLogIsRecovered = (p : PlannedShop) (cut lost : List ℕ) (entries : List Entry)
    → LinesParse p (lines_of (cut ++ lost)) entries → IsRun p (events_of entries) → IsRunPrefix p cut entries

-- so do the ended lines of what a cell wrote by a protocol, cut at any byte: of the answers to the first lines of an input, and of the closing line, where that stands behind them
abbrev pub WhatWasDrivenIsRecovered : Type 0
WhatWasDrivenIsRecovered = (p : PlannedShop) (protocol : Protocol) (lines : List (Option (List ℕ))) (answers closing cut lost : List ℕ) (end : DrivenCell) → IsWellShaped p
    → AreProtocolAnswers p protocol lines answers end → (closing ≡ []) ⊎ CellCloses p end closing → answers ++ closing ≡ cut ++ lost → IsRunPrefix p cut end.entries

-- and of what `resume` writes: of the events once more, and of answers behind them, and of the closing line, where that stands behind them
abbrev pub WhatWasResumedIsRecovered : Type 0
WhatWasResumedIsRecovered = (p : PlannedShop) (protocol : Protocol) (entries : List Entry) (late : List Bool) (lines : List (Option (List ℕ))) (answers closing cut lost : List ℕ) (end : DrivenCell) → IsWellShaped p
    → IsRunToRest p entries → length late ≤ length entries → AnswerAll (ProtocolAnswers p protocol) (driven_so_far p entries) 1 lines answers end
    → (closing ≡ []) ⊎ CellCloses p end closing → again_text p protocol entries late ++ (answers ++ closing) ≡ cut ++ lost → IsRunPrefix p cut end.entries

-- what `resume` writes, cut anywhere behind the line of its first event, or anywhere if the plan is to be accepted, can be recovered by the same plan, without a moment
abbrev pub WhatWasResumedIsRecoverable : Type 0
WhatWasResumedIsRecoverable = (p : PlannedShop) (protocol : Protocol) (log : List (List ℕ)) (at : Option ℕ) (recovered : Recovered) (lines : List (Option (List ℕ))) (answers closing cut lost : List ℕ) (end : DrivenCell)
    → IsRecovered p log at recovered → AnswerAll (ProtocolAnswers p protocol) (driven_so_far p recovered.log.entries) 1 lines answers end
    → (closing ≡ []) ⊎ CellCloses p end closing → again_text p protocol recovered.log.entries recovered.late ++ (answers ++ closing) ≡ cut ++ lost
    → IsAcceptable p ⊎ (LinesParse p (ended_lines cut) [] → replayed_events recovered ≡ []) → IsRecoverable p (ended_lines cut) None

-- ---- controlled runs

-- the ended lines of these bytes record events that are, with the orders that are due, the first of these, which are a controlled run
pub record IsCutFrom (p : PlannedShop) (cut : List ℕ) (entries : List Entry) : Type 0 where
  pub recorded : List Entry
  pub due : List MoveOrder
  pub log : IsCutLog p (ended_lines cut) recorded due
  pub later : List Entry
  pub whole : entries ≡ (recorded ++ map OrderEntry due) ++ later

-- so do those of the log of a controlled run that is cut at any byte
abbrev pub ACutLogHasItsOrders : Type 0
ACutLogHasItsOrders = (p : PlannedShop) (cut lost : List ℕ) (entries : List Entry) → IsWellShaped p
    → LinesParse p (lines_of (cut ++ lost)) entries → IsRunOf p entries → IsCutFrom p cut entries

-- and the first bytes of what `drive` writes: of the answers to the first lines of an input, and of the closing line, where that stands behind them
abbrev pub WhatWasDrivenHasItsOrders : Type 0
WhatWasDrivenHasItsOrders = (p : PlannedShop) (protocol : Protocol) (lines : List (Option (List ℕ))) (answers closing cut lost : List ℕ) (end : DrivenCell) → IsWellShaped p
    → AreProtocolAnswers p protocol lines answers end → (closing ≡ []) ⊎ CellCloses p end closing → answers ++ closing ≡ cut ++ lost → IsCutFrom p cut end.entries

-- such a log can be recovered by a plan that is to be accepted
abbrev pub ItIsRecoverable : Type 0
ItIsRecoverable = (p : PlannedShop) (lines : List (List ℕ)) (recorded : List Entry) (due : List MoveOrder) → IsWellShaped p → IsAcceptable p → IsCutLog p lines recorded due → IsRecoverable p lines None

-- and it is recovered, without a moment, with just the orders that were due
abbrev pub ItIsRecoveredWithItsOrders : Type 0
ItIsRecoveredWithItsOrders = (p : PlannedShop) (lines : List (List ℕ)) (recorded : List Entry) (due : List MoveOrder) (recovered : Recovered) → IsWellShaped p
    → IsCutLog p lines recorded due → IsRecovered p lines None recovered → (replayed_events recovered ≡ recorded) × (recovered.control.orders ≡ due)
