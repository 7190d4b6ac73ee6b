-- The law that a run which is recovered by its own plan goes on as one run.
use Rattle.std.specs.Prelude.{◌≡◌, ◌⊎◌, ℕ, List, [], ◌++◌, Option, None}
use Rattle.shop_base.specs.{declared.move_order.MoveOrder.MoveOrder, Plan.PlannedShop, Plan.IsWellShaped}
use Rattle.plan_verifier.specs.Accepted.{VerifiedPlan, IsVerified}
use Rattle.cell_tables.specs.declared.entry.Entry.{Entry}
use Rattle.byte_streams.specs.Answering.{AnswerAll}
use Rattle.cell_drive.specs.{declared.protocol.Protocol.Protocol, declared.resume.RestEnd.RestEnd, CutLogs.IsCutLog}
use Rattle.cell_drive.specs.{AnswerText.DrivenCell, AnswerText.CellCloses, OneRun.IsRunOf, OneRun.NeverWentWrong}
use Rattle.cell_drive.specs.{CutLaw.IsRunPrefix, CutLaw.IsCutFrom, Recovered.Recovered, Recovered.IsRecovered}
use Rattle.cell_drive.specs.Resuming.{again_text, driven_so_far, ContinuesFrom}
use Rattle.cell_drive.specs.ProtocolText.{ProtocolAnswers}

-- a run was recovered by its own plan: from the log of a controlled run of that, which may be cut, and without a moment
pub record IsRecoveredByItsPlan (p : PlannedShop) (recovered : Recovered) : Type 0 where
  pub lines : List (List ℕ)
  pub recorded : List Entry
  pub due : List MoveOrder
  pub log : IsCutLog p lines recorded due
  pub up : IsRecovered p lines None recovered

-- ---- one run

-- the events of its log and the orders that are due are one controlled run
abbrev pub ItIsRecoveredAsOne : Type 0
ItIsRecoveredAsOne = (p : PlannedShop) (recovered : Recovered) → IsRecoveredByItsPlan p recovered → IsRunOf p recovered.log.entries

-- behind a controlled run all that is answered, by any protocol, makes it longer
abbrev pub ItIsOneSoFar : Type 0
ItIsOneSoFar = (p : PlannedShop) (protocol : Protocol) (entries : List Entry) (number : ℕ) (lines : List (Option (List ℕ))) (text : List ℕ) (end : DrivenCell) → IsWellShaped p → IsRunOf p entries
    → AnswerAll (ProtocolAnswers p protocol) (driven_so_far p entries) number lines text end → IsRunOf p end.entries

-- so where driving on succeeded, all events of the log are one controlled run: those from before, the orders that were due, and those that came since
abbrev pub ADrivenRunGoesOnAsOne : Type 0
ADrivenRunGoesOnAsOne = (p : PlannedShop) (recovered : Recovered) (end : RestEnd) → IsRecoveredByItsPlan p recovered → ContinuesFrom recovered end → IsRunOf p end.log.entries

-- and by an accepted plan all stayed as that promises, as if the run had never been cut
abbrev pub ItStaysAsPromised : Type 0
ItStaysAsPromised = (v : VerifiedPlan) (recovered : Recovered) (end : RestEnd) → IsVerified v → IsRecoveredByItsPlan v.planned recovered → ContinuesFrom recovered end → NeverWentWrong v end.log.entries

-- ---- its log, cut again

-- where lines record the first events of a controlled run, the orders that are due are the next
abbrev pub TheFirstEventsHaveTheirOrders : Type 0
TheFirstEventsHaveTheirOrders = (p : PlannedShop) (log : List ℕ) (entries : List Entry) → IsWellShaped p → IsRunOf p entries → IsRunPrefix p log entries → IsCutFrom p log entries

-- so it is with what `resume` writes then, cut at any byte: with the events once more, and the answers and the closing line behind them
abbrev pub WhatWasResumedHasItsOrders : Type 0
WhatWasResumedHasItsOrders = (p : PlannedShop) (protocol : Protocol) (recovered : Recovered) (lines : List (Option (List ℕ))) (answers closing cut lost : List ℕ) (end : DrivenCell) → IsRecoveredByItsPlan p recovered
    → AnswerAll (ProtocolAnswers p protocol) (driven_so_far p recovered.log.entries) 1 lines answers end
    → (closing ≡ []) ⊎ CellCloses p end closing → again_text p protocol recovered.log.entries recovered.late ++ (answers ++ closing) ≡ cut ++ lost → IsCutFrom p cut end.entries
