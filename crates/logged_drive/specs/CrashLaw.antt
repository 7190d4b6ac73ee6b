-- A run is recovered from whatever a crash leaves of its log.
use Rattle.std.specs.Prelude.{◌≡◌, ◌⊎◌, ℕ, true, List, [], ◌++◌, length, Option, None, Some}
use Rattle.shop_base.specs.Plan.{PlannedShop, IsWellShaped}
use Rattle.text_lines.specs.Lines.{ended_lines, lines_of}
use Rattle.plan_verifier.specs.Accepted.{IsAcceptable}
use Rattle.cell_tables.specs.declared.entry.Entry.{Entry}
use Rattle.byte_streams.specs.Answering.{AnswerAll}
use Rattle.event_lines.specs.{declared.run_digits.RunDigits.RunDigits, LogLines.LinesParse, RunDigits.AreDigits}
use Rattle.cell_drive.specs.{declared.protocol.Protocol.Protocol, ProtocolText.ProtocolAnswers}
use Rattle.cell_drive.specs.AnswerText.{DrivenCell, undriven, CellCloses}
use Rattle.cell_drive.specs.Recovered.{Recovered, replayed_events, IsRecovered, IsRecoverable}
use Rattle.cell_drive.specs.Resuming.{due_text, driven_so_far}
use Rattle.event_lines.specs.LastPlan.{IsLastPlan}
use Rattle.run_journal.specs.{LogFiles.IsLeft, LogRuns.IsNamedFor, LoggedLines.logged}
use Rattle.run_journal.specs.{WholeLines.torn_end, WholeLines.whole_lines, TornEnds.is_torn}

-- what was left can be recovered by the plan: behind the events that the log recorded before, it records the first of those that came, with all that were shown, and its end can be what a crash left of a line
pub record IsRecoveredAgain (p : PlannedShop) (recorded came : List Entry) (shown left : List ℕ) : Type 0 where
  pub kept : List Entry
  pub lost : List Entry
  pub came_so : came ≡ kept ++ lost
  pub parses : LinesParse p (ended_lines (whole_lines left)) (recorded ++ kept)
  pub has_shown : (entries : List Entry) → LinesParse p (ended_lines shown) entries → (more : List Entry) × (kept ≡ entries ++ more)
  pub can : IsRecoverable p (ended_lines (whole_lines left)) None
  pub torn : is_torn (torn_end left) ≡ true

-- these lines are answered by this text by a protocol
abbrev pub AreLinesAnswered : PlannedShop → Protocol → DrivenCell → List (Option (List ℕ)) → List ℕ → DrivenCell → Type 0
AreLinesAnswered p protocol start lines text end = AnswerAll (ProtocolAnswers p protocol) start 1 lines text end

-- a text was given to a log and an output, of which some was shown: the first of these answers, and of the closing line, where that stands behind them
pub record IsGiven (p : PlannedShop) (text shown pending closing : List ℕ) (end : DrivenCell) : Type 0 where
  pub closes : (closing ≡ []) ⊎ CellCloses p end closing
  pub lost : List ℕ
  pub given : text ++ closing ≡ (shown ++ pending) ++ lost

-- so it is with a log of whole lines that recorded no event, and then got of what `drive` writes what a log gets
abbrev pub ADrivenRunIsRecovered : Type 0
ADrivenRunIsRecovered = (p : PlannedShop) (protocol : Protocol) (base : List ℕ) (lines : List (Option (List ℕ))) (answers closing shown pending left : List ℕ) (end : DrivenCell) → IsWellShaped p → IsAcceptable p
    → whole_lines base ≡ base → LinesParse p (ended_lines base) [] → AreLinesAnswered p protocol (undriven p) lines answers end → IsGiven p answers shown pending closing end
    → IsLeft (length (base ++ logged shown)) (base ++ logged (shown ++ pending)) left → IsRecoveredAgain p [] end.entries shown left

-- the run in whole lines was recovered, and goes on with these events; of what is written then, the log got what a log gets behind them
pub record IsRecoveredOnceMore (p : PlannedShop) (recovered : Recovered) (shown left : List ℕ) (end : DrivenCell) : Type 0 where
  pub came : List Entry
  pub whole : end.entries ≡ replayed_events recovered ++ came
  pub again : IsRecoveredAgain p (replayed_events recovered) came shown left

abbrev pub ARecoveredRunIsRecovered : Type 0
ARecoveredRunIsRecovered = (p : PlannedShop) (protocol : Protocol) (base : List ℕ) (at : Option ℕ) (recovered : Recovered) (lines : List (Option (List ℕ))) (answers closing shown pending left : List ℕ) (end : DrivenCell)
    → whole_lines base ≡ base → IsRecovered p (ended_lines base) at recovered
    → AreLinesAnswered p protocol (driven_so_far p recovered.log.entries) lines answers end → IsGiven p (due_text recovered ++ answers) shown pending closing end
    → IsLeft (length (base ++ logged shown)) (base ++ logged (shown ++ pending)) left → IsRecoveredOnceMore p recovered shown left end

-- behind a start an output has written what was shown. From whatever a crash leaves of the log the run is recovered, with all events of that
pub record IsRecoveredAfter (p : PlannedShop) (recorded : List Entry) (start : List ℕ) (crash_states : List ℕ → Type 0) (written : Option (List ℕ)) : Type 0 where
  pub shown : List ℕ
  pub output : written ≡ Some (start ++ shown)
  pub came : List Entry
  pub again : (left : List ℕ) → crash_states left → IsRecoveredAgain p recorded came shown left

-- what was left names the plan of these digits last, and can be recovered by the plan so
pub record IsOfItsPlan (p : PlannedShop) (digits : RunDigits) (recorded came : List Entry) (shown left : List ℕ) : Type 0 where
  pub named : IsLastPlan (lines_of (whole_lines left)) digits
  pub again : IsRecoveredAgain p recorded came shown left

-- so it is with each of both runs, where the log had whole lines and, behind them, the line of the plan, unless it was their last one
abbrev pub ADrivenLogIsOfItsPlan : Type 0
ADrivenLogIsOfItsPlan = (p : PlannedShop) (protocol : Protocol) (digits : RunDigits) (had base : List ℕ) (lines : List (Option (List ℕ))) (answers closing shown pending left : List ℕ) (end : DrivenCell)
    → IsWellShaped p → IsAcceptable p → AreDigits digits → whole_lines had ≡ had → IsNamedFor digits had base → LinesParse p (ended_lines base) []
    → AreLinesAnswered p protocol (undriven p) lines answers end → IsGiven p answers shown pending closing end
    → IsLeft (length (base ++ logged shown)) (base ++ logged (shown ++ pending)) left → IsOfItsPlan p digits [] end.entries shown left

abbrev pub ARecoveredLogIsOfItsPlan : Type 0
ARecoveredLogIsOfItsPlan = (p : PlannedShop) (protocol : Protocol) (digits : RunDigits) (had base : List ℕ) (at : Option ℕ) (recovered : Recovered) (lines : List (Option (List ℕ))) (answers closing shown pending left : List ℕ)
    (end : DrivenCell) → AreDigits digits → whole_lines had ≡ had → IsNamedFor digits had base → IsRecovered p (ended_lines base) at recovered
    → AreLinesAnswered p protocol (driven_so_far p recovered.log.entries) lines answers end → IsGiven p (due_text recovered ++ answers) shown pending closing end
    → IsLeft (length (base ++ logged shown)) (base ++ logged (shown ++ pending)) left
    → (came : List Entry) × (end.entries ≡ replayed_events recovered ++ came) × IsOfItsPlan p digits (replayed_events recovered) came shown left
