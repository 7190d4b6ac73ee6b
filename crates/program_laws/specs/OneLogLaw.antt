-- The law that a log is of one controlled run, however often a crash cuts it.
use Rattle.std.specs.Prelude.{◌≡◌, ℕ, List, [], ◌++◌, length, Option, None}
use Rattle.shop_base.specs.Plan.{PlannedShop, IsWellShaped}
use Rattle.text_lines.specs.Lines.{ended_lines}
use Rattle.plan_verifier.specs.Accepted.{IsAcceptable}
use Rattle.event_lines.specs.LogLines.{LinesParse}
use Rattle.cell_drive.specs.declared.protocol.Protocol.{Protocol}
use Rattle.cell_drive.specs.AnswerText.{DrivenCell, undriven}
use Rattle.cell_drive.specs.CutLaw.{IsCutFrom}
use Rattle.cell_drive.specs.Recovered.{Recovered, IsRecovered}
use Rattle.cell_drive.specs.Resuming.{due_text, driven_so_far}
use Rattle.run_journal.specs.LogFiles.{IsLeft}
use Rattle.run_journal.specs.WholeLines.{whole_lines}
use Rattle.run_journal.specs.LoggedLines.{logged}
use Rattle.logged_drive.specs.CrashLaw.{AreLinesAnswered, IsGiven}
use Rattle.drive_laws.specs.OneRunLaw.{IsRecoveredByItsPlan}

-- a run began with a log of its own, whose whole lines recorded no event: what a crash leaves of it records the first events of a controlled run, with the orders that are due
abbrev pub ANewLogIsOfOneRun : Type 0
ANewLogIsOfOneRun = (p : PlannedShop) (protocol : Protocol) (base : List ℕ) (lines : List (Option (List ℕ))) (answers closing shown pending left : List ℕ) (end : DrivenCell) → IsWellShaped p → IsAcceptable p
    → whole_lines base ≡ base → LinesParse p (ended_lines base) [] → AreLinesAnswered p protocol (undriven p) lines answers end → IsGiven p answers shown pending closing end
    → IsLeft (length (base ++ logged shown)) (base ++ logged (shown ++ pending)) left → IsCutFrom p (whole_lines left) end.entries

-- so it is with a log from which a run was recovered by its own plan, without a moment, and to which what came since was added
abbrev pub ARecoveredLogIsOfOneRun : Type 0
ARecoveredLogIsOfOneRun = (p : PlannedShop) (protocol : Protocol) (base : List ℕ) (recovered : Recovered) (lines : List (Option (List ℕ))) (answers closing shown pending left : List ℕ) (end : DrivenCell)
    → whole_lines base ≡ base → IsRecoveredByItsPlan p recovered → IsRecovered p (ended_lines base) None recovered
    → AreLinesAnswered p protocol (driven_so_far p recovered.log.entries) lines answers end → IsGiven p (due_text recovered ++ answers) shown pending closing end
    → IsLeft (length (base ++ logged shown)) (base ++ logged (shown ++ pending)) left → IsCutFrom p (whole_lines left) end.entries
