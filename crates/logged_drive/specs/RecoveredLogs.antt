-- A run that is recovered from its log file.
use Rattle.std.specs.Prelude.{◌≡◌, ℕ, List, length, Bool, true, false, Option, None, Some}
use Rattle.shop_base.specs.{Plan.PlannedShop, Run.IsRun}
use Rattle.text_lines.specs.Lines.{ended_lines, lines_of}
use Rattle.cell_tables.specs.{declared.entry.Entry.Entry, Events.events_of}
use Rattle.event_lines.specs.LogLines.{LinesParse}
use Rattle.run_log.specs.declared.present_run.RunFault.TheVariants.{Log, Present}
use Rattle.cell_drive.specs.declared.resume_fault.ResumeFault.{ResumeFault}
use Rattle.cell_drive.specs.declared.resume_fault.ResumeFault.TheVariants.{Run, Refused, Memory}
use Rattle.cell_drive.specs.ResumeFaults.{IsResumeFault, IsOnlyLogFault}
use Rattle.run_journal.specs.{declared.file_fault.FileFault.FileFault, WholeLines.torn_end, WholeLines.whole_lines}
use Rattle.run_journal.specs.{declared.file_fault.FileFault.TheVariants.Log as LogFault, TornEnds.is_torn}
use Rattle.logged_drive.specs.declared.recovered_log.RecoverFault.{RecoverFault}
use Rattle.logged_drive.specs.declared.recovered_log.RecoverFault.TheVariants.{Resume, NoTornEnd, File}

-- these lines record a run of the plan
pub record ParseARun (p : PlannedShop) (lines : List (List ℕ)) : Type 0 where
  pub recorded : List Entry
  pub parses : LinesParse p lines recorded
  pub is_run : IsRun p (events_of recorded)

-- memory ran out
abbrev pub out_of_memory : RecoverFault
out_of_memory = Resume Memory

-- after bad lines nothing is asked of the end; before any other fault a crash can have left it
abbrev pub IsAfterEnd : ResumeFault → Bool → Type 0
IsAfterEnd (Run (Log fault)) torn = Unit {0}
IsAfterEnd (Run (Present fault)) torn = torn ≡ true
IsAfterEnd (Refused back why) torn = torn ≡ true
IsAfterEnd Memory torn = Unit {0}

-- why no run is recovered from a log with this text: its whole lines aren't recovered; or they record a run, so many they are, and what follows can't be what a crash left of a line; or the log couldn't be cut, written or synced
abbrev pub IsRecoverFault : PlannedShop → List ℕ → Option ℕ → RecoverFault → Type 0
IsRecoverFault p text at (Resume fault) = IsResumeFault p (ended_lines (whole_lines text)) at fault × IsAfterEnd fault (is_torn (torn_end text))
IsRecoverFault p text at (NoTornEnd lines) = ParseARun p (ended_lines (whole_lines text)) × (is_torn (torn_end text) ≡ false) × (lines ≡ length (lines_of (whole_lines text)))
IsRecoverFault p text at (File fault) = fault ≡ LogFault

-- where this is the fault of the lines, no other is the first of them
abbrev pub IsOnlyRecoverFault : PlannedShop → List (List ℕ) → RecoverFault → Type 0
IsOnlyRecoverFault p lines (Resume fault) = IsOnlyLogFault p lines fault
IsOnlyRecoverFault p lines (NoTornEnd count) = Unit {0}
IsOnlyRecoverFault p lines (File fault) = Unit {0}

-- the text itself is at fault, so the log wasn't touched
abbrev pub IsOfText : RecoverFault → Type 0
IsOfText (Resume fault) = Unit {0}
IsOfText (NoTornEnd lines) = Unit {0}
IsOfText (File fault) = ⊥

-- what the log itself says of it
abbrev pub file_fault : RecoverFault → Option FileFault
file_fault (Resume fault) = None
file_fault (NoTornEnd lines) = None
file_fault (File fault) = Some fault

-- memory ran out, or the log couldn't be cut, written or synced
abbrev pub IsOfDevice : RecoverFault → Type 0
IsOfDevice (Resume fault) = fault ≡ Memory
IsOfDevice (NoTornEnd lines) = ⊥
IsOfDevice (File fault) = Unit {0}
