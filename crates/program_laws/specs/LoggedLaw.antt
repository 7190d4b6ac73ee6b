-- The law that a driven cell with a log of its own writes the same.
use Rattle.std.specs.Prelude.{◌≡◌, ℕ, ◌≤◌, ◌⊎◌, List, [], ◌∷◌, length, Option, None, Some, true, IfSome, Result}
use Rattle.shop_base.specs.Plan.{PlannedShop, IsWellShaped}
use Rattle.text_lines.specs.declared.limits.TheConstants.{MAX_INPUT}
use Rattle.text_lines.specs.Lines.{ended_lines, lines_of}
use Rattle.plan_verifier.specs.Accepted.{IsAcceptable}
use Rattle.cell_drive.specs.Recovered.{IsRecoverable}
use Rattle.run_journal.specs.declared.log_run.LogRun.{LogRun}
use Rattle.run_journal.specs.Folders.{NamedLog, held}
use Rattle.run_journal.specs.LogRuns.{IsLogRunOf}
use Rattle.run_journal.specs.TornEnds.{is_torn}
use Rattle.run_journal.specs.WholeLines.{torn_end, whole_lines}
use Rattle.command_words.specs.declared.words.CommandName.TheVariants.{Drive}
use Rattle.command_words.specs.Choice.{command_word_of, word_found, rows_found, start_chosen, reasons_in, found_in}
use Rattle.command_answers.specs.declared.command_fault.CommandFault.{CommandFault}
use Rattle.command_answers.specs.Commands.{InputPaths}
use Rattle.command_run.specs.Logs.{bytes_in, digits_in, fault_of}
use Rattle.command_run.specs.Misfits.{IsMisfit}
use Rattle.command_run.specs.declared.misfits.Misfit.{Misfit}
use Rattle.command_run.specs.Laws.{ParseAsPlan, RunsWell}
use Rattle.program_laws.specs.HistoryLaw.{AskForLog}
use Rattle.program_laws.specs.ResumeLaw.{GoesToLog, moment_given}

-- the words ask for `drive` with these files, and with this log of its own
pub record AskForLoggedDrive (words : List (List ℕ)) (inputs : InputPaths) (log : List ℕ) : Type 0 where
  pub accepted : reasons_in words ≡ []
  pub drive : word_found (found_in words) ≡ command_word_of Drive
  pub files : AskForLog words inputs log

-- a log with these bytes, if it is there, has begun or not as the words ask, and by this plan where they ask for that
abbrev pub IsAsAsked : List (List ℕ) → PlannedShop → Option (List ℕ) → Type 0
IsAsAsked words p there = (run : LogRun) (misfit : Misfit) → IsLogRunOf (lines_of (whole_lines (bytes_in there))) run → IsMisfit (start_chosen (rows_found (found_in words))) run (digits_in p) misfit → ⊥

-- a cell can be driven by the plan with such a log: without bytes by an accepted plan, with bytes where the run in them is recovered
abbrev pub CanBeDriven : PlannedShop → Option ℕ → Option (List ℕ) → Type 0
CanBeDriven p at None = IsAcceptable p
CanBeDriven p at (Some []) = IsAcceptable p
CanBeDriven p at (Some (byte ∷ bytes)) = IsRecoverable p (ended_lines (whole_lines (byte ∷ bytes))) at × (is_torn (torn_end (byte ∷ bytes)) ≡ true)

-- a run of the program as for `RunsWell`, where the log of this path had these bytes, if it was there, and neither the folder nor the log says that a call of it has failed
pub record RunsWellWithLog (content : List ℕ → Result (List ℕ) CommandFault) (words : List (List ℕ)) (path : List ℕ) (there : Option (List ℕ)) (input : List ℕ) (status : ℕ) (written : List ℕ) : Type 0 where
  pub well : RunsWell content words input status written
  pub logs : List NamedLog
  pub known : well.before.folder.logs ≡ Some logs
  pub was : held logs path ≡ there
  pub folder_unfailed : well.after.folder.fault ≡ None
  pub log_unfailed : IfSome well.log (λ end. fault_of end ≡ None)

-- `drive` with such a log writes the same, and ends with the same status, whenever it is run on the same words, files, log and input, of no more bytes than the limit; unless the output of one of the runs goes to the log
abbrev pub LoggedDriveWritesTheSame : Type 0
LoggedDriveWritesTheSame = (content : List ℕ → Result (List ℕ) CommandFault) (words : List (List ℕ)) (inputs : InputPaths) (log : List ℕ) (there : Option (List ℕ)) (p : PlannedShop) (input : List ℕ) (status other_status : ℕ) (written other : List ℕ)
    → AskForLoggedDrive words inputs log → ParseAsPlan content inputs p → IsWellShaped p → IsAsAsked words p there → CanBeDriven p (moment_given words) there → length input ≤ MAX_INPUT
    → (one : RunsWellWithLog content words log there input status written) (other_one : RunsWellWithLog content words log there input other_status other)
    → GoesToLog content words input status written one.well log ⊎ GoesToLog content words input other_status other other_one.well log ⊎ ((other_status ≡ status) × (other ≡ written))
