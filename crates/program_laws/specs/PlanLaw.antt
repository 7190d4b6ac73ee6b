-- The law that a log is driven by no plan with other digits than its last line of a plan has.
use Rattle.std.specs.Prelude.{◌≡◌, ℕ, List, Some, Result}
use Rattle.shop_base.specs.Plan.{PlannedShop}
use Rattle.text_lines.specs.Lines.{lines_of}
use Rattle.cell_tables.specs.declared.entry.Entry.{Entry}
use Rattle.event_lines.specs.declared.run_digits.RunDigits.{RunDigits}
use Rattle.run_journal.specs.Folders.{NamedLog, held}
use Rattle.run_journal.specs.Logged.{Held}
use Rattle.event_lines.specs.LastPlan.{IsLastPlan}
use Rattle.run_journal.specs.WholeLines.{whole_lines}
use Rattle.command_words.specs.declared.words.log_start.LogStart.TheVariants.{HandOver}
use Rattle.command_words.specs.Choice.{kept_in, start_chosen, rows_found, found_in}
use Rattle.command_answers.specs.declared.command_fault.CommandFault.{CommandFault}
use Rattle.command_run.specs.Streams.{Devices}
use Rattle.command_run.specs.Logs.{Driven, digits_in}
use Rattle.command_run.specs.Program.{RunsProgram}

-- the last line of a plan among the whole lines of a log has these digits: by a plan with others no cell is driven with it, unless the words ask for a hand-over
abbrev pub NoPlanWithOtherDigitsDrives : {W : Type 0} → (W → List ℕ → Result (List ℕ) CommandFault → W → Type 0) → Type 0
NoPlanWithOtherDigitsDrives {W} gives = (words : List (List ℕ)) (before after : Devices W) (status : ℕ) (logs : List NamedLog) (path bytes : List ℕ) (digits : RunDigits) (p : PlannedShop) (events : List Entry) (run : Held)
    → before.folder.logs ≡ Some logs → kept_in (rows_found (found_in words)) ≡ Some path → held logs path ≡ Some bytes → IsLastPlan (lines_of (whole_lines bytes)) digits
    → (start_chosen (rows_found (found_in words)) ≡ HandOver → ⊥) → (digits_in p ≡ digits → ⊥) → RunsProgram gives words before status after (Some (Driven p events run)) → ⊥
