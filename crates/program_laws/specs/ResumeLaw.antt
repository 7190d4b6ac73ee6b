-- The laws that a run which is recovered writes the same, and behind a log without events what `drive` writes.
use Rattle.std.specs.Prelude.{◌≡◌, ℕ, ◌≤◌, ◌⊎◌, true, Some, List, [], ◌∷◌, length, get_or, Option, None, Result, Ok}
use Rattle.shop_base.specs.Plan.{PlannedShop, IsWellShaped}
use Rattle.text_lines.specs.declared.limits.TheConstants.{MAX_INPUT}
use Rattle.text_lines.specs.Lines.{ended_lines}
use Rattle.plan_verifier.specs.Accepted.{IsAcceptable}
use Rattle.event_lines.specs.LogLines.{LinesParse}
use Rattle.cell_drive.specs.Recovered.{IsRecoverable}
use Rattle.command_words.specs.declared.words.CommandName.TheVariants.{Resume}
use Rattle.command_words.specs.Choice.{command_word_of, word_found, rows_found, files_in, instance_in, at_in, lines_in, leap_in, reasons_in, found_in}
use Rattle.command_answers.specs.declared.command_fault.CommandFault.{CommandFault}
use Rattle.command_answers.specs.Commands.{InputPaths}
use Rattle.command_run.specs.Program.{IsOutputLog}
use Rattle.command_run.specs.Laws.{ParseAsPlan, AskForDrive, RunsWell}

-- the words ask for `resume` with these files and this log
pub record AskForResume (words : List (List ℕ)) (inputs : InputPaths) (log : List ℕ) : Type 0 where
  pub accepted : reasons_in words ≡ []
  pub resume : word_found (found_in words) ≡ command_word_of Resume
  pub path : inputs.path ≡ get_or (files_in (rows_found (found_in words))) 0 []
  pub name : inputs.name ≡ instance_in (rows_found (found_in words))
  pub plan : inputs.plan ≡ get_or (files_in (rows_found (found_in words))) 1 []
  pub log_is : log ≡ get_or (files_in (rows_found (found_in words))) 2 []

-- the present moment that the words give, if they give one
abbrev pub moment_given : List (List ℕ) → Option ℕ
moment_given words = at_in (rows_found (found_in words))

-- the output of a run goes to this log: the run ends with 5, and nothing is written
pub record GoesToLog (content : List ℕ → Result (List ℕ) CommandFault) (words : List (List ℕ)) (input : List ℕ) (status : ℕ) (written : List ℕ) (well : RunsWell content words input status written) (log : List ℕ) : Type 0 where
  pub shown : IsOutputLog (Some log) well.before.folder true
  pub status_is : status ≡ 5
  pub nothing : written ≡ []

-- `resume` of a log that can be recovered writes the same, and ends with the same status, whenever it is run on the same words, files and input, of no more bytes than the limit; unless the output of one of the runs goes to the log
abbrev pub ResumeWritesTheSame : Type 0
ResumeWritesTheSame = (content : List ℕ → Result (List ℕ) CommandFault) (words : List (List ℕ)) (inputs : InputPaths) (log text : List ℕ) (p : PlannedShop) (input : List ℕ) (status other_status : ℕ) (written other : List ℕ)
    → AskForResume words inputs log → ParseAsPlan content inputs p → IsWellShaped p → content log ≡ Ok text → IsRecoverable p (ended_lines text) (moment_given words) → length input ≤ MAX_INPUT
    → (well : RunsWell content words input status written) (also : RunsWell content words input other_status other)
    → GoesToLog content words input status written well log ⊎ GoesToLog content words input other_status other also log ⊎ ((other_status ≡ status) × (other ≡ written))

-- both words ask for the same version of the lines and for the same longest time, and neither gives a moment
pub record AskForOneManner (words others : List (List ℕ)) : Type 0 where
  pub lines : lines_in (rows_found (found_in words)) ≡ lines_in (rows_found (found_in others))
  pub leap : leap_in (rows_found (found_in words)) ≡ leap_in (rows_found (found_in others))
  pub none_given : moment_given words ≡ None
  pub none_there : moment_given others ≡ None

-- behind a log without events, by an accepted plan, `resume` writes the mark and what `drive` writes, and ends with the same status, unless its output goes to that log
abbrev pub ResumeWritesAsDrive : Type 0
ResumeWritesAsDrive = (content : List ℕ → Result (List ℕ) CommandFault) (words others : List (List ℕ)) (inputs : InputPaths) (log text : List ℕ) (p : PlannedShop) (input : List ℕ) (status other_status : ℕ) (written other : List ℕ)
    → AskForResume words inputs log → AskForDrive others inputs → AskForOneManner words others
    → ParseAsPlan content inputs p → IsWellShaped p → IsAcceptable p → content log ≡ Ok text → LinesParse p (ended_lines text) [] → length input ≤ MAX_INPUT
    → (well : RunsWell content words input status written) → RunsWell content others input other_status other → GoesToLog content words input status written well log ⊎ ((status ≡ other_status) × (written ≡ 10 ∷ other))
