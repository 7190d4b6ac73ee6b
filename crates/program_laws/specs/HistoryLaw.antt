-- The law that what `run` asks of the history of a log can be met.
use Rattle.std.specs.Prelude.{◌≡◌, ℕ, List, [], ◌∷◌, ◌++◌, get_or, unwrap_or, Some, IfSome, Result, Ok}
use Rattle.shop_base.specs.Plan.{PlannedShop}
use Rattle.text_lines.specs.Lines.{ended_lines}
use Rattle.cell_drive.specs.declared.protocol.Protocol.{Protocol}
use Rattle.cell_drive.specs.Recovered.{Recovered, IsRecovered}
use Rattle.event_lines.specs.RunDigits.{plan_line}
use Rattle.event_lines.specs.declared.run_digits.RunDigits.{RunDigits}
use Rattle.run_journal.specs.Folders.{NamedLog, held}
use Rattle.run_journal.specs.LogRuns.{IsNamedFor}
use Rattle.run_journal.specs.WholeLines.{whole_lines}
use Rattle.command_words.specs.declared.words.Chosen.{Chosen}
use Rattle.command_words.specs.Choice.{IsChoiceOf, rows_found, files_in, instance_in, kept_in, lines_in, leap_in, found_in}
use Rattle.command_answers.specs.declared.command_fault.CommandFault.{CommandFault}
use Rattle.command_answers.specs.Commands.{InputPaths, Shapes}
use Rattle.command_run.specs.Streams.{Devices}
use Rattle.cell_drive.specs.Replay.{replay_text}
use Rattle.command_run.specs.Logs.{digits_in}
use Rattle.command_run.specs.Program.{IsHistoryOfWords, is_second, inputs_in}
use Rattle.command_run.specs.Laws.{Shelf, ParseAsPlan}
use Rattle.program_laws.specs.ResumeLaw.{moment_given}

-- the protocol that words ask for
abbrev pub protocol_of : List (List ℕ) → Protocol
protocol_of words = record { version_2 = is_second (lines_in (rows_found (found_in words))); max_gap = leap_in (rows_found (found_in words)); from = unwrap_or (moment_given words) 0 }

-- each plan that the files which the words name may give has these digits, with its shop
abbrev pub AreDigitsOfPlan : {W : Type 0} → (W → List ℕ → Result (List ℕ) CommandFault → W → Type 0) → List (List ℕ) → W → RunDigits → Type 0
AreDigitsOfPlan {W} gives words texts digits = (chosen : Chosen) (p : PlannedShop) (mid : W) → IsChoiceOf words (found_in words) chosen → Shapes gives (inputs_in chosen) texts (Ok (Ok p)) mid → digits_in p ≡ digits

-- of a log that isn't there, or has no bytes, it is known that it has the line of the plan, and of the output what was written on it
abbrev pub NewLogHasHistory : {W : Type 0} → (W → List ℕ → Result (List ℕ) CommandFault → W → Type 0) → Type 0
NewLogHasHistory {W} gives = (words : List (List ℕ)) (before : Devices W) (logs : List NamedLog) (start : List ℕ) (digits : RunDigits) → before.folder.logs ≡ Some logs → before.streams.output.written ≡ Some start
    → ((path : List ℕ) → kept_in (rows_found (found_in words)) ≡ Some path → IfSome (held logs path) (λ bytes. bytes ≡ [])) → AreDigitsOfPlan gives words before.texts digits
    → IsHistoryOfWords gives words before (plan_line digits, start)

-- the words ask for these files, and for this log of its own
pub record AskForLog (words : List (List ℕ)) (inputs : InputPaths) (log : List ℕ) : Type 0 where
  pub kept : kept_in (rows_found (found_in words)) ≡ Some log
  pub path : inputs.path ≡ get_or (files_in (rows_found (found_in words))) 0 []
  pub name : inputs.name ≡ instance_in (rows_found (found_in words))
  pub plan : inputs.plan ≡ get_or (files_in (rows_found (found_in words))) 1 []

-- of a log with bytes, from which the run is recovered by the plan that the files give, its whole lines are known, with the line of the plan behind them unless it is their last one; and behind what the output has written the events that are replayed
abbrev pub OldLogHasHistory : Type 0
OldLogHasHistory = (content : List ℕ → Result (List ℕ) CommandFault) (words : List (List ℕ)) (inputs : InputPaths) (log : List ℕ) (byte : ℕ) (bytes base : List ℕ) (p : PlannedShop) (recovered : Recovered)
    (before : Devices (List (List ℕ))) (logs : List NamedLog) (start : List ℕ)
    → AskForLog words inputs log → ParseAsPlan content inputs p → before.texts ≡ [] → before.folder.logs ≡ Some logs → before.streams.output.written ≡ Some start → held logs log ≡ Some (byte ∷ bytes)
    → IsRecovered p (ended_lines (whole_lines (byte ∷ bytes))) (moment_given words) recovered → IsNamedFor (digits_in p) (whole_lines (byte ∷ bytes)) base
    → IsHistoryOfWords (Shelf content) words before (base, start ++ replay_text (protocol_of words) recovered)

-- of a log with bytes, from which no run is recovered by that plan, they are known likewise; and the output has what was written on it
abbrev pub UnrecoveredLogHasHistory : Type 0
UnrecoveredLogHasHistory = (content : List ℕ → Result (List ℕ) CommandFault) (words : List (List ℕ)) (inputs : InputPaths) (log : List ℕ) (byte : ℕ) (bytes base : List ℕ) (p : PlannedShop)
    (before : Devices (List (List ℕ))) (logs : List NamedLog) (start : List ℕ)
    → AskForLog words inputs log → ParseAsPlan content inputs p → before.texts ≡ [] → before.folder.logs ≡ Some logs → before.streams.output.written ≡ Some start → held logs log ≡ Some (byte ∷ bytes)
    → ((recovered : Recovered) → IsRecovered p (ended_lines (whole_lines (byte ∷ bytes))) (moment_given words) recovered → ⊥) → IsNamedFor (digits_in p) (whole_lines (byte ∷ bytes)) base
    → IsHistoryOfWords (Shelf content) words before (base, start)
