-- What the command that was chosen runs, and what is answered of its log.
use Rattle.std.proofs.Common.{◌≡◌, ◌==◌, ◌&&◌, if◌then◌else◌, ℕ, List, Bool, true, false, Option, None, Some, IfSome, Result, Err, sym, subst, refl}
use Rattle.command_words.specs.Choice.{IsChoiceOf, found_in}
use Rattle.command_words.specs.declared.words.Chosen.{Chosen}
use Rattle.cell_drive.specs.declared.protocol.Protocol.{Protocol}
use Rattle.command_answers.specs.Commands.{InputPaths}
use Rattle.command_answers.specs.declared.answer.Answer.{Answer}
use Rattle.command_answers.specs.declared.command_fault.CommandFault.{CommandFault}
use Rattle.command_answers.specs.declared.command_fault.CommandFault.TheVariants.{Log}
use Rattle.command_run.specs.Streams.{Devices, Streams}
use Rattle.command_run.specs.Logs.{IsHistoryOfLog, LogEnd, step_of}
use Rattle.command_run.specs.Program.{IsHistoryOfChosen, IsHistoryOfWords, IsOutputLog, NoLog, RunsChosen, RunsCommand, RunsLoggedDrive, kept_log_in, protocol_in, inputs_in, status_by}

module _ {W : Type 0} (gives : W → List ℕ → Result (List ℕ) CommandFault → W → Type 0) where
  pub unlogged : (chosen : Chosen) (before after : Devices W) (outcome : Result Answer CommandFault) (mid : Streams) → kept_log_in chosen ≡ None
      → RunsCommand gives chosen.name chosen before.texts before.streams outcome after.texts mid → NoLog before after None → RunsChosen gives (kept_log_in chosen) chosen before outcome mid after None
  unlogged chosen before after outcome mid none runs same =
      subst (λ (log : Option (List ℕ)). RunsChosen gives log chosen before outcome mid after None) (sym none) (runs, same)

  pub logged : (chosen : Chosen) (before after : Devices W) (outcome : Result Answer CommandFault) (mid : Streams) (end : Option LogEnd) (path : List ℕ) (inputs : InputPaths) (protocol : Protocol) → kept_log_in chosen ≡ Some path
      → inputs ≡ inputs_in chosen → protocol ≡ protocol_in chosen → RunsLoggedDrive gives before.folder after.folder path chosen.start protocol chosen.at inputs before.texts (step_of before.streams outcome mid end) after.texts
      → RunsChosen gives (kept_log_in chosen) chosen before outcome mid after end
  logged chosen before after outcome mid end path inputs protocol keeps same_pair same_manner runs =
      subst (λ (log : Option (List ℕ)). RunsChosen gives log chosen before outcome mid after end) (sym keeps)
      (subst (λ (m : Protocol). RunsLoggedDrive gives before.folder after.folder path chosen.start m chosen.at (inputs_in chosen) before.texts (step_of before.streams outcome mid end) after.texts) same_manner
      (subst (λ (q : InputPaths). RunsLoggedDrive gives before.folder after.folder path chosen.start protocol chosen.at q before.texts (step_of before.streams outcome mid end) after.texts) same_pair runs))

  pub history_of_path : (chosen : Chosen) (before : Devices W) (path : List ℕ) (known : Option (List ℕ × List ℕ)) → kept_log_in chosen ≡ Some path → IfSome known (IsHistoryOfChosen gives chosen before)
      → IfSome known (IsHistoryOfLog gives before.folder (inputs_in chosen) path (protocol_in chosen) chosen.at before.texts before.streams.output.written)
  history_of_path chosen before path None keeps is = tt
  history_of_path chosen before path (Some t) keeps is = is path keeps

  pub history_of_chosen : (words : List (List ℕ)) (chosen : Chosen) (before : Devices W) (known : Option (List ℕ × List ℕ)) → IsChoiceOf words (found_in words) chosen → IfSome known (IsHistoryOfWords gives words before)
      → IfSome known (IsHistoryOfChosen gives chosen before)
  history_of_chosen words chosen before None choice is = tt
  history_of_chosen words chosen before (Some t) choice is = is chosen choice

-- where the output goes is the same of devices that are seen the same
pub shown_as : {W : Type 0} (log : Option (List ℕ)) (shown : Bool) (one other : Devices W) → one ≡ other → IsOutputLog log one.folder shown → IsOutputLog log other.folder shown
shown_as {W} log shown one other same is = subst (λ (d : Devices W). IsOutputLog log d.folder shown) same is

-- where the output goes to the log that a command is given, its status is that of the fault, also where it keeps that log
pub refused_status : (kept : Option (List ℕ)) (own : ℕ) → own ≡ status_by kept None (Err Log) own
refused_status None own = refl
refused_status (Some path) own = by (own == 5)
  where
    by : (five : Bool) → own ≡ (if five && false then 6 else own)
    by true = refl
    by false = refl
