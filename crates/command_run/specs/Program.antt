-- What the whole program does: what it answers to the words of its command line, and how it ends.
use Rattle.std.specs.Prelude.{◌≡◌, ℕ, ◌==◌, ◌&&◌, if◌then◌else◌, Bool, List, [], Option, None, Some, true, false, Result, Ok, Err, IfOk, IfErr, IfSome, get_or, map, option_map, unwrap_or, drop}
use Rattle.std.specs.String.{string_bytes}
use Rattle.shop_base.specs.declared.shape_fault.ShapeFault.{ShapeFault}
use Rattle.shop_base.specs.Plan.{PlannedShop}
use Rattle.cell_drive.specs.declared.protocol.Protocol.{Protocol}
use Rattle.run_journal.specs.Folders.{Folder, is_one_of}
use Rattle.plan_decide.specs.declared.aim.Aim.{Aim}
use Rattle.plan_decide.specs.declared.aim.Aim.TheVariants.{Promises, Least}
use Rattle.plan_decide.specs.declared.aim.Objective.TheVariants.{Makespan, Leaving}
use Rattle.command_words.specs.declared.words.Chosen.{Chosen}
use Rattle.command_words.specs.declared.words.CommandName.{CommandName}
use Rattle.command_words.specs.declared.words.CommandName.TheVariants.{Input as NoWords, Facts, Shape, Check, Explain, Schedule, Bounds, Margin, Plan, Improve, Decide, Revise, Drive, Resume, Hub, Digest, Audit, State, Gantt}
use Rattle.command_words.specs.declared.words.Lines.{Lines}
use Rattle.command_words.specs.declared.words.Lines.TheVariants.{One, Two}
use Rattle.command_words.specs.declared.words.log_start.LogStart.{LogStart}
use Rattle.command_words.specs.declared.words.WordsFault.{WordsFault}
use Rattle.command_words.specs.declared.words.WordsFault.TheVariants.{Usage, Memory}
use Rattle.command_words.specs.Choice.{IsChoiceOf, IsChoiceWithin, NamesOneOf, reasons_in, found_in}
use Rattle.command_answers.specs.declared.answer.Answer.{Answer}
use Rattle.command_answers.specs.declared.cells.Cells.{Cells}
use Rattle.command_answers.specs.declared.command_fault.CommandFault.{CommandFault}
use Rattle.command_answers.specs.declared.command_fault.CommandFault.TheVariants.{Read, Write, InputTooLong, Log, LogInUse, Memory as OutOfMemory}
use Rattle.command_answers.specs.declared.loading.Loaded.{Loaded}
use Rattle.command_answers.specs.declared.logs.LogAnswer.TheVariants.{Numbers}
use Rattle.command_answers.specs.declared.rests.PlanAnswer.TheVariants.{Verdict, Reasons}
use Rattle.command_answers.specs.Commands.{InputPaths, RunPaths, RunsFacts, RunsShape, RunsDigest, RunsBounds, RunsMargin, RunsLog, RunsState, RunsRest, RunsDecide, Loads, Shapes}
use Rattle.command_answers.specs.Cells.{LoadsCells}
use Rattle.command_run.specs.Streams.{Streams, Devices}
use Rattle.command_run.specs.Inputs.{RunsInput}
use Rattle.command_run.specs.Pictures.{RunsTimetable, RunsDrawing}
use Rattle.command_run.specs.declared.pictures.Timetable.{Timetable}
use Rattle.command_run.specs.declared.pictures.Timetable.TheVariants.{Moments, Moves, Picture}
use Rattle.command_run.specs.Planners.{SeeksPlan}
use Rattle.command_run.specs.Improvers.{Improves}
use Rattle.command_run.specs.Drives.{Drives}
use Rattle.command_run.specs.Resumes.{Resumes}
use Rattle.command_run.specs.Revisions.{Revises}
use Rattle.command_run.specs.Logs.{DrivesShaped, IsHistoryOfLog, LogEnd, Step, is_driven, step_of}
use Rattle.command_run.specs.Hubs.{DrivesAll}
use Rattle.command_run.specs.Ending.{Ends, EndsBy, IsAnswerEnd, WasPrinted}

-- what the words of the command line are read as
pub record AreWordsRead (words : List (List ℕ)) (read : Result Chosen WordsFault) : Type 0 where
  pub chosen : IfOk read (IsChoiceOf words (found_in words))
  pub within : IfOk read IsChoiceWithin
  pub accepted : IfOk read (λ _. reasons_in words ≡ [])
  pub refused : IfErr read (NamesOneOf (reasons_in words))

-- the file at a place of the command line
abbrev pub file_at : Chosen → ℕ → List ℕ
file_at chosen place = get_or (map string_bytes chosen.files.items) place []

-- the files of the plans of a hub
abbrev pub plans_in : Chosen → List (List ℕ)
plans_in chosen = map string_bytes (drop 1 chosen.files.items)

-- the name of the instance in its collection
abbrev pub name_in : Chosen → Option (List ℕ)
name_in chosen = option_map string_bytes chosen.instance

-- the log of whose rest is asked
abbrev pub log_in : Chosen → Option (List ℕ)
log_in chosen = option_map string_bytes chosen.after

-- the file of names
abbrev pub names_file : Chosen → Option (List ℕ)
names_file chosen = option_map string_bytes chosen.names

-- what is to be decided where no job is named: the least makespan, or whether the budgets can be kept
abbrev pub overall_aim : Bool → Aim
overall_aim true = Least Makespan
overall_aim false = Promises

-- what is to be decided: how soon the job can be out, or that
abbrev pub aim_of : Option ℕ → Bool → Aim
aim_of (Some j) least = Least (Leaving j)
aim_of None least = overall_aim least

abbrev pub aim_in : Chosen → Aim
aim_in chosen = aim_of chosen.job chosen.least

-- in which form a schedule is printed, by whether a picture is asked for, and by whether the moves are
abbrev pub form_of : Bool → Bool → Timetable
form_of true moves = Picture
form_of false true = Moves
form_of false false = Moments

abbrev pub form_in : Chosen → Timetable
form_in chosen = form_of chosen.svg chosen.moves

-- whether a command draws a picture, where it is asked for one
abbrev pub draws : CommandName → Bool → Bool
draws Schedule svg = svg
draws Gantt svg = svg
draws other svg = false

abbrev pub draws_in : Chosen → Bool
draws_in chosen = draws chosen.name chosen.svg

-- whether a command may keep a log of its own
abbrev pub keeps_log : CommandName → Bool
keeps_log Drive = true
keeps_log other = false

-- the log that a command keeps
abbrev pub log_kept_by : Bool → Option (List ℕ) → Option (List ℕ)
log_kept_by true log = log
log_kept_by false log = None

abbrev pub kept_log_in : Chosen → Option (List ℕ)
kept_log_in chosen = log_kept_by (keeps_log chosen.name) (option_map string_bytes chosen.log)

-- the log that a command is given: that of whose rest is asked, a file of its own, or the one that it keeps
abbrev pub log_given_to : CommandName → Chosen → Option (List ℕ)
log_given_to Check chosen = log_in chosen
log_given_to Explain chosen = log_in chosen
log_given_to Schedule chosen = log_in chosen
log_given_to Improve chosen = log_in chosen
log_given_to Decide chosen = log_in chosen
log_given_to Revise chosen = Some (file_at chosen 2)
log_given_to Resume chosen = Some (file_at chosen 2)
log_given_to Audit chosen = Some (file_at chosen 2)
log_given_to State chosen = Some (file_at chosen 2)
log_given_to Gantt chosen = Some (file_at chosen 2)
log_given_to other chosen = kept_log_in chosen

abbrev pub given_log_in : Chosen → Option (List ℕ)
given_log_in chosen = log_given_to chosen.name chosen

-- whether the standard output goes to this log: to none where none is given, else as the folder knows it
abbrev pub IsOutputLog : Option (List ℕ) → Folder → Bool → Type 0
IsOutputLog None folder shown = shown ≡ false
IsOutputLog (Some path) folder shown = IfSome folder.outputs (λ paths. shown ≡ is_one_of paths path)

-- version 2
abbrev pub is_second : Option Lines → Bool
is_second None = false
is_second (Some One) = false
is_second (Some Two) = true

-- the protocol by which cells are driven: a leap counts from the present moment at the earliest, if one is given
abbrev pub protocol_in : Chosen → Protocol
protocol_in chosen = record { version_2 = is_second chosen.lines; max_gap = chosen.leap; from = unwrap_or chosen.at 0 }

-- the files of the instance and of the first plan
abbrev pub inputs_in : Chosen → InputPaths
inputs_in chosen = record { path = file_at chosen 0; name = name_in chosen; plan = file_at chosen 1 }

-- the files of the run of whose rest is asked, and the present moment
abbrev pub run_in : Chosen → RunPaths
run_in chosen = record { inputs = inputs_in chosen; names = names_file chosen; log = log_in chosen; at = chosen.at }

-- where starting again is right: the output couldn't be written, another process has the log, or the input couldn't be read to its end
abbrev pub starts_again : Bool → Result Answer CommandFault → Bool
starts_again driven (Ok answer) = true
starts_again driven (Err Write) = true
starts_again driven (Err LogInUse) = true
starts_again driven (Err Read) = driven
starts_again driven (Err InputTooLong) = driven
starts_again driven (Err fault) = false

-- a command that keeps a log has a status of its own there, in place of that of the fault
abbrev pub status_by : Option (List ℕ) → Option LogEnd → Result Answer CommandFault → ℕ → ℕ
status_by None log outcome own = own
status_by (Some path) log outcome own = if own == 5 && starts_again (is_driven log) outcome then 6 else own

-- no log was touched, and none is held
abbrev pub NoLog : {W : Type 0} → Devices W → Devices W → Option LogEnd → Type 0
NoLog before after log = (after.folder ≡ before.folder) × (log ≡ None)

module _ {W : Type 0} (gives : W → List ℕ → Result (List ℕ) CommandFault → W → Type 0) where
  -- the plan is loaded, and then the input is read
  pub record RunsDrive (protocol : Protocol) (inputs : InputPaths) (texts : W) (before : Streams) (outcome : Result Answer CommandFault) (texts_after : W) (after : Streams) : Type 0 where
    pub loaded : Result Loaded CommandFault
    pub loads : Loads gives inputs texts loaded texts_after
    pub drives : Drives protocol loaded before after outcome

  -- the plan is read, its log opened, and then the cell is driven with that
  pub record RunsLoggedDrive (folder folder_after : Folder) (path : List ℕ) (start : LogStart) (protocol : Protocol) (at : Option ℕ) (inputs : InputPaths) (texts : W) (step : Step) (texts_after : W) : Type 0 where
    pub shaped : Result (Result PlannedShop ShapeFault) CommandFault
    pub shapes : Shapes gives inputs texts shaped texts_after
    pub drives : DrivesShaped folder folder_after path start protocol at shaped step

  -- the plan is read, then its run recovered at a moment, and then the input is read
  pub record RunsResume (protocol : Protocol) (at : Option ℕ) (inputs : InputPaths) (log : List ℕ) (texts : W) (before : Streams) (outcome : Result Answer CommandFault) (texts_after : W) (after : Streams) : Type 0 where
    pub shaped : Result (Result PlannedShop ShapeFault) CommandFault
    pub texts_mid : W
    pub shapes : Shapes gives inputs texts shaped texts_mid
    pub resumes : Resumes gives protocol at log shaped texts_mid before outcome texts_after after

  -- all plans are loaded, and then the input is read
  pub record RunsHub (protocol : Protocol) (path : List ℕ) (name : Option (List ℕ)) (plans : List (List ℕ)) (texts : W) (before : Streams) (outcome : Result Answer CommandFault) (texts_after : W) (after : Streams) : Type 0 where
    pub loaded : Result Cells CommandFault
    pub loads : LoadsCells gives path name plans texts loaded texts_after
    pub drives : DrivesAll protocol loaded before after outcome

  -- what each command does
  abbrev pub RunsCommand : CommandName → Chosen → W → Streams → Result Answer CommandFault → W → Streams → Type 0
  RunsCommand NoWords chosen texts before outcome texts_after after =
      RunsInput before.input outcome after.input × (after.output ≡ before.output) × (texts_after ≡ texts)
  RunsCommand Facts chosen texts before outcome texts_after after =
      RunsFacts gives (file_at chosen 0) (name_in chosen) texts outcome texts_after × (after ≡ before)
  RunsCommand Shape chosen texts before outcome texts_after after =
      RunsShape gives (inputs_in chosen) texts outcome texts_after × (after ≡ before)
  RunsCommand Check chosen texts before outcome texts_after after =
      RunsRest gives Verdict (run_in chosen) texts outcome texts_after × (after ≡ before)
  RunsCommand Explain chosen texts before outcome texts_after after =
      RunsRest gives (Reasons chosen.job) (run_in chosen) texts outcome texts_after × (after ≡ before)
  RunsCommand Schedule chosen texts before outcome texts_after after =
      RunsTimetable gives (form_in chosen) (run_in chosen) texts before outcome texts_after after
  RunsCommand Bounds chosen texts before outcome texts_after after =
      RunsBounds gives (inputs_in chosen) (names_file chosen) texts outcome texts_after × (after ≡ before)
  RunsCommand Margin chosen texts before outcome texts_after after =
      RunsMargin gives (inputs_in chosen) (names_file chosen) texts outcome texts_after × (after ≡ before)
  RunsCommand Plan chosen texts before outcome texts_after after =
      SeeksPlan gives chosen.rounds (inputs_in chosen) texts outcome texts_after × (after ≡ before)
  RunsCommand Improve chosen texts before outcome texts_after after =
      Improves gives chosen.rounds (run_in chosen) texts outcome texts_after × (after ≡ before)
  RunsCommand Decide chosen texts before outcome texts_after after =
      RunsDecide gives (aim_in chosen) (run_in chosen) texts outcome texts_after × (after ≡ before)
  RunsCommand Revise chosen texts before outcome texts_after after =
      Revises gives chosen.prints (names_file chosen) chosen.at chosen.changes.items (inputs_in chosen) (file_at chosen 2) texts outcome texts_after × (after ≡ before)
  RunsCommand Drive chosen texts before outcome texts_after after =
      RunsDrive (protocol_in chosen) (inputs_in chosen) texts before outcome texts_after after
  RunsCommand Resume chosen texts before outcome texts_after after =
      RunsResume (protocol_in chosen) chosen.at (inputs_in chosen) (file_at chosen 2) texts before outcome texts_after after
  RunsCommand Hub chosen texts before outcome texts_after after =
      RunsHub (protocol_in chosen) (file_at chosen 0) (name_in chosen) (plans_in chosen) texts before outcome texts_after after
  RunsCommand Digest chosen texts before outcome texts_after after =
      RunsDigest gives (inputs_in chosen) texts outcome texts_after × (after ≡ before)
  RunsCommand Audit chosen texts before outcome texts_after after =
      RunsLog gives Numbers (inputs_in chosen) None (file_at chosen 2) texts outcome texts_after × (after ≡ before)
  RunsCommand State chosen texts before outcome texts_after after =
      RunsState gives (inputs_in chosen) (names_file chosen) (file_at chosen 2) chosen.at texts outcome texts_after × (after ≡ before)
  RunsCommand Gantt chosen texts before outcome texts_after after =
      RunsDrawing gives chosen.svg (inputs_in chosen) (names_file chosen) (file_at chosen 2) texts before outcome texts_after after

  -- the command that was chosen, with the log that it keeps, if it keeps one; else no log is touched
  abbrev pub RunsChosen : Option (List ℕ) → Chosen → Devices W → Result Answer CommandFault → Streams → Devices W → Option LogEnd → Type 0
  RunsChosen None chosen before outcome mid after log =
      RunsCommand chosen.name chosen before.texts before.streams outcome after.texts mid × NoLog before after log
  RunsChosen (Some path) chosen before outcome mid after log =
      RunsLoggedDrive before.folder after.folder path chosen.start (protocol_in chosen) chosen.at (inputs_in chosen) before.texts (step_of before.streams outcome mid log) after.texts

  -- where the standard output goes to the log that the command is given, that is its fault: no file is asked for, no byte read or written, and no log touched; else it is run
  abbrev pub RunsBy : Bool → Chosen → Devices W → Result Answer CommandFault → Streams → Devices W → Option LogEnd → Type 0
  RunsBy true chosen before outcome mid after log = (outcome ≡ Err Log) × (mid ≡ before.streams) × (after.texts ≡ before.texts) × NoLog before after log
  RunsBy false chosen before outcome mid after log = RunsChosen (kept_log_in chosen) chosen before outcome mid after log

  -- that is asked before anything else
  pub record RunsApart (chosen : Chosen) (before : Devices W) (outcome : Result Answer CommandFault) (mid : Streams) (after : Devices W) (log : Option LogEnd) : Type 0 where
    pub shown : Bool
    pub known : IsOutputLog (given_log_in chosen) before.folder shown
    pub by : RunsBy shown chosen before outcome mid after log

  -- the command is run, and then its answer printed, or its fault printed, with its own status; what is answered in place of a picture is printed too
  pub record Commands (chosen : Chosen) (before : Devices W) (status : ℕ) (after : Devices W) (log : Option LogEnd) : Type 0 where
    pub outcome : Result Answer CommandFault
    pub mid : Streams
    pub runs : RunsApart chosen before outcome mid after log
    pub input : after.streams.input ≡ mid.input
    pub own : ℕ
    pub ends : EndsBy (draws_in chosen) outcome mid.output after.streams.output before.errors after.errors own
    pub status_is : status ≡ status_by (kept_log_in chosen) log outcome own

  -- help or the version that was asked for is a good answer
  pub record Helps (text : List ℕ) (before : Devices W) (status : ℕ) (after : Devices W) (log : Option LogEnd) : Type 0 where
    pub help : Answer
    pub text_is : (help.text.items ≡ text) × (help.status ≡ 0)
    pub ends : IsAnswerEnd help before.streams.output after.streams.output before.errors after.errors status
    pub same : (after.texts ≡ before.texts) × (after.streams.input ≡ before.streams.input)
    pub logs : NoLog before after log

  -- what follows the reading of the words: the command that was chosen, help or the version, or a line on the standard error
  abbrev pub Follows : Result Chosen WordsFault → Devices W → ℕ → Devices W → Option LogEnd → Type 0
  Follows (Ok chosen) before status after log = Commands chosen before status after log
  Follows (Err (Usage true text)) before status after log = Helps (string_bytes text) before status after log
  Follows (Err (Usage false text)) before status after log =
      WasPrinted (string_bytes text) before.errors after.errors × (status ≡ 2) × (after.texts ≡ before.texts) × (after.streams ≡ before.streams) × NoLog before after log
  Follows (Err Memory) before status after log =
      Ends (Err OutOfMemory) before.streams.output after.streams.output before.errors after.errors status
      × (after.texts ≡ before.texts) × (after.streams.input ≡ before.streams.input) × NoLog before after log

  -- the program: the words are read, and what they ask for is done; and what became of the log, if one is held
  pub record RunsProgram (words : List (List ℕ)) (before : Devices W) (status : ℕ) (after : Devices W) (log : Option LogEnd) : Type 0 where
    pub read : Result Chosen WordsFault
    pub is : AreWordsRead words read
    pub follows : Follows read before status after log

-- what is known of the log that the command keeps, if it keeps one, and of what the output has written once the events in that are replayed
abbrev pub IsHistoryOfChosen : {W : Type 0} → (W → List ℕ → Result (List ℕ) CommandFault → W → Type 0) → Chosen → Devices W → List ℕ × List ℕ → Type 0
IsHistoryOfChosen gives chosen before known = (path : List ℕ) → kept_log_in chosen ≡ Some path
    → IsHistoryOfLog gives before.folder (inputs_in chosen) path (protocol_in chosen) chosen.at before.texts before.streams.output.written known

-- what is known of the log that the words ask for, and of what the output has written once the events in that are replayed
abbrev pub IsHistoryOfWords : {W : Type 0} → (W → List ℕ → Result (List ℕ) CommandFault → W → Type 0) → List (List ℕ) → Devices W → List ℕ × List ℕ → Type 0
IsHistoryOfWords gives words before known = (chosen : Chosen) → IsChoiceOf words (found_in words) chosen → IsHistoryOfChosen gives chosen before known
