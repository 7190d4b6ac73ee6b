-- What driving a cell with a log of its own comes to.
use Rattle.std.specs.Prelude.{◌≡◌, ◌≢◌, ◌≤◌, ◌⊎◌, ◌++◌, ℕ, suc, List, [], ◌∷◌, length, Bool, true, false, if◌then◌else◌, Option, None, Some, option_map, is_some, unwrap_or, Result, Ok, Err, IsOk, IfOk, IfErr, IfSome, OnOk}
use Rattle.shop_base.specs.declared.shape_fault.ShapeFault.{ShapeFault}
use Rattle.shop_base.specs.Plan.{PlannedShop}
use Rattle.text_lines.specs.declared.limits.TheConstants.{MAX_INPUT}
use Rattle.text_lines.specs.Lines.{ended_lines, lines_of}
use Rattle.text_lines.specs.Searches.{SomeIfAny}
use Rattle.plan_verifier.specs.declared.verdict.Verdict.{Verdict}
use Rattle.plan_verifier.specs.declared.verdict.Verdict.TheVariants.{Accepted, Refused}
use Rattle.plan_verifier.specs.Accepted.{VerifiedPlan, IsAcceptable}
use Rattle.plan_verifier.specs.Verdicts.{OnAccepted, OnRefused, IsReason}
use Rattle.byte_streams.specs.declared.drive_fault.DriveFault.{DriveFault}
use Rattle.byte_streams.specs.declared.drive_fault.DriveFault.TheVariants.{Read as NotReadOn, Write as NotWritten, InputTooLong as InputTooLongToDrive, Memory as NoMemoryToDrive}
use Rattle.byte_streams.specs.Lent.{output_sink}
use Rattle.cell_tables.specs.declared.entry.Entry.{Entry}
use Rattle.event_lines.specs.RunDigits.{plan_line}
use Rattle.event_lines.specs.declared.run_digits.RunDigits.{RunDigits}
use Rattle.run_log.specs.declared.audit_fault.AuditFault.TheVariants.{BadLine}
use Rattle.cell_drive.specs.declared.protocol.Protocol.{Protocol}
use Rattle.cell_drive.specs.Recovered.{Recovered, IsRecovered, IsRecoverable, plan_of, replayed_events}
use Rattle.cell_drive.specs.Replay.{replay_text}
use Rattle.cell_drive.specs.InProtocol.{IsDriveIn, IsContinuedIn, IsReplayedIn}
use Rattle.run_journal.specs.declared.file_fault.FileFault.{FileFault}
use Rattle.run_journal.specs.declared.file_fault.FileFault.TheVariants.{Log as NotLogged, InUse, Read as NotRead, TooLong, Memory as NoMemoryForLog}
use Rattle.run_journal.specs.declared.log_run.LogRun.{LogRun}
use Rattle.run_journal.specs.Folders.{Folder, NamedLog, IsDiskFault, IsOpenFault, handed, handed_if, held, with_fault, with_log, with_name}
use Rattle.run_journal.specs.LogFiles.{IsReadFault, IsDurable, Leaves}
use Rattle.run_journal.specs.Logged.{AreInStep, Held, fault_if}
use Rattle.run_journal.specs.LogRuns.{IsNamedFor, IsNamedOrNot, IsLogRunOf}
use Rattle.run_journal.specs.Openings.{IsUnmade}
use Rattle.run_journal.specs.TornEnds.{is_torn}
use Rattle.run_journal.specs.WholeLines.{torn_end, whole_lines}
use Rattle.logged_drive.specs.declared.recovered_log.RecoverFault.{RecoverFault}
use Rattle.logged_drive.specs.declared.recovered_log.RecoverFault.TheVariants.{Resume, NoTornEnd, File}
use Rattle.logged_drive.specs.CrashLaw.{IsRecoveredAfter}
use Rattle.logged_drive.specs.LoggedRuns.{IsAllInLog, KeepsShown, ShowsRun}
use Rattle.logged_drive.specs.RecoveredLogs.{IsOfDevice, IsOfText, IsOnlyRecoverFault, IsRecoverFault, file_fault}
use Rattle.run_log.specs.Digits.{digits_of}
use Rattle.command_words.specs.declared.words.log_start.LogStart.{LogStart}
use Rattle.command_answers.specs.declared.answer.Answer.{Answer}
use Rattle.command_answers.specs.declared.command_fault.CommandFault.{CommandFault}
use Rattle.command_answers.specs.declared.command_fault.CommandFault.TheVariants.{Read, Write, InputTooLong, Log, LogInUse, Memory}
use Rattle.command_answers.specs.declared.loading.Loaded.TheVariants.{NotShaped, Judged}
use Rattle.command_answers.specs.Commands.{InputPaths, Shapes}
use Rattle.command_answers.specs.LogLines.{IsLogFaultAnswer}
use Rattle.command_run.specs.Streams.{Streams, Output}
use Rattle.command_run.specs.Drives.{IsEnded, IsLineAnswer, drive_command_fault, end_of_drive}
use Rattle.command_run.specs.Misfits.{IsMisfit, IsMisfitAnswer}
use Rattle.command_run.specs.Resumes.{HasAnswer, IsUnrecoveredAnswer, end_of_rest}
use Rattle.command_run.specs.declared.misfits.Misfit.{Misfit}

-- ---- faults

-- the fault of a log as a command's
abbrev pub log_command_fault : FileFault → CommandFault
log_command_fault NotLogged = Log
log_command_fault InUse = LogInUse
log_command_fault NotRead = Read
log_command_fault TooLong = InputTooLong
log_command_fault NoMemoryForLog = Memory

-- the fault of a run with a log as a command's: a write that failed may be the log's
abbrev pub logged_command_fault : Bool → DriveFault → CommandFault
logged_command_fault log_failed NotWritten = if log_failed then Log else Write
logged_command_fault log_failed NotReadOn = Read
logged_command_fault log_failed InputTooLongToDrive = InputTooLong
logged_command_fault log_failed NoMemoryToDrive = Memory

-- no more is answered at the end of a run with a log, since all lines are written
abbrev pub IsLoggedAnswer : Bool → Result Bool DriveFault → Result Answer CommandFault → Type 0
IsLoggedAnswer log_failed (Ok done) outcome = IsEnded done outcome
IsLoggedAnswer log_failed (Err fault) outcome = outcome ≡ Err (logged_command_fault log_failed fault)

-- what is answered of a log that isn't recovered: as by `resume`; of an end that no crash leaves, that the line behind the whole ones is bad; or the fault of the log
abbrev pub IsLogFaultPrinted : RecoverFault → Result Answer CommandFault → Type 0
IsLogFaultPrinted (Resume fault) outcome = IsUnrecoveredAnswer fault outcome
IsLogFaultPrinted (NoTornEnd lines) outcome = IsLogFaultAnswer (BadLine (suc lines)) outcome
IsLogFaultPrinted (File fault) outcome = outcome ≡ Err (log_command_fault fault)

-- there is an answer for the fault: the moment isn't past the latest, and the lines of which such an end is behind are no more than a log may have bytes
abbrev pub HasFewLines : RecoverFault → Type 0
HasFewLines (Resume fault) = HasAnswer fault
HasFewLines (NoTornEnd lines) = lines ≤ MAX_INPUT
HasFewLines (File fault) = Unit {0}

-- ---- a cell that is driven with a log

-- the digits of a plan and its shop
abbrev pub digits_in : PlannedShop → RunDigits
digits_in p = digits_of p.shop p.plan

-- what became of a log that is held: a run of the plan went on with it, behind the events that it recorded, up to what its writer held; or it wasn't recovered by the plan for this reason, and its bytes were these;
-- or it was left with what is known of it, or with the bytes that were found; or it couldn't be synced or read, for this reason, and was left as it was found; or a new one couldn't be given the line of the plan
pub data LogEnd : Type 0 where
  Driven : PlannedShop → List Entry → Held → LogEnd
  NotRecovered : PlannedShop → List ℕ → RecoverFault → LogEnd
  Left : LogEnd
  Found : List ℕ → LogEnd
  Unread : FileFault → LogEnd
  Unlined : PlannedShop → LogEnd

-- the streams before a step and after it, what the step has come to, and what became of the log, if it is held behind it
pub record Step : Type 0 where
  pub before : Streams
  pub outcome : Result Answer CommandFault
  pub after : Streams
  pub log : Option LogEnd

abbrev pub step_of : Streams → Result Answer CommandFault → Streams → Option LogEnd → Step
step_of before outcome after log = record { before = before; outcome = outcome; after = after; log = log }

-- nothing was driven: no byte was read or written, and of the log that is held, if one is, became this
pub record DrivesNothing (log : Option LogEnd) (step : Step) : Type 0 where
  pub same : step.after ≡ step.before
  pub is : step.log ≡ log

-- one that was opened, and has no bytes, is left so
abbrev pub left_if : Bool → Option LogEnd
left_if true = Some (Found [])
left_if false = None

-- a cell was driven so by the plan, behind these events, by a writer that keeps a log, and shows only what the log has got; where a write failed, and not the log's, the output has; memory doesn't run out. The status says whether the run has ended, and the log is held
pub record DrivesWithLog {T : Type 0} (p : PlannedShop) (known : List Entry) (drives : Streams → Streams → Result T DriveFault → Type 0) (ends : Result T DriveFault → Result Bool DriveFault) (step : Step) : Type 0 where
  pub end : Result T DriveFault
  pub log_failed : Bool
  pub held : Held
  pub shows : ShowsRun drives step.before.input step.before.output.written end log_failed step.after.input step.after.output held
  pub output_failed : end ≡ Err NotWritten → log_failed ≡ false → step.after.output.failed ≡ true
  pub memory : end ≢ Err NoMemoryToDrive
  pub answer : IsLoggedAnswer log_failed (ends end) step.outcome
  pub log : step.log ≡ Some (Driven p known held)

-- the verdict on a plan
pub record IsVerdict (p : PlannedShop) (verdict : Verdict) : Type 0 where
  pub accepted : OnAccepted (λ verified. (verified.planned ≡ p) × IsAcceptable p) verdict
  pub refused : OnRefused (λ back why. (back ≡ p) × IsReason p why) verdict

-- ---- a new log: of the logs that there were, and those that are there in the end

module _ (folder folder_after : Folder) (path : List ℕ) where
  -- why a new log can't be had: none could be made; or it has no byte, since its name couldn't be put onto the disk; or its line of the plan couldn't
  abbrev pub IsNewLogFault : PlannedShop → Bool → FileFault → Option LogEnd → Type 0
  IsNewLogFault p there fault log = (IsUnmade there path folder folder_after fault × (log ≡ None))
      ⊎ (IsDiskFault fault × (folder_after ≡ with_fault fault (with_log there path folder)) × (log ≡ Some (Found [])))
      ⊎ ((fault ≡ NotLogged) × (folder_after ≡ with_name path (with_log there path folder)) × (log ≡ Some (Unlined p)))

  -- the log can't be had, for this reason
  pub record LacksLog (p : PlannedShop) (there : Bool) (step : Step) : Type 0 where
    pub fault : FileFault
    pub is : step.outcome ≡ Err (log_command_fault fault)
    pub same : step.after ≡ step.before
    pub why : IsNewLogFault p there fault step.log

  -- the log is there with its name on the disk, made if there was none, and the cell was driven with it
  pub record BeginsRun (protocol : Protocol) (there : Bool) (v : VerifiedPlan) (step : Step) : Type 0 where
    pub drove : DrivesWithLog v.planned [] (IsDriveIn protocol v) end_of_drive step
    pub made : folder_after ≡ with_name path (with_log there path folder)

  -- memory ran out before any log was made or written
  abbrev pub LacksMemory : Bool → Step → Type 0
  LacksMemory there step = (step.outcome ≡ Err Memory) × DrivesNothing (left_if there) step × (folder_after ≡ folder)

  -- an accepted plan has its cell driven, unless memory runs out before
  abbrev pub BeginsAccepted : Protocol → Bool → VerifiedPlan → Step → Type 0
  BeginsAccepted protocol there v step = LacksMemory there step ⊎ LacksLog v.planned there step ⊎ BeginsRun protocol there v step

  -- any other is answered by its line, and no log is made
  abbrev pub BeginsBy : Protocol → Bool → Verdict → Step → Type 0
  BeginsBy protocol there (Refused back why) step = IsLineAnswer (Judged (Refused back why)) step.outcome × DrivesNothing (left_if there) step × (folder_after ≡ folder)
  BeginsBy protocol there (Accepted v) step = BeginsAccepted protocol there v step

  -- the plan is judged, and then a new run begins by it, unless memory runs out before
  abbrev pub Begins : Protocol → PlannedShop → Bool → Step → Type 0
  Begins protocol p there step =
      ((verdict : Verdict) × IsVerdict p verdict × BeginsBy protocol there verdict step) ⊎ LacksMemory there step

-- ---- a log with bytes

-- the log with these bytes is recovered by the plan, at the moment that is given or else at its last one, and its torn end was cut off; or this is why it isn't
pub record RecoversLog (p : PlannedShop) (at : Option ℕ) (text : List ℕ) (recovered : Result Recovered RecoverFault) : Type 0 where
  pub is : IfOk recovered (IsRecovered p (ended_lines (whole_lines text)) at)
  pub torn : OnOk recovered (is_torn (torn_end text) ≡ true)
  pub fault : IfErr recovered (IsRecoverFault p text at)
  pub only_fault : IfErr recovered (IsOnlyRecoverFault p (ended_lines (whole_lines text)))
  pub only : IsRecoverable p (ended_lines (whole_lines text)) at → is_torn (torn_end text) ≡ true → IfErr recovered IsOfDevice

-- the events in the log were replayed, and shown; or that failed
pub record ReplaysEvents (protocol : Protocol) (t : Recovered) (before after : Output) (replay : Result Recovered DriveFault) : Type 0 where
  pub is : IsReplayedIn protocol t (output_sink before) (output_sink after) replay
  pub same : IfOk replay (λ run. run ≡ t)
  pub shown : OnOk replay (after.pending ≡ [])

-- an input, with an output that has the events
abbrev pub with_output : Streams → Output → Streams
with_output before mid = record { input = before.input; output = mid }

-- the step from there on
abbrev pub from_output : Output → Step → Step
from_output mid step = record step { before = with_output step.before mid }

-- then the run goes on with the log; or the replay has failed, with no byte read, and the log is left
abbrev pub GoesOnAfter : Protocol → Recovered → Output → Result Recovered DriveFault → Step → Type 0
GoesOnAfter protocol t mid (Ok done) step = DrivesWithLog (plan_of t) (replayed_events t) (IsContinuedIn protocol t) end_of_rest (from_output mid step)
GoesOnAfter protocol t mid (Err fault) step = (step.outcome ≡ Err (drive_command_fault fault)) × (step.after ≡ with_output step.before mid) × (step.log ≡ Some Left)

-- so a run that was recovered goes on
pub record GoesOnWithLog (protocol : Protocol) (t : Recovered) (step : Step) : Type 0 where
  pub replay : Result Recovered DriveFault
  pub mid : Output
  pub replays : ReplaysEvents protocol t step.before.output mid replay
  pub goes_on : GoesOnAfter protocol t mid replay step

-- what follows the recovery of a log with these bytes: the run goes on with it; of one that isn't recovered the fault is printed, with no byte read or written, and it is held
abbrev pub ContinuesRecovered : PlannedShop → Protocol → List ℕ → Result Recovered RecoverFault → Step → Type 0
ContinuesRecovered p protocol text (Ok t) step = GoesOnWithLog protocol t step
ContinuesRecovered p protocol text (Err fault) step = IsLogFaultPrinted fault step.outcome × DrivesNothing (Some (NotRecovered p text fault)) step

-- the log with these bytes is recovered, and the run goes on
pub record RecoversRun (p : PlannedShop) (protocol : Protocol) (at : Option ℕ) (text : List ℕ) (step : Step) : Type 0 where
  pub recovered : Result Recovered RecoverFault
  pub takes : RecoversLog p at text recovered
  pub goes_on : ContinuesRecovered p protocol text recovered step

-- ---- any log

-- the bytes that were found, none where there is no log
abbrev pub bytes_in : Option (List ℕ) → List ℕ
bytes_in there = unwrap_or there []

module _ (folder folder_after : Folder) (path : List ℕ) where
  -- a log that isn't there, or has no bytes, begins a run; any other is recovered
  abbrev pub DrivesFitting : Protocol → Option ℕ → PlannedShop → Option (List ℕ) → Step → Type 0
  DrivesFitting protocol at p None step = Begins folder folder_after path protocol p false step
  DrivesFitting protocol at p (Some []) step = Begins folder folder_after path protocol p true step
  DrivesFitting protocol at p (Some (byte ∷ bytes)) step = RecoversRun p protocol at (byte ∷ bytes) step × (folder_after ≡ folder)

  -- a log that isn't as the words ask is answered by a line, and is left as it was found
  abbrev pub DrivesAs : Option Misfit → Protocol → Option ℕ → PlannedShop → Option (List ℕ) → Step → Type 0
  DrivesAs (Some misfit) protocol at p there step = IsMisfitAnswer misfit step.outcome × DrivesNothing (option_map Found there) step × (folder_after ≡ folder)
  DrivesAs None protocol at p there step = DrivesFitting protocol at p there step

  -- what was found is driven, if it is as the words ask, by its whole lines
  pub record DrivesFound (start : LogStart) (protocol : Protocol) (at : Option ℕ) (p : PlannedShop) (there : Option (List ℕ)) (step : Step) : Type 0 where
    pub run : LogRun
    pub parses : IsLogRunOf (lines_of (whole_lines (bytes_in there))) run
    pub misfit : Option Misfit
    pub is_misfit : SomeIfAny misfit (IsMisfit start run (digits_in p))
    pub drives : DrivesAs misfit protocol at p there step

module _ (folder folder_after : Folder) (path : List ℕ) (start : LogStart) (protocol : Protocol) (at : Option ℕ) (p : PlannedShop) where
  -- the folder says that no log could be opened, or locked; or the log says that it couldn't be synced or read
  abbrev pub IsOpeningFault : FileFault → Option LogEnd → Type 0
  IsOpeningFault fault log = (IsOpenFault fault × (folder_after ≡ with_fault fault folder) × (log ≡ None))
      ⊎ (((fault ≡ NotLogged) ⊎ IsReadFault fault) × (folder_after ≡ handed folder) × (log ≡ Some (Unread fault)))

  -- what was found by the path is driven; a log that can't be opened, locked or read ends all
  abbrev pub DrivesOpened : Result (Option (List ℕ)) FileFault → Step → Type 0
  DrivesOpened (Err fault) step = (step.outcome ≡ Err (log_command_fault fault)) × (step.after ≡ step.before) × IsOpeningFault fault step.log
  DrivesOpened (Ok there) step = DrivesFound (handed_if (is_some there) folder) folder_after path start protocol at p there step

  -- the log of the path is opened
  pub record OpensLog (step : Step) : Type 0 where
    pub opened : Result (Option (List ℕ)) FileFault
    pub found : IfOk opened (λ there. IfSome folder.logs (λ logs. there ≡ held logs path))
    pub drives : DrivesOpened opened step

  -- unless memory runs out for the digits of the plan before
  abbrev pub DrivesByLog : Step → Type 0
  DrivesByLog step = OpensLog step ⊎ ((step.outcome ≡ Err Memory) × DrivesNothing None step × (folder_after ≡ folder))

-- what follows the plan: a well-shaped one has its log opened; any other is answered by its first fault, and no log is opened
abbrev pub DrivesShaped : Folder → Folder → List ℕ → LogStart → Protocol → Option ℕ → Result (Result PlannedShop ShapeFault) CommandFault → Step → Type 0
DrivesShaped folder folder_after path start protocol at (Err fault) step = (step.outcome ≡ Err fault) × DrivesNothing None step × (folder_after ≡ folder)
DrivesShaped folder folder_after path start protocol at (Ok (Err fault)) step = IsLineAnswer (NotShaped fault) step.outcome × DrivesNothing None step × (folder_after ≡ folder)
DrivesShaped folder folder_after path start protocol at (Ok (Ok p)) step = DrivesByLog folder folder_after path start protocol at p step

-- ---- what the log has

-- Of a run of the plan, behind these events, up to what its writer held: the log is in step with the output. What a crash leaves of it has, behind what was known of it before, all that was shown
-- behind what was known of the output, and the run is recovered from that. At a good end it has all of it.
pub record KeepsInLog (seen : Option (List ℕ)) (crash_states : List ℕ → Type 0) (printed : Option (List ℕ)) (good : Type 0) (p : PlannedShop) (before : List Entry) (held : Held) (known : List ℕ × List ℕ) : Type 0 where
  pub in_step : AreInStep known.0 known.1 seen crash_states held.written held.pending held.failed
  pub crash : KeepsShown known.0 known.1 crash_states printed
  pub recoverable : IsRecoveredAfter p before known.1 crash_states printed
  pub in_log : good → IsAllInLog known.0 known.1 seen crash_states printed

-- a log with these bytes that wasn't recovered by the plan has them still, unless it couldn't be cut or written; what a crash leaves of it has the same whole lines, with the plan's or without, and of a torn end a torn end again
pub record IsAsItWas (seen : Option (List ℕ)) (crash_states : List ℕ → Type 0) (p : PlannedShop) (text : List ℕ) (fault : RecoverFault) : Type 0 where
  pub untouched : IsOfText fault → (seen ≡ Some text) × IsDurable seen crash_states
  pub crash : (left : List ℕ) → crash_states left → IsNamedOrNot (digits_in p) (whole_lines text) (whole_lines left)
  pub torn_again : is_torn (torn_end text) ≡ true → (left : List ℕ) → crash_states left → is_torn (torn_end left) ≡ true

-- so by what became of it
abbrev pub IsLogAfter : Option (List ℕ) → (List ℕ → Type 0) → Option (List ℕ) → Type 0 → LogEnd → List ℕ × List ℕ → Type 0
IsLogAfter seen crash_states printed good (Driven p before held) known = KeepsInLog seen crash_states printed good p before held known
IsLogAfter seen crash_states printed good (NotRecovered p text fault) known = IsAsItWas seen crash_states p text fault
IsLogAfter seen crash_states printed good Left known = (seen ≡ Some known.0) × IsDurable seen crash_states
IsLogAfter seen crash_states printed good (Found bytes) known = (seen ≡ Some bytes) × IsDurable seen crash_states
IsLogAfter seen crash_states printed good (Unread fault) known = Unit {0}
IsLogAfter seen crash_states printed good (Unlined p) known = Leaves crash_states 0 (plan_line (digits_in p))

-- the fault that the log itself says, by what became of it
abbrev pub fault_of : LogEnd → Option FileFault
fault_of (Driven p before held) = fault_if held.log_failed
fault_of (NotRecovered p text fault) = file_fault fault
fault_of Left = None
fault_of (Found bytes) = None
fault_of (Unread fault) = Some fault
fault_of (Unlined p) = Some NotLogged

-- no byte was changed of one that couldn't be synced or read, that wasn't as the words ask, that was left because of the plan, or that wasn't recovered because of its text, or because memory ran out
abbrev pub IsUntouched : Bool → LogEnd → Type 0
IsUntouched written (Unread fault) = written ≡ false
IsUntouched written (Found bytes) = written ≡ false
IsUntouched written (NotRecovered p text fault) = IsOfText fault → written ≡ false
IsUntouched written other = Unit {0}

-- so it is with the log that is held, if one is: it names just this fault, and where it is known what there was before, it has this
abbrev pub IsHeldAfter : {D : Type 0} → (D → Option (List ℕ)) → (D → List ℕ → Type 0) → (D → Option FileFault) → (D → Bool) → Option (List ℕ × List ℕ) → Option (List ℕ) → Type 0 → Option D → Option LogEnd → Type 0
IsHeldAfter seen crash_states fault written known printed good None None = Unit {0}
IsHeldAfter seen crash_states fault written known printed good None (Some end) = ⊥
IsHeldAfter seen crash_states fault written known printed good (Some log) None = ⊥
IsHeldAfter seen crash_states fault written known printed good (Some log) (Some end) = (fault log ≡ fault_of end) × IsUntouched (written log) end × IfSome known (IsLogAfter (seen log) (crash_states log) printed good end)

-- something was done with a log, and the log that is held after it, if one is, is as is said of it
pub record WithLog {D : Type 0} (seen : D → Option (List ℕ)) (crash_states : D → List ℕ → Type 0) (fault : D → Option FileFault) (written : D → Bool) (known : Option (List ℕ × List ℕ)) (printed : Option (List ℕ)) (good : Type 0)
    (log : Option D) (done : Option LogEnd → Type 0) : Type 0 where
  pub end : Option LogEnd
  pub is : done end
  pub held : IsHeldAfter seen crash_states fault written known printed good log end

-- whether a cell was driven with it
abbrev pub is_driven : Option LogEnd → Bool
is_driven (Some (Driven p before held)) = true
is_driven other = false

-- a step was made with a log, and it is known whether a cell was driven
abbrev pub StepsWith : {D : Type 0} → (D → Option (List ℕ)) → (D → List ℕ → Type 0) → (D → Option FileFault) → (D → Bool) → Option (List ℕ × List ℕ) → Streams → Result Answer CommandFault → Streams → Bool → Option D → (Step → Type 0) → Type 0
StepsWith seen crash_states fault written known before outcome after driven log makes = WithLog seen crash_states fault written known after.output.written (IsOk outcome) log
    (λ end. (driven ≡ is_driven end) × makes (step_of before outcome after end))

-- ---- what a log is before a run

-- it is on the disk, and no call of it has failed
pub record IsReady (seen : Option (List ℕ)) (crash_states : List ℕ → Type 0) (fault : Option FileFault) : Type 0 where
  pub durable : IsDurable seen crash_states
  pub unfailed : fault ≡ None

-- and it has no bytes, which is known where the logs are, and none was written
pub record IsEmptyLog (seen : Option (List ℕ)) (crash_states : List ℕ → Type 0) (fault : Option FileFault) (written : Bool) (folder : Folder) : Type 0 where
  pub ready : IsReady seen crash_states fault
  pub unwritten : written ≡ false
  pub empty : IfSome seen (λ file. file ≡ [])
  pub known : IfSome folder.logs (λ _. seen ≡ Some [])

-- a log that was opened and read, and not written, with these bytes, which are known where the logs are
pub record IsFoundLog (seen : Option (List ℕ)) (crash_states : List ℕ → Type 0) (fault : Option FileFault) (written : Bool) (folder : Folder) (text : List ℕ) : Type 0 where
  pub ready : IsReady seen crash_states fault
  pub unwritten : written ≡ false
  pub read : IfSome seen (λ file. text ≡ file)
  pub within : length text ≤ MAX_INPUT
  pub known : IfSome folder.logs (λ _. seen ≡ Some text)

-- the run was recovered from the whole lines that the log has
abbrev pub IsRecoveredFromLog : Recovered → List ℕ → Type 0
IsRecoveredFromLog t base = (whole_lines base ≡ base) × (at : Option ℕ) × IsRecovered (plan_of t) (ended_lines base) at t

-- ---- what the log holds before

-- behind what the output has written stands this text
pub record IsWrittenBehind (printed : Option (List ℕ)) (text known : List ℕ) : Type 0 where
  pub start : List ℕ
  pub was : printed ≡ Some start
  pub is : known ≡ start ++ text

-- what is known of a new log by this plan, in a folder that is known: the line of the plan; and of what the output has written
pub record IsHistoryOfNew (folder : Folder) (p : PlannedShop) (printed : Option (List ℕ)) (known : List ℕ × List ℕ) : Type 0 where
  pub logs : List NamedLog
  pub there : folder.logs ≡ Some logs
  pub log : known.0 ≡ plan_line (digits_in p)
  pub output : printed ≡ Some known.1

-- what is known of the whole lines of a log, with the line of the plan behind them unless it is their last one; and of what the output has written once the events in it are replayed
pub record IsHistoryOfOld (p : PlannedShop) (protocol : Protocol) (at : Option ℕ) (bytes : List ℕ) (printed : Option (List ℕ)) (known : List ℕ × List ℕ) : Type 0 where
  pub log : IsNamedFor (digits_in p) (whole_lines bytes) known.0
  pub output : (t : Recovered) → IsRecovered p (ended_lines (whole_lines bytes)) at t → IsWrittenBehind printed (replay_text protocol t) known.1

-- so of any log
abbrev pub IsHistoryOf : Folder → PlannedShop → Protocol → Option ℕ → Option (List ℕ) → Option (List ℕ) → List ℕ × List ℕ → Type 0
IsHistoryOf folder p protocol at None printed known = IsHistoryOfNew folder p printed known
IsHistoryOf folder p protocol at (Some []) printed known = IsHistoryOfNew folder p printed known
IsHistoryOf folder p protocol at (Some (byte ∷ bytes)) printed known = IsHistoryOfOld p protocol at (byte ∷ bytes) printed known

-- so of one that was found, in a folder that is known
pub record IsHistoryOfFound (folder : Folder) (p : PlannedShop) (protocol : Protocol) (at : Option ℕ) (there printed : Option (List ℕ)) (known : List ℕ × List ℕ) : Type 0 where
  pub logs : List NamedLog
  pub in_folder : folder.logs ≡ Some logs
  pub is : IsHistoryOf folder p protocol at there printed known

-- so of the log of this path, in a folder that is known
pub record IsHistoryOfPath (folder : Folder) (path : List ℕ) (p : PlannedShop) (protocol : Protocol) (at : Option ℕ) (printed : Option (List ℕ)) (known : List ℕ × List ℕ) : Type 0 where
  pub logs : List NamedLog
  pub there : folder.logs ≡ Some logs
  pub is : IsHistoryOf folder p protocol at (held logs path) printed known

-- by each plan that the files give
abbrev pub IsHistoryOfLog : {W : Type 0} → (W → List ℕ → Result (List ℕ) CommandFault → W → Type 0) → Folder → InputPaths → List ℕ → Protocol → Option ℕ
    → W → Option (List ℕ) → List ℕ × List ℕ → Type 0
IsHistoryOfLog {W} gives folder inputs path protocol at texts printed known = (p : PlannedShop) (mid : W) → Shapes gives inputs texts (Ok (Ok p)) mid → IsHistoryOfPath folder path p protocol at printed known
