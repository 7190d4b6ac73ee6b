-- What is ready before a cell is driven with a log, and what comes of it.
use Rattle.std.specs.Prelude.{◌≡◌, ℕ, List, [], Option, Some, Bool, false, IfSome, Result, IfOk, IfErr}
use Rattle.event_lines.specs.RunDigits.{plan_line}
use Rattle.cell_drive.specs.InProtocol.{IsDriveIn}
use Rattle.cell_drive.specs.Replay.{replay_text}
use Rattle.run_journal.specs.declared.file_fault.FileFault.{FileFault}
use Rattle.command_run.specs.declared.readiness.Ready.{Ready}
use Rattle.command_run.specs.declared.readiness.Ready.TheVariants.{Begin, Continue}
use Rattle.command_run.specs.declared.readiness.Undriven.{Undriven}
use Rattle.command_run.specs.Streams.{Streams}
use Rattle.command_run.specs.Drives.{end_of_drive}
use Rattle.command_run.specs.Logs.{DrivesWithLog, GoesOnWithLog, IsReady, IsRecoveredFromLog, IsWrittenBehind, Step, StepsWith, digits_in}

-- its log
abbrev pub log_of : {D : Type 0} → Ready D → D
log_of (Begin begun room log) = log
log_of (Continue recovered protocol log) = log

-- what is driven then: from the start with a log of its own, or on from what was recovered
abbrev pub DrivesReady : {D : Type 0} → Ready D → Step → Type 0
DrivesReady (Begin begun room log) = DrivesWithLog begun.verified.planned [] (IsDriveIn begun.protocol begun.verified) end_of_drive
DrivesReady (Continue recovered protocol log) = GoesOnWithLog protocol recovered.recovered

-- these bytes are in its log, and those stand in the output once its events are replayed
abbrev pub HoldsBefore : {D : Type 0} → (D → Option (List ℕ)) → Ready D → Option (List ℕ) → List ℕ × List ℕ → Type 0
HoldsBefore seen (Begin begun room log) output known = (seen log ≡ Some known.0) × (known.0 ≡ plan_line (digits_in begun.verified.planned)) × (output ≡ Some known.1)
HoldsBefore seen (Continue recovered protocol log) output known =
    (seen log ≡ Some known.0) × IsRecoveredFromLog recovered.recovered known.0 × IsWrittenBehind output (replay_text protocol recovered.recovered) known.1

module _ {D : Type 0} (seen : D → Option (List ℕ)) (crash_states : D → List ℕ → Type 0) (fault : D → Option FileFault) (written : D → Bool)
    (Had : Option (List ℕ) → List ℕ × List ℕ → Type 0) (Makes : Step → Type 0) where
  -- a run is ready: its log is on the disk, holds what is known of it, and whatever is driven then is such a step
  pub record IsReadyRun (ready : Ready D) : Type 0 where
    pub log : IsReady (seen (log_of ready)) (crash_states (log_of ready)) (fault (log_of ready))
    pub holds : (output : Option (List ℕ)) (known : List ℕ × List ℕ) → Had output known → HoldsBefore seen ready output known
    pub makes : (step : Step) → DrivesReady ready step → Makes step

  -- no run is: with no byte read or written, which is such a step too
  abbrev pub IsUndriven : Undriven D → Type 0
  IsUndriven left = (known : Option (List ℕ × List ℕ)) (before : Streams) → IfSome known (Had before.output.written)
      → StepsWith seen crash_states fault written known before left.outcome before false left.log Makes

  pub record IsReadied (result : Result (Ready D) (Undriven D)) : Type 0 where
    pub ready : IfOk result IsReadyRun
    pub undriven : IfErr result IsUndriven
