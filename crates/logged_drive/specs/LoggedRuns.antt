-- A run whose events are in a log before they are shown.
use Rattle.std.specs.Prelude.{◌≡◌, ℕ, List, [], ◌++◌, Option, Some, Bool, false, Result}
use Rattle.std.specs.Io.KnownBytes.{append_known}
use Rattle.byte_streams.specs.{declared.drive_fault.DriveFault.DriveFault, Lent.Input, Lent.Output, Lent.Streams}
use Rattle.run_journal.specs.{WholeLines.whole_lines, LoggedLines.logged, Laws.AreLinesOf}
use Rattle.run_journal.specs.Logged.{Held, HoldsNothing, StayInStep}

-- a writer that keeps a log, as a run sees it: it has accepted what the output has accepted, and what it gathers
abbrev pub output_held : Held → Output
output_held held = record { written = append_known held.written held.pending; failed = held.failed; pending = held.pending }

-- such a writer before anything has come, over an output that has accepted this
abbrev pub nothing_held : Option (List ℕ) → Held
nothing_held printed = record { written = printed; pending = []; failed = false; log_failed = false }

-- a run was driven by a writer that keeps a log, which held this at the end. The output has accepted what that writer held as accepted, and holds nothing back unless it has failed
pub record ShowsRun {T : Type 0} (drives : Streams → Streams → Result T DriveFault → Type 0) (input : Input) (printed : Option (List ℕ)) (outcome : Result T DriveFault) (log_failed : Bool)
    (input_after : Input) (output_after : Output) (held : Held) : Type 0 where
  pub drove : drives (record { input = input; output = output_held (nothing_held printed) }) (record { input = input_after; output = output_held held }) outcome
  pub log : log_failed ≡ held.log_failed
  pub output : output_after.written ≡ held.written
  pub shown : HoldsNothing output_after.pending output_after.failed

-- so it was, and what the log held stays in step with the output
pub record RunsLogged {T : Type 0} (drives : Streams → Streams → Result T DriveFault → Type 0) (before : Option (List ℕ × List ℕ)) (input : Input) (printed : Option (List ℕ))
    (outcome : Result T DriveFault) (log_failed : Bool) (input_after : Input) (seen : Option (List ℕ)) (crash_states : List ℕ → Type 0) (output_after : Output) : Type 0 where
  pub held : Held
  pub shows : ShowsRun drives input printed outcome log_failed input_after output_after held
  pub in_step : StayInStep before seen crash_states held

-- behind the start the output has accepted what was shown. The whole lines of each log that a crash leaves are those of the base, and behind them the first that a log gets of the answers, with all that were shown
pub record KeepsShown (base start : List ℕ) (crash_states : List ℕ → Type 0) (printed : Option (List ℕ)) : Type 0 where
  pub shown : List ℕ
  pub output : printed ≡ Some (start ++ shown)
  pub pending : List ℕ
  pub crash : (left : List ℕ) → crash_states left → (lines : List ℕ) × (whole_lines left ≡ base ++ lines) × AreLinesOf (shown ++ pending) shown lines

-- behind the start the output has accepted all that was answered, and behind the base the log has what it gets of that, on the disk
pub record IsAllInLog (base start : List ℕ) (seen : Option (List ℕ)) (crash_states : List ℕ → Type 0) (printed : Option (List ℕ)) : Type 0 where
  pub shown : List ℕ
  pub output : printed ≡ Some (start ++ shown)
  pub log : seen ≡ Some (base ++ logged shown)
  pub on_disk : (left : List ℕ) → crash_states left → left ≡ base ++ logged shown
