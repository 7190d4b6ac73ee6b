-- How a driven cell with a log of its own ends.
use Rattle.std.proofs.Common.{◌≡◌, ℕ, suc, List, [], ◌∷◌, Bool, true, false, Option, None, Some, Result, Ok, Err, IfOk, is_some, option_map, inl, inr, ◌⊎◌, arith, ap, sym, subst}
use Rattle.shop_base.specs.declared.shape_fault.ShapeFault.{ShapeFault}
use Rattle.shop_base.specs.Plan.{PlannedShop}
use Rattle.plan_verifier.specs.declared.verdict.Verdict.{Verdict}
use Rattle.plan_verifier.specs.declared.verdict.Verdict.TheVariants.{Accepted, Refused}
use Rattle.byte_streams.specs.declared.drive_fault.DriveFault.{DriveFault}
use Rattle.byte_streams.specs.declared.drive_fault.DriveFault.TheVariants.{Read as NotRead, Write as NotWritten, InputTooLong as TooLong, Memory as OutOfMemory}
use Rattle.run_log.specs.declared.audit_fault.AuditFault.TheVariants.{BadLine}
use Rattle.cell_drive.specs.declared.protocol.Protocol.{Protocol}
use Rattle.cell_drive.specs.Recovered.{Recovered}
use Rattle.run_journal.specs.declared.file_fault.FileFault.{FileFault}
use Rattle.run_journal.specs.Folders.{Folder, handed_if}
use Rattle.logged_drive.specs.declared.recovered_log.RecoverFault.{RecoverFault}
use Rattle.logged_drive.specs.declared.recovered_log.RecoverFault.TheVariants.{Resume, NoTornEnd, File}
use Rattle.command_answers.specs.declared.answer.Answer.{Answer}
use Rattle.command_answers.specs.declared.command_fault.CommandFault.{CommandFault}
use Rattle.command_answers.specs.declared.loading.Loaded.TheVariants.{NotShaped, Judged}
use Rattle.command_answers.specs.Checks.{IsLineOf}
use Rattle.command_answers.specs.Commands.{InputPaths, Shapes}
use Rattle.command_run.specs.Streams.{Streams, Output}
use Rattle.command_run.specs.Drives.{end_of_drive}
use Rattle.command_run.specs.Resumes.{end_of_rest}
use Rattle.command_words.specs.declared.words.log_start.LogStart.{LogStart}
use Rattle.command_run.specs.declared.misfits.Misfit.{Misfit}
use Rattle.command_run.specs.Misfits.{IsMisfitLine}
use Rattle.command_run.specs.Logs.{Begins, BeginsBy, DrivesAs, DrivesFitting, DrivesNothing, DrivesOpened, DrivesShaped, GoesOnAfter, ContinuesRecovered, IsLoggedAnswer, IsLogFaultPrinted, IsVerdict, LogEnd, Driven, NotRecovered, Left, Found, Unread, Unlined, Step, RecoversLog, ReplaysEvents, left_if, step_of}
use Rattle.command_run.specs.Laws.{DroveWithLog, OutputHoldsNothing}
use Rattle.command_run.proofs.LowStatuses.{IsLow, low_end, low_line_of, low_log_fault, low_or, low_unrecovered}

-- ---- the answer is a good one, or one that refuses

low_logged_end : (log_failed : Bool) (done : Result Bool DriveFault) (outcome : Result Answer CommandFault) → IsLoggedAnswer log_failed done outcome → IsLow outcome
low_logged_end log_failed (Ok done) outcome is = low_end (Ok done) outcome is
low_logged_end log_failed (Err fault) outcome is = subst IsLow (sym is) tt

low_log_unrecovered : (fault : RecoverFault) (outcome : Result Answer CommandFault) → IsLogFaultPrinted fault outcome → IsLow outcome
low_log_unrecovered (Resume fault) outcome is = low_unrecovered fault outcome is
low_log_unrecovered (NoTornEnd lines) outcome is = low_log_fault (BadLine (suc lines)) outcome is
low_log_unrecovered (File fault) outcome is = subst IsLow (sym is) tt

module _ (folder folder_after : Folder) (path : List ℕ) (protocol : Protocol) (at : Option ℕ) where
  low_begun : (there : Bool) (verdict : Verdict) (step : Step) → BeginsBy folder folder_after path protocol there verdict step → IsLow step.outcome
  low_begun there (Refused back why) step is = low_or (IsLineOf (Judged (Refused back why))) step.outcome (low_line_of (Judged (Refused back why))) is.0
  low_begun there (Accepted v) step (inl no_memory) = subst IsLow (sym no_memory.0) tt
  low_begun there (Accepted v) step (inr (inl lacks)) = subst IsLow (sym lacks.is) tt
  low_begun there (Accepted v) step (inr (inr run)) = low_logged_end run.drove.log_failed (end_of_drive run.drove.end) step.outcome run.drove.answer

  low_begins : (p : PlannedShop) (there : Bool) (step : Step) → Begins folder folder_after path protocol p there step → IsLow step.outcome
  low_begins p there step (inl (verdict, is, by)) = low_begun there verdict step by
  low_begins p there step (inr no_memory) = subst IsLow (sym no_memory.0) tt

  low_after : (t : Recovered) (mid : Output) (replay : Result Recovered DriveFault) (step : Step) → GoesOnAfter protocol t mid replay step → IsLow step.outcome
  low_after t mid (Ok done) step run = low_logged_end run.log_failed (end_of_rest run.end) step.outcome run.answer
  low_after t mid (Err fault) step is = subst IsLow (sym is.0) tt

  low_recovered_run : (p : PlannedShop) (text : List ℕ) (recovered : Result Recovered RecoverFault) (step : Step) → ContinuesRecovered p protocol text recovered step → IsLow step.outcome
  low_recovered_run p text (Ok t) step on = low_after t on.mid on.replay step on.goes_on
  low_recovered_run p text (Err fault) step is = low_log_unrecovered fault step.outcome is.0

  low_fitting : (p : PlannedShop) (there : Option (List ℕ)) (step : Step) → DrivesFitting folder folder_after path protocol at p there step → IsLow step.outcome
  low_fitting p None step is = low_begins p false step is
  low_fitting p (Some []) step is = low_begins p true step is
  low_fitting p (Some (byte ∷ bytes)) step is = low_recovered_run p (byte ∷ bytes) is.0.recovered step is.0.goes_on

  low_as : (misfit : Option Misfit) (p : PlannedShop) (there : Option (List ℕ)) (step : Step) → DrivesAs folder folder_after path misfit protocol at p there step → IsLow step.outcome
  low_as (Some misfit) p there step is = low_or (IsMisfitLine misfit) step.outcome (λ answer line. omega (arith, line.1)) is.0
  low_as None p there step is = low_fitting p there step is

module _ (folder folder_after : Folder) (path : List ℕ) (start : LogStart) (protocol : Protocol) (at : Option ℕ) where
  low_opened : (p : PlannedShop) (opened : Result (Option (List ℕ)) FileFault) (step : Step) → DrivesOpened folder folder_after path start protocol at p opened step → IsLow step.outcome
  low_opened p (Err fault) step is = subst IsLow (sym is.0) tt
  low_opened p (Ok there) step is = low_as (handed_if (is_some there) folder) folder_after path protocol at is.misfit p there step is.drives

  pub low_logged : (shaped : Result (Result PlannedShop ShapeFault) CommandFault) (step : Step) → DrivesShaped folder folder_after path start protocol at shaped step → IsLow step.outcome
  low_logged (Err fault) step is = subst IsLow (sym is.0) tt
  low_logged (Ok (Err fault)) step is = low_or (IsLineOf (NotShaped fault)) step.outcome (low_line_of (NotShaped fault)) is.0
  low_logged (Ok (Ok p)) step (inl is) = low_opened p is.opened step is.drives
  low_logged (Ok (Ok p)) step (inr no_memory) = subst IsLow (sym no_memory.0) tt

-- ---- what is written

module _ {W : Type 0} (gives : W → List ℕ → Result (List ℕ) CommandFault → W → Type 0) (inputs : InputPaths) (protocol : Protocol) (texts later : W) (before after : Streams)
    (outcome : Result Answer CommandFault) (end : Option LogEnd) where
  -- nothing, or what the cell answered
  abbrev Written : Type 0
  Written = (after.output ≡ before.output) ⊎ DroveWithLog gives protocol inputs texts before after

  unwritten : after ≡ before → Written
  unwritten same = inl (ap (λ (s : Streams). s.output) same)

  module _ (p : PlannedShop) (shapes : Shapes gives inputs texts (Ok (Ok p)) later) where
    begun : (folder folder_after : Folder) (path : List ℕ) (there : Bool) (verdict : Verdict) → IsVerdict p verdict
        → BeginsBy folder folder_after path protocol there verdict (step_of before outcome after end) → Written
    begun folder folder_after path there (Refused back why) is by = unwritten by.1.same
    begun folder folder_after path there (Accepted v) is (inl no_memory) = unwritten no_memory.1.same
    begun folder folder_after path there (Accepted v) is (inr (inl lacks)) = unwritten lacks.same
    begun folder folder_after path there (Accepted v) is (inr (inr run)) =
        inr (record { plan = p; later = later; shapes = shapes; outcome = outcome; log = end; is = inl (v, is.accepted.0, run.drove) })

    begins : (folder folder_after : Folder) (path : List ℕ) (there : Bool) → Begins folder folder_after path protocol p there (step_of before outcome after end) → Written
    begins folder folder_after path there (inl (verdict, is, by)) = begun folder folder_after path there verdict is by
    begins folder folder_after path there (inr no_memory) = unwritten no_memory.1.same

    recoverable : (at : Option ℕ) (text : List ℕ) (recovered : Result Recovered RecoverFault) → RecoversLog p at text recovered → ContinuesRecovered p protocol text recovered (step_of before outcome after end) → Written
    recoverable at text (Ok t) takes on =
        inr (record { plan = p; later = later; shapes = shapes; outcome = outcome; log = end; is = inr (t, takes.is.recovered_from.planned, on) })
    recoverable at text (Err fault) takes is = unwritten is.1.same

    fitting : (folder folder_after : Folder) (path : List ℕ) (at : Option ℕ) (there : Option (List ℕ)) → DrivesFitting folder folder_after path protocol at p there (step_of before outcome after end) → Written
    fitting folder folder_after path at None is = begins folder folder_after path false is
    fitting folder folder_after path at (Some []) is = begins folder folder_after path true is
    fitting folder folder_after path at (Some (byte ∷ bytes)) is = recoverable at (byte ∷ bytes) is.0.recovered is.0.takes is.0.goes_on

    as_asked : (folder folder_after : Folder) (path : List ℕ) (at : Option ℕ) (misfit : Option Misfit) (there : Option (List ℕ)) → DrivesAs folder folder_after path misfit protocol at p there (step_of before outcome after end) → Written
    as_asked folder folder_after path at (Some misfit) there is = unwritten is.1.same
    as_asked folder folder_after path at None there is = fitting folder folder_after path at there is

    opened_written : (folder folder_after : Folder) (path : List ℕ) (start : LogStart) (at : Option ℕ) (opened : Result (Option (List ℕ)) FileFault)
        → DrivesOpened folder folder_after path start protocol at p opened (step_of before outcome after end) → Written
    opened_written folder folder_after path start at (Err fault) is = unwritten is.1
    opened_written folder folder_after path start at (Ok there) is = as_asked (handed_if (is_some there) folder) folder_after path at is.misfit there is.drives

  pub logged_written : (folder folder_after : Folder) (path : List ℕ) (start : LogStart) (at : Option ℕ) (shaped : Result (Result PlannedShop ShapeFault) CommandFault) → Shapes gives inputs texts shaped later
      → DrivesShaped folder folder_after path start protocol at shaped (step_of before outcome after end) → Written
  logged_written folder folder_after path start at (Err fault) shapes is = unwritten is.1.same
  logged_written folder folder_after path start at (Ok (Err fault)) shapes is = unwritten is.1.same
  logged_written folder folder_after path start at (Ok (Ok p)) shapes (inl is) = opened_written p shapes folder folder_after path start at is.opened is.drives
  logged_written folder folder_after path start at (Ok (Ok p)) shapes (inr no_memory) = unwritten no_memory.1.same

-- ---- what is shown

plan_answer_shown : (protocol : Protocol) (t : Recovered) (before mid : Output) (fault : DriveFault) → ReplaysEvents protocol t before mid (Err fault) → OutputHoldsNothing mid
plan_answer_shown protocol t before mid NotWritten parses = inr parses.is.0
plan_answer_shown protocol t before mid OutOfMemory parses = absurd parses.is
plan_answer_shown protocol t before mid NotRead parses = absurd parses.is
plan_answer_shown protocol t before mid TooLong parses = absurd parses.is

gone_on_shown : (protocol : Protocol) (t : Recovered) (mid : Output) (replay : Result Recovered DriveFault) (step : Step) → ReplaysEvents protocol t step.before.output mid replay → GoesOnAfter protocol t mid replay step
    → OutputHoldsNothing step.after.output
gone_on_shown protocol t mid (Ok done) step parses run = run.shows.shown
gone_on_shown protocol t mid (Err fault) step parses is =
    subst (λ (s : Streams). OutputHoldsNothing s.output) (sym is.1) (plan_answer_shown protocol t step.before.output mid fault parses)

pub logged_shown : {W : Type 0} (gives : W → List ℕ → Result (List ℕ) CommandFault → W → Type 0) (protocol : Protocol) (inputs : InputPaths) (texts : W) (before after : Streams)
    (drove : DroveWithLog gives protocol inputs texts before after) → before.output.pending ≡ [] → OutputHoldsNothing after.output
logged_shown gives protocol inputs texts before after drove none = elim drove.is [
  | inl (v, same, run) ↦ run.shows.shown
  | inr (t, same, on) ↦ gone_on_shown protocol t on.mid on.replay (step_of before drove.outcome after drove.log) on.replays on.goes_on
]

-- ---- what is answered where a cell was driven with the log

-- no more than the lines of the cell
abbrev IsSilent : Result Answer CommandFault → Type 0
IsSilent outcome = IfOk outcome (λ answer. answer.text.items ≡ [])

-- a cell was driven with it
abbrev pub IsDriven : Option LogEnd → Type 0
IsDriven None = ⊥
IsDriven (Some (Driven p recorded held)) = Unit {0}
IsDriven (Some (NotRecovered p text fault)) = ⊥
IsDriven (Some Left) = ⊥
IsDriven (Some (Found bytes)) = ⊥
IsDriven (Some (Unread fault)) = ⊥
IsDriven (Some (Unlined p)) = ⊥

never_driven : (end other : Option LogEnd) (outcome : Result Answer CommandFault) → end ≡ other → (IsDriven other → ⊥) → IsDriven end → IsSilent outcome
never_driven end other outcome is other_isnt driven = absurd (other_isnt (subst IsDriven is driven))

silent_fault : (fault : CommandFault) (outcome : Result Answer CommandFault) → outcome ≡ Err fault → IsSilent outcome
silent_fault fault outcome is = subst IsSilent (sym is) tt

silent_end : (log_failed : Bool) (done : Result Bool DriveFault) (outcome : Result Answer CommandFault) → IsLoggedAnswer log_failed done outcome → IsSilent outcome
silent_end log_failed (Ok done) (Ok answer) is = is.0
silent_end log_failed (Ok done) (Err fault) is = tt
silent_end log_failed (Err fault) outcome is = silent_fault _ outcome is

left_undriven : (there : Bool) → IsDriven (left_if there) → ⊥
left_undriven true driven = driven
left_undriven false driven = driven

found_undriven : (there : Option (List ℕ)) → IsDriven (option_map Found there) → ⊥
found_undriven None driven = driven
found_undriven (Some bytes) driven = driven

nothing_driven : (log : Option LogEnd) (step : Step) → (IsDriven log → ⊥) → DrivesNothing log step → IsDriven step.log → IsSilent step.outcome
nothing_driven log step isnt none = never_driven step.log log step.outcome none.is isnt

module _ (folder folder_after : Folder) (path : List ℕ) (protocol : Protocol) (at : Option ℕ) where
  silent_begins : (p : PlannedShop) (there : Bool) (step : Step) → Begins folder folder_after path protocol p there step → IsDriven step.log → IsSilent step.outcome
  silent_begins p there step (inl (Refused back why, is, by)) = nothing_driven (left_if there) step (left_undriven there) by.1
  silent_begins p there step (inl (Accepted v, is, inl no_memory)) = nothing_driven (left_if there) step (left_undriven there) no_memory.1
  silent_begins p there step (inl (Accepted v, is, inr (inl lacks))) = λ driven. silent_fault _ step.outcome lacks.is
  silent_begins p there step (inl (Accepted v, is, inr (inr run))) = λ driven. silent_end run.drove.log_failed (end_of_drive run.drove.end) step.outcome run.drove.answer
  silent_begins p there step (inr no_memory) = nothing_driven (left_if there) step (left_undriven there) no_memory.1

  silent_after : (t : Recovered) (mid : Output) (replay : Result Recovered DriveFault) (step : Step) → GoesOnAfter protocol t mid replay step → IsSilent step.outcome
  silent_after t mid (Ok done) step run = silent_end run.log_failed (end_of_rest run.end) step.outcome run.answer
  silent_after t mid (Err fault) step is = silent_fault _ step.outcome is.0

  silent_recovered : (p : PlannedShop) (text : List ℕ) (recovered : Result Recovered RecoverFault) (step : Step) → ContinuesRecovered p protocol text recovered step → IsDriven step.log → IsSilent step.outcome
  silent_recovered p text (Ok t) step on = λ driven. silent_after t on.mid on.replay step on.goes_on
  silent_recovered p text (Err fault) step is = nothing_driven (Some (NotRecovered p text fault)) step (λ bad. bad) is.1

  silent_fitting : (p : PlannedShop) (there : Option (List ℕ)) (step : Step) → DrivesFitting folder folder_after path protocol at p there step → IsDriven step.log → IsSilent step.outcome
  silent_fitting p None step is = silent_begins p false step is
  silent_fitting p (Some []) step is = silent_begins p true step is
  silent_fitting p (Some (byte ∷ bytes)) step is = silent_recovered p (byte ∷ bytes) is.0.recovered step is.0.goes_on

  silent_as : (misfit : Option Misfit) (p : PlannedShop) (there : Option (List ℕ)) (step : Step) → DrivesAs folder folder_after path misfit protocol at p there step → IsDriven step.log → IsSilent step.outcome
  silent_as (Some misfit) p there step is = nothing_driven (option_map Found there) step (found_undriven there) is.1
  silent_as None p there step is = silent_fitting p there step is

module _ (folder folder_after : Folder) (path : List ℕ) (start : LogStart) (protocol : Protocol) (at : Option ℕ) where
  silent_opened : (p : PlannedShop) (opened : Result (Option (List ℕ)) FileFault) (step : Step) → DrivesOpened folder folder_after path start protocol at p opened step → IsDriven step.log → IsSilent step.outcome
  silent_opened p (Err fault) step is = λ driven. silent_fault _ step.outcome is.0
  silent_opened p (Ok there) step is = silent_as (handed_if (is_some there) folder) folder_after path protocol at is.misfit p there step is.drives

  pub silent_logged : (shaped : Result (Result PlannedShop ShapeFault) CommandFault) (step : Step) → DrivesShaped folder folder_after path start protocol at shaped step → IsDriven step.log → IsSilent step.outcome
  silent_logged (Err fault) step is = nothing_driven None step (λ bad. bad) is.1
  silent_logged (Ok (Err fault)) step is = nothing_driven None step (λ bad. bad) is.1
  silent_logged (Ok (Ok p)) step (inl is) = silent_opened p is.opened step is.drives
  silent_logged (Ok (Ok p)) step (inr no_memory) = nothing_driven None step (λ bad. bad) no_memory.1
