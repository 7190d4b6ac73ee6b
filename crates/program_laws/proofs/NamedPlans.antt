-- A log is driven by no plan with other digits than its last line of a plan has, and by none where it has no line and should have begun.
use Rattle.std.proofs.Common.{◌≡◌, ℕ, List, [], ◌∷◌, Bool, Option, None, Some, IfSome, Result, Ok, Err, IfOk, is_some, option_map, MatchOption, true, false, inl, inr, sym, ap, ◌∙◌, subst, refl}
use Rattle.shop_base.specs.declared.shape_fault.ShapeFault.{ShapeFault}
use Rattle.shop_base.specs.Plan.{PlannedShop}
use Rattle.text_lines.specs.Lines.{lines_of}
use Rattle.cell_tables.specs.declared.entry.Entry.{Entry}
use Rattle.cell_drive.specs.declared.protocol.Protocol.{Protocol}
use Rattle.cell_drive.specs.Recovered.{Recovered, plan_of}
use Rattle.byte_streams.specs.declared.drive_fault.DriveFault.{DriveFault}
use Rattle.event_lines.specs.declared.run_digits.RunDigits.{RunDigits}
use Rattle.run_journal.specs.declared.file_fault.FileFault.{FileFault}
use Rattle.run_journal.specs.declared.log_run.LogRun.{LogRun}
use Rattle.run_journal.specs.declared.log_run.LogRun.TheVariants.{Unbegun, Unnamed, Named}
use Rattle.run_journal.specs.Folders.{Folder, NamedLog, held, handed_if}
use Rattle.run_journal.specs.Logged.{Held}
use Rattle.event_lines.specs.LastPlan.{IsLastPlan}
use Rattle.run_journal.specs.LogRuns.{HasBegun, IsLogRunOf}
use Rattle.run_journal.specs.WholeLines.{whole_lines}
use Rattle.run_journal.proofs.LogRuns.{last_run}
use Rattle.logged_drive.specs.declared.recovered_log.RecoverFault.{RecoverFault}
use Rattle.command_words.specs.declared.words.Chosen.{Chosen}
use Rattle.command_words.specs.declared.words.log_start.LogStart.{LogStart}
use Rattle.command_words.specs.declared.words.log_start.LogStart.TheVariants.{Any, New, Continue, HandOver}
use Rattle.command_words.specs.declared.words.WordsFault.{WordsFault}
use Rattle.command_words.specs.declared.words.WordsFault.TheVariants.{Usage, Memory as NoWordsMemory}
use Rattle.command_words.specs.Choice.{IsChoiceOf, kept_in, start_chosen, rows_found, found_in}
use Rattle.command_answers.specs.declared.answer.Answer.{Answer}
use Rattle.command_answers.specs.declared.command_fault.CommandFault.{CommandFault}
use Rattle.command_run.specs.Streams.{Devices, Streams, Output}
use Rattle.command_run.specs.Misfits.{IsMisfit}
use Rattle.command_run.specs.declared.misfits.Misfit.{Misfit}
use Rattle.command_run.specs.declared.misfits.Misfit.TheVariants.{NotNew, NotBegun, OtherPlan}
use Rattle.command_run.specs.Logs.{Driven, Found, DrivesAs, DrivesFitting, DrivesFound, DrivesOpened, DrivesShaped, GoesOnAfter, ContinuesRecovered, LogEnd, Step, RecoversLog, digits_in}
use Rattle.command_run.specs.Program.{Follows, RunsBy, RunsChosen, RunsProgram, kept_log_in}
use Rattle.program_laws.specs.PlanLaw.{NoPlanWithOtherDigitsDrives}
use Rattle.program_laws.proofs.KnownHistories.{asked_path}

-- a cell was driven with a log by this plan
abbrev DrivenBy : PlannedShop → Option LogEnd → Type 0
DrivenBy p log = (events : List Entry) × (run : Held) × (log ≡ Some (Driven p events run))

module _ (p : PlannedShop) where
  -- not where the log came to something else
  never : (log other : Option LogEnd) → log ≡ other → (DrivenBy p other → ⊥) → DrivenBy p log → ⊥
  never log other is not driven = not (subst (DrivenBy p) is driven)

  undriven : (there : Option (List ℕ)) → DrivenBy p (option_map Found there) → ⊥
  undriven None driven = absurd (cc driven.2)
  undriven (Some bytes) driven = absurd (cc driven.2)

  -- the plan by which it goes on is the one by which it was recovered
  recovered_plan : (protocol : Protocol) (q : PlannedShop) (t : Recovered) (mid : Output) (replay : Result Recovered DriveFault) (step : Step) → plan_of t ≡ q → GoesOnAfter protocol t mid replay step → DrivenBy p step.log → p ≡ q
  recovered_plan protocol q t mid (Ok done) step planned run driven = (let same : p ≡ plan_of t = cc (sym driven.2 ∙ run.log) in same ∙ planned)
  recovered_plan protocol q t mid (Err fault) step planned is driven = absurd (cc (sym driven.2 ∙ is.2))

  log_plan : (protocol : Protocol) (at : Option ℕ) (q : PlannedShop) (text : List ℕ) (recovered : Result Recovered RecoverFault) (step : Step) → RecoversLog q at text recovered → ContinuesRecovered q protocol text recovered step → DrivenBy p step.log → p ≡ q
  log_plan protocol at q text (Ok t) step takes on driven = recovered_plan protocol q t on.mid on.replay step takes.is.recovered_from.planned on.goes_on driven
  log_plan protocol at q text (Err fault) step takes is driven = absurd (cc (sym driven.2 ∙ is.1.is))

-- ---- what the words ask of a log that names a plan

-- where the lines name it, no other is asked for, and it isn't handed over, nothing is amiss only by that plan
fits : (start : LogStart) (run : LogRun) (digits own : RunDigits) → run ≡ Named digits → (start ≡ HandOver → ⊥) → ((misfit : Misfit) → IsMisfit start run own misfit → ⊥) → (own ≡ digits → ⊥) → ⊥
fits New run digits own is start none other = none NotNew (refl, λ same. absurd (cc (sym is ∙ same)))
fits Any run digits own is start none other = none (OtherPlan digits) (inl refl, is, λ same. other (sym same))
fits Continue run digits own is start none other = none (OtherPlan digits) (inr refl, is, λ same. other (sym same))
fits HandOver run digits own is start none other = start refl

-- ---- a log that no plan, or only another, goes on with

module _ (p : PlannedShop) (bytes : List ℕ) (Asks : LogStart → Type 0)
    (unfit : (folder after : Folder) (path : List ℕ) (start : LogStart) (protocol : Protocol) (at : Option ℕ) (q : PlannedShop) (run : LogRun) (step : Step) → Asks start → IsLogRunOf (lines_of (whole_lines bytes)) run
    → ((m : Misfit) → IsMisfit start run (digits_in q) m → ⊥) → DrivesFitting folder after path protocol at q (Some bytes) step → DrivenBy p step.log → ⊥) where
  as_asked : (folder after : Folder) (path : List ℕ) (start : LogStart) (protocol : Protocol) (at : Option ℕ) (q : PlannedShop) (run : LogRun) (misfit : Option Misfit) (step : Step) → IsLogRunOf (lines_of (whole_lines bytes)) run
      → Asks start → MatchOption misfit ((m : Misfit) → IsMisfit start run (digits_in q) m → ⊥) (IsMisfit start run (digits_in q)) → DrivesAs folder after path misfit protocol at q (Some bytes) step → DrivenBy p step.log → ⊥
  as_asked folder after path start protocol at q run (Some m) step parses asked is drives driven = never p step.log (Some (Found bytes)) drives.1.is (undriven p (Some bytes)) driven
  as_asked folder after path start protocol at q run None step parses asked none drives driven = unfit folder after path start protocol at q run step asked parses none drives driven

  found : (folder after : Folder) (path : List ℕ) (start : LogStart) (protocol : Protocol) (at : Option ℕ) (q : PlannedShop) (there : Option (List ℕ)) (step : Step) → there ≡ Some bytes → Asks start
      → DrivesFound folder after path start protocol at q there step → DrivenBy p step.log → ⊥
  found folder after path start protocol at q there step is asked drives =
      let here = subst (λ (o : Option (List ℕ)). DrivesFound folder after path start protocol at q o step) is drives in
      as_asked folder after path start protocol at q here.run here.misfit step here.parses asked here.is_misfit here.drives

  opened : (folder after : Folder) (path : List ℕ) (start : LogStart) (protocol : Protocol) (at : Option ℕ) (q : PlannedShop) (opened : Result (Option (List ℕ)) FileFault) (step : Step) → Asks start
      → ((there : Option (List ℕ)) → opened ≡ Ok there → there ≡ Some bytes) → DrivesOpened folder after path start protocol at q opened step → DrivenBy p step.log → ⊥
  opened folder after path start protocol at q (Ok there) step asked here drives = found (handed_if (is_some there) folder) after path start protocol at q there step (here there refl) asked drives
  opened folder after path start protocol at q (Err fault) step asked here (_, _, inl is) = never p step.log None is.2 (undriven p None)
  opened folder after path start protocol at q (Err fault) step asked here (_, _, inr is) = never p step.log _ is.2 (λ driven. absurd (cc driven.2))

  shaped : (folder after : Folder) (logs : List NamedLog) (path : List ℕ) (start : LogStart) (protocol : Protocol) (at : Option ℕ) (shape : Result (Result PlannedShop ShapeFault) CommandFault) (step : Step) → folder.logs ≡ Some logs
      → held logs path ≡ Some bytes → Asks start → DrivesShaped folder after path start protocol at shape step → DrivenBy p step.log → ⊥
  shaped folder after logs path start protocol at (Err fault) step there has asked is = never p step.log None is.1.is (undriven p None)
  shaped folder after logs path start protocol at (Ok (Err fault)) step there has asked is = never p step.log None is.1.is (undriven p None)
  shaped folder after logs path start protocol at (Ok (Ok q)) step there has asked (inr no_memory) = never p step.log None no_memory.1.is (undriven p None)
  shaped folder after logs path start protocol at (Ok (Ok q)) step there has asked (inl is) = opened folder after path start protocol at q is.opened step asked here is.drives
    where
      here : (found : Option (List ℕ)) → is.opened ≡ Ok found → found ≡ Some bytes
      here found opened_is =
          let known = subst (λ (o : Result (Option (List ℕ)) FileFault). IfOk o (λ f. IfSome folder.logs (λ ls. f ≡ held ls path))) opened_is is.found in
          let same : found ≡ held logs path = subst (λ (o : Option (List NamedLog)). IfSome o (λ ls. found ≡ held ls path)) there known in
          same ∙ has

  -- where the program is asked so, it drives no cell by this plan with the log
  module _ {W : Type 0} (gives : W → List ℕ → Result (List ℕ) CommandFault → W → Type 0) (words : List (List ℕ)) (before after : Devices W) (status : ℕ) (logs : List NamedLog) (path : List ℕ) (events : List Entry) (run : Held)
      (there : before.folder.logs ≡ Some logs) (kept : kept_in (rows_found (found_in words)) ≡ Some path) (has : held logs path ≡ Some bytes) (asked : Asks (start_chosen (rows_found (found_in words)))) where
    by_log : (chosen : Chosen) (log : Option (List ℕ)) (outcome : Result Answer CommandFault) (mid : Streams) → IsChoiceOf words (found_in words) chosen → kept_log_in chosen ≡ log
        → RunsChosen gives log chosen before outcome mid after (Some (Driven p events run)) → ⊥
    by_log chosen None outcome mid choice keeps runs = absurd (cc runs.1.1)
    by_log chosen (Some at_path) outcome mid choice keeps runs =
        let here : at_path ≡ path = (let both : Some at_path ≡ Some path = sym (asked_path words chosen at_path choice keeps) ∙ kept in cc both) in
        shaped before.folder after.folder logs at_path chosen.start _ chosen.at runs.shaped _ there (ap (held logs) here ∙ has) (subst Asks (sym choice.start) asked) runs.drives (events, run, refl)

    by_output : (chosen : Chosen) (shown : Bool) (outcome : Result Answer CommandFault) (mid : Streams) → IsChoiceOf words (found_in words) chosen
        → RunsBy gives shown chosen before outcome mid after (Some (Driven p events run)) → ⊥
    by_output chosen true outcome mid choice refused = absurd (cc refused.3.1)
    by_output chosen false outcome mid choice runs = by_log chosen (kept_log_in chosen) outcome mid choice refl runs

    follows : (read : Result Chosen WordsFault) → IfOk read (IsChoiceOf words (found_in words)) → Follows gives read before status after (Some (Driven p events run)) → ⊥
    follows (Ok chosen) choice is = by_output chosen is.runs.shown is.outcome is.mid choice is.runs.by
    follows (Err (Usage true text)) choice is = absurd (cc is.logs.1)
    follows (Err (Usage false text)) choice is = absurd (cc is.4.1)
    follows (Err NoWordsMemory) choice is = absurd (cc is.3.1)

    never_drives : RunsProgram gives words before status after (Some (Driven p events run)) → ⊥
    never_drives runs = follows runs.read runs.is.chosen runs.follows

-- ---- a log that names a plan, and one that has no line

-- the words don't ask for a hand-over
abbrev AsksNoHandOver : LogStart → Type 0
AsksNoHandOver start = start ≡ HandOver → ⊥

module _ (p : PlannedShop) (digits : RunDigits) (bytes : List ℕ) (named : IsLastPlan (lines_of (whole_lines bytes)) digits) (other : digits_in p ≡ digits → ⊥) where
  fitting : (folder after : Folder) (path : List ℕ) (protocol : Protocol) (at : Option ℕ) (q : PlannedShop) (step : Step) → DrivesFitting folder after path protocol at q (Some bytes) step → DrivenBy p step.log → p ≡ q
  fitting folder after path protocol at q step is driven = some bytes named is
    where
      some : (xs : List ℕ) → IsLastPlan (lines_of (whole_lines xs)) digits → DrivesFitting folder after path protocol at q (Some xs) step → p ≡ q
      some [] none is = absurd none
      some (x ∷ xs) names is = log_plan p protocol at q (x ∷ xs) is.0.recovered step is.0.takes is.0.goes_on driven

  unfit_named : (folder after : Folder) (path : List ℕ) (start : LogStart) (protocol : Protocol) (at : Option ℕ) (q : PlannedShop) (run : LogRun) (step : Step) → AsksNoHandOver start → IsLogRunOf (lines_of (whole_lines bytes)) run
      → ((m : Misfit) → IsMisfit start run (digits_in q) m → ⊥) → DrivesFitting folder after path protocol at q (Some bytes) step → DrivenBy p step.log → ⊥
  unfit_named folder after path start protocol at q run step asked parses none drives driven =
      let same = fitting folder after path protocol at q step drives driven in
      fits start run digits (digits_in q) (last_run (lines_of (whole_lines bytes)) run digits parses named) asked none (λ is. other (ap digits_in same ∙ is))

pub no_plan_with_other_digits : {W : Type 0} (gives : W → List ℕ → Result (List ℕ) CommandFault → W → Type 0) → NoPlanWithOtherDigitsDrives gives
no_plan_with_other_digits gives words before after status logs path bytes digits p events run there kept has named asked other =
    never_drives p bytes AsksNoHandOver (unfit_named p digits bytes named other) gives words before after status logs path events run there kept has asked

-- lines that aren't there record no run
unbegun : (lines : List (List ℕ)) (run : LogRun) → lines ≡ [] → IsLogRunOf lines run → run ≡ Unbegun
unbegun lines Unbegun none is = refl
unbegun lines Unnamed none is = absurd (subst HasBegun none is.0)
unbegun lines (Named digits) none is = absurd (subst (λ (ls : List (List ℕ)). IsLastPlan ls digits) none is)

pub no_plan_without_lines : {W : Type 0} (gives : W → List ℕ → Result (List ℕ) CommandFault → W → Type 0) (words : List (List ℕ)) (before after : Devices W) (status : ℕ) (logs : List NamedLog) (path bytes : List ℕ) (p : PlannedShop) (events : List Entry) (run : Held)
    → before.folder.logs ≡ Some logs → kept_in (rows_found (found_in words)) ≡ Some path → held logs path ≡ Some bytes → lines_of (whole_lines bytes) ≡ []
    → start_chosen (rows_found (found_in words)) ≡ Continue → RunsProgram gives words before status after (Some (Driven p events run)) → ⊥
no_plan_without_lines gives words before after status logs path bytes p events run there kept has empty asked =
    never_drives p bytes (λ start. start ≡ Continue) (λ folder after path start protocol at q run step is parses none drives driven. none NotBegun (inl is, unbegun (lines_of (whole_lines bytes)) run empty parses))
    gives words before after status logs path events run there kept has asked
