-- No byte of a log is changed where memory runs out.
use Rattle.std.proofs.Common.{◌≡◌, ◌≤◌, ℕ, List, [], ◌∷◌, Bool, true, false, Option, None, Some, option_map, is_some, string_bytes, Result, Ok, Err, inl, inr, arith, ap, sym, ◌∙◌, subst, refl}
use Rattle.std.specs.Prelude.{◌≢◌}
use Rattle.shop_base.specs.declared.shape_fault.ShapeFault.{ShapeFault}
use Rattle.shop_base.specs.Plan.{PlannedShop}
use Rattle.plan_verifier.specs.declared.verdict.Verdict.TheVariants.{Accepted, Refused}
use Rattle.byte_streams.specs.declared.drive_fault.DriveFault.{DriveFault}
use Rattle.byte_streams.specs.declared.drive_fault.DriveFault.TheVariants.{Read as NotRead, Write as NotWritten, InputTooLong as TooLong, Memory as OutOfMemory}
use Rattle.cell_drive.specs.declared.begin.DriveEnd.{DriveEnd}
use Rattle.cell_drive.specs.declared.resume.RestEnd.{RestEnd}
use Rattle.cell_drive.specs.declared.protocol.Protocol.{Protocol}
use Rattle.cell_drive.specs.Recovered.{Recovered}
use Rattle.run_journal.specs.declared.file_fault.FileFault.{FileFault}
use Rattle.run_journal.specs.Folders.{Folder, handed_if}
use Rattle.logged_drive.specs.declared.recovered_log.RecoverFault.{RecoverFault}
use Rattle.logged_drive.specs.declared.recovered_log.RecoverFault.TheVariants.{Resume, NoTornEnd, File}
use Rattle.command_words.specs.declared.words.Chosen.{Chosen}
use Rattle.command_words.specs.declared.words.CommandName.{CommandName}
use Rattle.command_words.specs.declared.words.CommandName.TheVariants.{Drive}
use Rattle.command_words.specs.declared.words.log_start.LogStart.{LogStart}
use Rattle.command_words.specs.declared.words.WordsFault.{WordsFault}
use Rattle.command_words.specs.declared.words.WordsFault.TheVariants.{Usage, Memory as NoWordsMemory}
use Rattle.command_answers.specs.declared.answer.Answer.{Answer}
use Rattle.command_answers.specs.declared.command_fault.CommandFault.{CommandFault}
use Rattle.command_answers.specs.declared.command_fault.CommandFault.TheVariants.{Instance, Plan, Names, Read, Write, InputTooLong, Log, LogInUse, Memory}
use Rattle.command_run.specs.Streams.{Errors, Output, Streams}
use Rattle.command_run.specs.Drives.{IsEnded, end_of_drive}
use Rattle.command_run.specs.Resumes.{end_of_rest}
use Rattle.command_run.specs.Ending.{Ends, EndsBy, IsPrinted, IsFaultPrinted, IsPrintedAfter}
use Rattle.command_run.specs.declared.misfits.Misfit.{Misfit}
use Rattle.command_run.specs.Logs.{Begins, DrivesAs, DrivesFitting, DrivesOpened, DrivesShaped, GoesOnAfter, ContinuesRecovered, IsLoggedAnswer, IsNewLogFault, IsUntouched, LogEnd, Driven, NotRecovered, Left, Found, Unread, Unlined, Step, RecoversLog, ReplaysEvents, left_if, log_command_fault}
use Rattle.command_run.specs.Program.{Follows, RunsBy, RunsChosen, draws, draws_in, kept_log_in}
use Rattle.command_run.proofs.Endings.{IsOwnOr, own_or}
use Rattle.command_run.proofs.Keepers.{keeper}
use Rattle.program_laws.specs.MemoryLaw.{OutOfMemoryChangesNoLog}

-- ---- what never ends with 4

-- a good answer, or a fault other than `Memory`, whose words take none
abbrev HasMemory : Result Answer CommandFault → Type 0
HasMemory (Ok answer) = answer.status ≤ 1
HasMemory (Err (Instance fault)) = ⊥
HasMemory (Err (Plan fault)) = ⊥
HasMemory (Err (Names fault)) = ⊥
HasMemory (Err Read) = Unit {0}
HasMemory (Err Write) = Unit {0}
HasMemory (Err InputTooLong) = Unit {0}
HasMemory (Err Log) = Unit {0}
HasMemory (Err LogInUse) = Unit {0}
HasMemory (Err Memory) = ⊥

parsed_first : (fault : CommandFault) (before after : Errors) → HasMemory (Err fault) → IsFaultPrinted fault before after 4 → ⊥
parsed_first (Instance fault) before after has printed = has
parsed_first (Plan fault) before after has printed = has
parsed_first (Names fault) before after has printed = has
parsed_first Read before after has (inl out) = omega (arith, out.own)
parsed_first Read before after has (inr out) = out.0
parsed_first Write before after has (inl out) = omega (arith, out.own)
parsed_first Write before after has (inr out) = out.0
parsed_first InputTooLong before after has (inl out) = omega (arith, out.own)
parsed_first InputTooLong before after has (inr out) = out.0
parsed_first Log before after has (inl out) = omega (arith, out.own)
parsed_first Log before after has (inr out) = out.0
parsed_first LogInUse before after has (inl out) = omega (arith, out.own)
parsed_first LogInUse before after has (inr out) = out.0
parsed_first Memory before after has printed = has

printed_four : (answer : Answer) (printed : Result ℕ CommandFault) (before after : Output) (printed_before printed_after : Errors) → answer.status ≤ 1 → IsPrinted answer before after printed
    → IsPrintedAfter printed printed_before printed_after 4 → ⊥
printed_four answer (Ok status) before after printed_before printed_after low is reported = omega (arith, low, is.0, reported.1)
printed_four answer (Err fault) before after printed_before printed_after low is reported =
    parsed_first Write printed_before printed_after tt (subst (λ (f : CommandFault). IsFaultPrinted f printed_before printed_after 4) is.0 reported)

ends_four : (outcome : Result Answer CommandFault) (before after : Output) (printed_before printed_after : Errors) → HasMemory outcome → Ends outcome before after printed_before printed_after 4 → ⊥
ends_four (Ok answer) before after printed_before printed_after low ends = printed_four answer ends.printed before after printed_before printed_after low ends.is ends.reported
ends_four (Err fault) before after printed_before printed_after has ends = parsed_first fault printed_before printed_after has ends.1

own_four : (own status : ℕ) → IsOwnOr own status → status ≡ 4 → own ≡ 4
own_four own status (inl same) four = sym same ∙ four
own_four own status (inr six) four = absurd (omega (arith, six.1, four))

-- ---- what became of a log

-- something was appended to it, or it may have been cut
abbrev IsChanged : Option LogEnd → Type 0
IsChanged None = ⊥
IsChanged (Some (Driven p events held)) = Unit {0}
IsChanged (Some (NotRecovered p text (Resume fault))) = ⊥
IsChanged (Some (NotRecovered p text (NoTornEnd lines))) = ⊥
IsChanged (Some (NotRecovered p text (File fault))) = Unit {0}
IsChanged (Some Left) = Unit {0}
IsChanged (Some (Found bytes)) = ⊥
IsChanged (Some (Unread fault)) = ⊥
IsChanged (Some (Unlined p)) = Unit {0}

unchanged : (end : LogEnd) (written : Bool) → IsUntouched written end → (IsChanged (Some end) → ⊥) → written ≡ false
unchanged (Driven p events held) written is never = absurd (never tt)
unchanged (NotRecovered p text (Resume fault)) written is never = is tt
unchanged (NotRecovered p text (NoTornEnd lines)) written is never = is tt
unchanged (NotRecovered p text (File fault)) written is never = absurd (never tt)
unchanged Left written is never = absurd (never tt)
unchanged (Found bytes) written is never = is
unchanged (Unread fault) written is never = is
unchanged (Unlined p) written is never = absurd (never tt)

left_unchanged : (there : Bool) → IsChanged (left_if there) → ⊥
left_unchanged true changed = changed
left_unchanged false changed = changed

found_unchanged : (there : Option (List ℕ)) → IsChanged (option_map Found there) → ⊥
found_unchanged None changed = changed
found_unchanged (Some bytes) changed = changed

-- ---- where one was changed, memory was had

never_changed : (log other : Option LogEnd) (outcome : Result Answer CommandFault) → log ≡ other → (IsChanged other → ⊥) → IsChanged log → HasMemory outcome
never_changed log other outcome is isnt changed = absurd (isnt (subst IsChanged is changed))

has_fault : (fault : CommandFault) (outcome : Result Answer CommandFault) → outcome ≡ Err fault → HasMemory (Err fault) → HasMemory outcome
has_fault fault outcome is has = subst HasMemory (sym is) has

has_ended : (done : Bool) (outcome : Result Answer CommandFault) → IsEnded done outcome → HasMemory outcome
has_ended true (Ok answer) is = omega (arith, is.1)
has_ended false (Ok answer) is = omega (arith, is.1)
has_ended true (Err fault) is = absurd is
has_ended false (Err fault) is = absurd is

has_driven : (log_failed : Bool) (done : Result Bool DriveFault) (outcome : Result Answer CommandFault) → done ≢ Err OutOfMemory → IsLoggedAnswer log_failed done outcome → HasMemory outcome
has_driven log_failed (Ok done) outcome memory is = has_ended done outcome is
has_driven log_failed (Err NotRead) outcome memory is = has_fault Read outcome is tt
has_driven true (Err NotWritten) outcome memory is = has_fault Log outcome is tt
has_driven false (Err NotWritten) outcome memory is = has_fault Write outcome is tt
has_driven log_failed (Err TooLong) outcome memory is = has_fault InputTooLong outcome is tt
has_driven log_failed (Err OutOfMemory) outcome memory is = absurd (memory refl)

end_has : (end : Result DriveEnd DriveFault) → end ≢ Err OutOfMemory → end_of_drive end ≢ Err OutOfMemory
end_has (Ok end) memory is = cc is
end_has (Err fault) memory is = let same : fault ≡ OutOfMemory = cc is in memory (ap Err same)

rest_has : (end : Result RestEnd DriveFault) → end ≢ Err OutOfMemory → end_of_rest end ≢ Err OutOfMemory
rest_has (Ok end) memory is = cc is
rest_has (Err fault) memory is = let same : fault ≡ OutOfMemory = cc is in memory (ap Err same)

after_has : (protocol : Protocol) (t : Recovered) (mid : Output) (replay : Result Recovered DriveFault) (step : Step) → ReplaysEvents protocol t step.before.output mid replay → GoesOnAfter protocol t mid replay step → HasMemory step.outcome
after_has protocol t mid (Ok done) step parses run = has_driven run.log_failed (end_of_rest run.end) step.outcome (rest_has run.end run.memory) run.answer
after_has protocol t mid (Err NotWritten) step parses is = has_fault Write step.outcome is.0 tt
after_has protocol t mid (Err NotRead) step parses is = absurd parses.is
after_has protocol t mid (Err TooLong) step parses is = absurd parses.is
after_has protocol t mid (Err OutOfMemory) step parses is = absurd parses.is

recovered_has : (p : PlannedShop) (protocol : Protocol) (at : Option ℕ) (text : List ℕ) (recovered : Result Recovered RecoverFault) (step : Step) → RecoversLog p at text recovered → ContinuesRecovered p protocol text recovered step
    → IsChanged step.log → HasMemory step.outcome
recovered_has p protocol at text (Ok t) step takes on changed = after_has protocol t on.mid on.replay step on.replays on.goes_on
recovered_has p protocol at text (Err (Resume fault)) step takes is changed = never_changed step.log (Some (NotRecovered p text (Resume fault))) step.outcome is.1.is (λ bad. bad) changed
recovered_has p protocol at text (Err (NoTornEnd lines)) step takes is changed = never_changed step.log (Some (NotRecovered p text (NoTornEnd lines))) step.outcome is.1.is (λ bad. bad) changed
recovered_has p protocol at text (Err (File fault)) step takes is changed =
    has_fault (log_command_fault fault) step.outcome is.0 (subst (λ (f : FileFault). HasMemory (Err (log_command_fault f))) (sym takes.fault) tt)

module _ (folder after : Folder) (path : List ℕ) (protocol : Protocol) (at : Option ℕ) where
  lacks_has : (p : PlannedShop) (there : Bool) (fault : FileFault) (log : Option LogEnd) (outcome : Result Answer CommandFault) → outcome ≡ Err (log_command_fault fault)
      → IsNewLogFault folder after path p there fault log → IsChanged log → HasMemory outcome
  lacks_has p there fault log outcome is (inl none) changed = never_changed log None outcome none.1 (λ bad. bad) changed
  lacks_has p there fault log outcome is (inr (inl found)) changed = never_changed log (Some (Found [])) outcome found.2 (λ bad. bad) changed
  lacks_has p there fault log outcome is (inr (inr unlined)) changed =
      has_fault (log_command_fault fault) outcome is (subst (λ (f : FileFault). HasMemory (Err (log_command_fault f))) (sym unlined.0) tt)

  begins_has : (p : PlannedShop) (there : Bool) (step : Step) → Begins folder after path protocol p there step → IsChanged step.log → HasMemory step.outcome
  begins_has p there step (inl (Refused back why, is, by)) changed = never_changed step.log (left_if there) step.outcome by.1.is (left_unchanged there) changed
  begins_has p there step (inl (Accepted v, is, inl no_memory)) changed = never_changed step.log (left_if there) step.outcome no_memory.1.is (left_unchanged there) changed
  begins_has p there step (inl (Accepted v, is, inr (inl lacks))) changed = lacks_has v.planned there lacks.fault step.log step.outcome lacks.is lacks.why changed
  begins_has p there step (inl (Accepted v, is, inr (inr run))) changed =
      has_driven run.drove.log_failed (end_of_drive run.drove.end) step.outcome (end_has run.drove.end run.drove.memory) run.drove.answer
  begins_has p there step (inr no_memory) changed = never_changed step.log (left_if there) step.outcome no_memory.1.is (left_unchanged there) changed

  fitting_has : (p : PlannedShop) (there : Option (List ℕ)) (step : Step) → DrivesFitting folder after path protocol at p there step → IsChanged step.log → HasMemory step.outcome
  fitting_has p None step is = begins_has p false step is
  fitting_has p (Some []) step is = begins_has p true step is
  fitting_has p (Some (byte ∷ bytes)) step is = recovered_has p protocol at (byte ∷ bytes) is.0.recovered step is.0.takes is.0.goes_on

  as_has : (misfit : Option Misfit) (p : PlannedShop) (there : Option (List ℕ)) (step : Step) → DrivesAs folder after path misfit protocol at p there step → IsChanged step.log → HasMemory step.outcome
  as_has (Some misfit) p there step is = never_changed step.log (option_map Found there) step.outcome is.1.is (found_unchanged there)
  as_has None p there step is = fitting_has p there step is

module _ (folder after : Folder) (path : List ℕ) (start : LogStart) (protocol : Protocol) (at : Option ℕ) where
  opened_has : (p : PlannedShop) (opened : Result (Option (List ℕ)) FileFault) (step : Step) → DrivesOpened folder after path start protocol at p opened step → IsChanged step.log → HasMemory step.outcome
  opened_has p (Err fault) step (answered, same, inl none) = never_changed step.log None step.outcome none.2 (λ bad. bad)
  opened_has p (Err fault) step (answered, same, inr unread) = never_changed step.log (Some (Unread fault)) step.outcome unread.2 (λ bad. bad)
  opened_has p (Ok there) step is = as_has (handed_if (is_some there) folder) after path protocol at is.misfit p there step is.drives

  logged_has : (shaped : Result (Result PlannedShop ShapeFault) CommandFault) (step : Step) → DrivesShaped folder after path start protocol at shaped step → IsChanged step.log → HasMemory step.outcome
  logged_has (Err fault) step is = never_changed step.log None step.outcome is.1.is (λ bad. bad)
  logged_has (Ok (Err fault)) step is = never_changed step.log None step.outcome is.1.is (λ bad. bad)
  logged_has (Ok (Ok p)) step (inl is) = opened_has p is.opened step is.drives
  logged_has (Ok (Ok p)) step (inr no_memory) = never_changed step.log None step.outcome no_memory.1.is (λ bad. bad)

pub no_log_changed : {W : Type 0} (gives : W → List ℕ → Result (List ℕ) CommandFault → W → Type 0) → OutOfMemoryChangesNoLog gives
no_log_changed {W} gives words before after end written runs untouched = follows runs.read runs.follows
  where
    by_log : (chosen : Chosen) (log : Option (List ℕ)) (outcome : Result Answer CommandFault) (mid : Streams) → kept_log_in chosen ≡ log → RunsChosen gives log chosen before outcome mid after (Some end)
        → (own : ℕ) → own ≡ 4 → EndsBy (draws_in chosen) outcome mid.output after.streams.output before.errors after.errors own → written ≡ false
    by_log chosen None outcome mid keeps ran own four ends = absurd (cc ran.1.1)
    by_log chosen (Some path) outcome mid keeps ran own four ends =
        let drives : chosen.name ≡ Drive = keeper chosen.name (option_map string_bytes chosen.log) path keeps in
        let drive_ends : Ends outcome mid.output after.streams.output before.errors after.errors own =
        subst (λ (name : CommandName). EndsBy (draws name chosen.svg) outcome mid.output after.streams.output before.errors after.errors own) drives ends in
        unchanged end written untouched (λ changed.
        ends_four outcome mid.output after.streams.output before.errors after.errors (logged_has before.folder after.folder path chosen.start _ chosen.at ran.shaped _ ran.drives changed)
        (subst (λ (n : ℕ). Ends outcome mid.output after.streams.output before.errors after.errors n) four drive_ends))

    by_output : (chosen : Chosen) (shown : Bool) (outcome : Result Answer CommandFault) (mid : Streams) → RunsBy gives shown chosen before outcome mid after (Some end)
        → (own : ℕ) → own ≡ 4 → EndsBy (draws_in chosen) outcome mid.output after.streams.output before.errors after.errors own → written ≡ false
    by_output chosen true outcome mid refused own four ends = absurd (cc refused.3.1)
    by_output chosen false outcome mid runs own four ends = by_log chosen (kept_log_in chosen) outcome mid refl runs own four ends

    follows : (read : Result Chosen WordsFault) → Follows gives read before 4 after (Some end) → written ≡ false
    follows (Ok chosen) is = by_output chosen is.runs.shown is.outcome is.mid is.runs.by is.own (own_four is.own 4 (own_or _ _ _ _ _ is.status_is) refl) is.ends
    follows (Err (Usage true text)) is = absurd (cc is.logs.1)
    follows (Err (Usage false text)) is = absurd (cc is.4.1)
    follows (Err NoWordsMemory) is = absurd (cc is.3.1)
