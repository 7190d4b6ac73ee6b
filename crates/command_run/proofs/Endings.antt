-- How each run of the program ends.
use Rattle.std.proofs.Common.{◌≡◌, ℕ, ◌≤◌, ◌==◌, ◌&&◌, if◌then◌else◌, List, [], Bool, true, false, Option, None, Some, Result, Ok, Err, option_map, string_bytes, inl, inr, ◌⊎◌, ap, sym, ◌∙◌, subst, arith, refl}
use Rattle.std.proofs.lemmas.Bool.{and_parts, cases_Bool, eqb-true}
use Rattle.cell_drive.specs.declared.protocol.Protocol.{Protocol}
use Rattle.shop_base.specs.declared.shape_fault.ShapeFault.{ShapeFault}
use Rattle.shop_base.specs.Plan.{PlannedShop}
use Rattle.cell_drive.specs.declared.begin.DriveEnd.{DriveEnd}
use Rattle.cell_drive.specs.declared.resume.RestEnd.{RestEnd}
use Rattle.cell_drive.specs.declared.hub.HubEnd.{HubEnd}
use Rattle.byte_streams.specs.declared.drive_fault.DriveFault.{DriveFault}
use Rattle.byte_streams.specs.declared.drive_fault.DriveFault.TheVariants.{Read as NotRead, Write as NotWritten, InputTooLong as TooLong, Memory as OutOfMemory}
use Rattle.byte_streams.specs.Streams.{IsStreamed}
use Rattle.plan_verifier.specs.Accepted.{VerifiedPlan}
use Rattle.cell_drive.specs.OneRun.{IsStreamedFrom}
use Rattle.cell_drive.specs.Session.{SessionAnswer, SessionCloses, session_start}
use Rattle.cell_drive.specs.ProtocolCells.{HubAnswer, HubCloses, hub_of_plans}
use Rattle.plan_verifier.specs.declared.verdict.Verdict.TheVariants.{Accepted, Refused}
use Rattle.cell_drive.specs.declared.resume_fault.ResumeFault.{ResumeFault}
use Rattle.cell_drive.specs.Recovered.{Recovered}
use Rattle.cell_drive.specs.Resuming.{session_from}
use Rattle.cell_drive.specs.InProtocol.{IsResumeIn}
use Rattle.command_words.specs.declared.words.Chosen.{Chosen}
use Rattle.command_words.specs.declared.words.CommandName.{CommandName}
use Rattle.command_words.specs.declared.words.CommandName.TheVariants.{Input as NoWords, Facts, Shape, Check, Explain, Schedule, Bounds, Margin, Plan as Search, Improve, Decide, Revise, Drive, Resume, Hub, Digest, Audit, State, Gantt}
use Rattle.command_words.specs.declared.words.WordsFault.{WordsFault}
use Rattle.command_words.specs.declared.words.WordsFault.TheVariants.{Usage, Memory as NoWordsMemory}
use Rattle.command_words.specs.Choice.{IsChoiceOf, NamesOneOf, reasons_in, found_in}
use Rattle.command_answers.specs.declared.answer.Answer.{Answer}
use Rattle.command_answers.specs.declared.cells.Cells.{Cells}
use Rattle.command_answers.specs.declared.cells.Cells.TheVariants.{Accepted as AllAccepted, Line}
use Rattle.command_answers.specs.declared.command_fault.CommandFault.{CommandFault}
use Rattle.command_answers.specs.declared.command_fault.CommandFault.TheVariants.{Instance, Plan, Names, Read, Write, InputTooLong, Log, LogInUse, Memory}
use Rattle.command_answers.specs.declared.loading.Loaded.{Loaded}
use Rattle.command_answers.specs.declared.loading.Loaded.TheVariants.{NotShaped, Judged}
use Rattle.command_answers.specs.Statuses.{command_status_of}
use Rattle.command_answers.specs.Texts.{Asks}
use Rattle.command_answers.specs.declared.pictures.Drawn.{Drawn}
use Rattle.command_answers.specs.declared.pictures.Drawn.TheVariants.{Picture, Line as LineDrawn}
use Rattle.command_answers.specs.Commands.{Loads, Shapes}
use Rattle.command_answers.specs.Pictures.{DrawsLog, DrawsRest}
use Rattle.command_answers.specs.Cells.{LoadsCells}
use Rattle.command_run.specs.Streams.{Streams, Output, Errors, Devices}
use Rattle.command_run.specs.Pictures.{Draws, IsPictureOut, RunsTimetable, RunsDrawing}
use Rattle.command_run.specs.declared.pictures.Timetable.{Timetable}
use Rattle.command_run.specs.declared.pictures.Timetable.TheVariants.{Moments, Moves, Picture as DrawnForm}
use Rattle.command_run.specs.Drives.{Drives, IsDriveIn}
use Rattle.command_run.specs.Resumes.{IsRecovery, ResumesRecovered, ResumesText, Resumes}
use Rattle.command_run.specs.Hubs.{AreDrivesIn, DrivesAll}
use Rattle.command_run.specs.Ending.{Ends, EndsBy, EndsAside, IsPrinted, IsFaultPrinted, IsPrintedAfter, IsTextRefusal, IsLineOut, WasPrinted}
use Rattle.command_run.specs.Logs.{LogEnd, is_driven, step_of}
use Rattle.command_run.specs.Program.{AreWordsRead, RunsApart, RunsBy, RunsCommand, RunsChosen, Follows, starts_again, status_by, draws_in, file_at, form_in, kept_log_in, protocol_in, name_in, names_file, inputs_in, plans_in, run_in}
use Rattle.command_run.specs.Laws.{IsOutcomeOfWords, IsFailureOf, PrintsFaultsAlone, OutputHoldsNothing, WereDriven, WereRefused, IsUnanswered, Ran, RanCommand, WroteNoMore}
use Rattle.command_run.proofs.LowStatuses.{IsLow, low}
use Rattle.command_run.proofs.Keepers.{keeper}
use Rattle.command_run.proofs.LoggedEndings.{logged_shown, logged_written, low_logged}

-- ---- what is printed

at_least_two : (fault : CommandFault) (status : ℕ) → status ≡ command_status_of fault → 2 ≤ status
at_least_two (Instance fault) status own = omega (arith, own)
at_least_two (Plan fault) status own = omega (arith, own)
at_least_two (Names names) status own = omega (arith, own)
at_least_two Read status own = omega (arith, own)
at_least_two Write status own = omega (arith, own)
at_least_two InputTooLong status own = omega (arith, own)
at_least_two Log status own = omega (arith, own)
at_least_two LogInUse status own = omega (arith, own)
at_least_two Memory status own = omega (arith, own)

-- the status is the fault's own, or 6 in place of 5
abbrev pub IsOwnOr : ℕ → ℕ → Type 0
IsOwnOr own status = (status ≡ own) ⊎ ((own ≡ 5) × (status ≡ 6))

pub own_or : (keeps : Option (List ℕ)) (log : Option LogEnd) (outcome : Result Answer CommandFault) (own status : ℕ) → status ≡ status_by keeps log outcome own → IsOwnOr own status
own_or None log outcome own status is = inl is
own_or (Some path) log outcome own status is = elim (cases_Bool (own == 5 && starts_again (is_driven log) outcome)) [
  | inl again ↦ inr (eqb-true own 5 (and_parts (own == 5) (starts_again (is_driven log) outcome) again).0, is ∙ ap (λ (b : Bool). if b then 6 else own) again)
  | inr never ↦ inl (is ∙ ap (λ (b : Bool). if b then 6 else own) never)
]

own_high : (own status : ℕ) → IsOwnOr own status → 2 ≤ status → 2 ≤ own
own_high own status (inl same) high = omega (arith, same, high)
own_high own status (inr (five, six)) high = omega (arith, five)

status_high : (own status : ℕ) → IsOwnOr own status → 2 ≤ own → 2 ≤ status
status_high own status (inl same) high = omega (arith, same, high)
status_high own status (inr (five, six)) high = omega (arith, six)

low_own : (own status : ℕ) → IsOwnOr own status → own ≤ 1 → status ≡ own
low_own own status (inl same) low = same
low_own own status (inr (five, six)) low = absurd (omega (arith, five, low))

-- the fault was printed, which failed, or out of memory in its place
pub record IsFailurePrinted (outcome : Result Answer CommandFault) (output : Output) (before after : Errors) (status : ℕ) : Type 0 where
  pub high : 2 ≤ status
  pub fault : CommandFault
  pub failed : IsFailureOf outcome output fault
  pub printed : IsLineOut fault before after status

abbrev EndsWell : Result Answer CommandFault → Output → Errors → Errors → ℕ → Type 0
EndsWell outcome output before after status = IsFailurePrinted outcome output before after status ⊎ ((status ≤ 1) × (after ≡ before))

pub fault_ends : (fault : CommandFault) (output : Output) (before after : Errors) (status : ℕ) → IsFaultPrinted fault before after status → IsFailurePrinted (Err fault) output before after status
fault_ends fault output before after status (inl out) = record { high = at_least_two fault status out.own; fault = fault; failed = inl refl; printed = out }
fault_ends fault output before after status (inr (text, out)) = record { high = at_least_two Memory status out.own; fault = Memory; failed = inr (text, refl); printed = out }

unprinted_ends : (answer : Answer) (fault : CommandFault) (output_before output_after : Output) (before after : Errors) (status : ℕ)
    → IsPrinted answer output_before output_after (Err fault) → IsFaultPrinted fault before after status → IsFailurePrinted (Ok answer) output_after before after status
unprinted_ends answer fault output_before output_after before after status is (inl out) =
    record { high = at_least_two fault status out.own; fault = fault; failed = (is.0, is.2); printed = out }
unprinted_ends answer fault output_before output_after before after status is (inr (text, out)) = absurd (subst IsTextRefusal is.0 text)

printed_ends : (answer : Answer) (printed : Result ℕ CommandFault) (output_before output_after : Output) (before after : Errors) (status : ℕ) → answer.status ≤ 1
    → IsPrinted answer output_before output_after printed → IsPrintedAfter printed before after status → EndsWell (Ok answer) output_after before after status
printed_ends answer (Ok shown) output_before output_after before after status low is reported =
    inr (subst (λ n. n ≤ 1) (sym (reported.1 ∙ is.0)) low, reported.0)
printed_ends answer (Err fault) output_before output_after before after status low is reported =
    inl (unprinted_ends answer fault output_before output_after before after status is reported)

outcome_ends : (outcome : Result Answer CommandFault) (output_before output_after : Output) (before after : Errors) (status : ℕ) → IsLow outcome
    → Ends outcome output_before output_after before after status → EndsWell outcome output_after before after status
outcome_ends (Ok answer) output_before output_after before after status low ends =
    printed_ends answer ends.printed output_before output_after before after status low ends.is ends.reported
outcome_ends (Err fault) output_before output_after before after status low ends = inl (fault_ends fault output_after before after status ends.1)

-- the same where a picture is asked for: what is answered in its place was printed
abbrev EndsWellBy : Bool → Result Answer CommandFault → Output → Errors → Errors → ℕ → Type 0
EndsWellBy drawing outcome output before after status =
    EndsWell outcome output before after status
    ⊎ ((status ≤ 1) × ((answer : Answer) × (outcome ≡ Ok answer) × (drawing ≡ true) × WasPrinted answer.text.items before after × (status ≡ answer.status)))

aside_ends : (outcome : Result Answer CommandFault) (output_before output_after : Output) (before after : Errors) (status : ℕ) → IsLow outcome
    → EndsAside outcome output_before output_after before after status → EndsWellBy true outcome output_after before after status
aside_ends (Ok answer) output_before output_after before after status low ends =
    inr (subst (λ n. n ≤ 1) (sym ends.2) low, (answer, refl, refl, ends.1, ends.2))
aside_ends (Err fault) output_before output_after before after status low ends = inl (inl (fault_ends fault output_after before after status ends.1))

by_ends : (drawing : Bool) (outcome : Result Answer CommandFault) (output_before output_after : Output) (before after : Errors) (status : ℕ) → IsLow outcome
    → EndsBy drawing outcome output_before output_after before after status → EndsWellBy drawing outcome output_after before after status
by_ends true outcome output_before output_after before after status low ends = aside_ends outcome output_before output_after before after status low ends
by_ends false outcome output_before output_after before after status low ends = inl (outcome_ends outcome output_before output_after before after status low ends)

-- ---- what is written

module _ {W : Type 0} (gives : W → List ℕ → Result (List ℕ) CommandFault → W → Type 0) (chosen : Chosen) (texts : W) (before after : Streams) where
  kept : (name : CommandName) → after ≡ before → WereDriven gives name chosen texts before after
  kept name same = inl (ap (λ (s : Streams). s.output) same)

  drives_written : (loaded : Result Loaded CommandFault) (later : W) (outcome : Result Answer CommandFault) → Loads gives (inputs_in chosen) texts loaded later
      → Drives (protocol_in chosen) loaded before after outcome → WereDriven gives Drive chosen texts before after
  drives_written (Err fault) later outcome loads is = kept Drive is.1
  drives_written (Ok (NotShaped fault)) later outcome loads is = kept Drive is.1
  drives_written (Ok (Judged (Refused back why))) later outcome loads is = kept Drive is.1
  drives_written (Ok (Judged (Accepted v))) later outcome loads is = inr (inl (refl, inl (record { cell = v; later = later; loads = loads; end = is.end; is = is.is })))

  hub_written : (loaded : Result Cells CommandFault) (later : W) (outcome : Result Answer CommandFault) → LoadsCells gives (file_at chosen 0) (name_in chosen) (plans_in chosen) texts loaded later
      → DrivesAll (protocol_in chosen) loaded before after outcome → WereDriven gives Hub chosen texts before after
  hub_written (Err fault) later outcome loads is = kept Hub is.1
  hub_written (Ok (Line answer)) later outcome loads is = kept Hub is.1
  hub_written (Ok (AllAccepted cells)) later outcome loads is =
      inr (inr (inr (inl (refl, record { cells = cells.items; loaded = Ok (AllAccepted cells); later = later; loads = loads; accepted = refl; end = is.end; are = is.are }))))

  module _ (p : PlannedShop) (mid : W) (shapes : Shapes gives (inputs_in chosen) texts (Ok (Ok p)) mid) (later : W) (outcome : Result Answer CommandFault) where
    recovered_written : (text : List ℕ) (recovered : Result Recovered ResumeFault) → Asks gives (file_at chosen 2) mid (Ok text) later → IsRecovery p chosen.at text recovered
        → ResumesRecovered (protocol_in chosen) recovered before after outcome → WereDriven gives Resume chosen texts before after
    recovered_written text (Ok t) asks takes is =
        inr (inr (inl (refl, record { plan = p; mid = mid; shapes = shapes; text = text; later = later; asks = asks; recovered = t; takes = takes; end = is.end; is = is.is })))
    recovered_written text (Err fault) asks takes is = kept Resume is.1

    text_written : (text : Result (List ℕ) CommandFault) → Asks gives (file_at chosen 2) mid text later
        → ResumesText (protocol_in chosen) chosen.at p text before after outcome → WereDriven gives Resume chosen texts before after
    text_written (Ok text) asks is = recovered_written text is.0 asks is.1 is.2
    text_written (Err fault) asks is = kept Resume is.1

  resumes_written : (shaped : Result (Result PlannedShop ShapeFault) CommandFault) (mid later : W) (outcome : Result Answer CommandFault) → Shapes gives (inputs_in chosen) texts shaped mid
      → Resumes gives (protocol_in chosen) chosen.at (file_at chosen 2) shaped mid before outcome later after → WereDriven gives Resume chosen texts before after
  resumes_written (Err fault) mid later outcome shapes is = kept Resume is.1
  resumes_written (Ok (Err fault)) mid later outcome shapes is = kept Resume is.1
  resumes_written (Ok (Ok p)) mid later outcome shapes is = text_written p mid shapes later outcome is.text is.asks is.resumes

  schedule_drawn : (drawn : Result Drawn CommandFault) (later : W) (outcome : Result Answer CommandFault) → DrawsRest gives (run_in chosen) texts drawn later
      → Draws drawn before after outcome → WereDriven gives Schedule chosen texts before after
  schedule_drawn (Err fault) later outcome came is = kept Schedule is.1
  schedule_drawn (Ok (LineDrawn answer)) later outcome came is = kept Schedule is.1
  schedule_drawn (Ok (Picture picture status)) later outcome came is =
      inr (inr (inr (inr (inl (refl, record { picture = picture; status = status; later = later; came = came; outcome = outcome; out = is.1 })))))

  log_drawn : (drawn : Result Drawn CommandFault) (later : W) (outcome : Result Answer CommandFault) → DrawsLog gives (inputs_in chosen) (names_file chosen) (file_at chosen 2) texts drawn later
      → Draws drawn before after outcome → WereDriven gives Gantt chosen texts before after
  log_drawn (Err fault) later outcome came is = kept Gantt is.1
  log_drawn (Ok (LineDrawn answer)) later outcome came is = kept Gantt is.1
  log_drawn (Ok (Picture picture status)) later outcome came is =
      inr (inr (inr (inr (inr (refl, record { picture = picture; status = status; later = later; came = came; outcome = outcome; out = is.1 })))))

  timetable_written : (form : Timetable) (later : W) (outcome : Result Answer CommandFault) → RunsTimetable gives form (run_in chosen) texts before outcome later after
      → WereDriven gives Schedule chosen texts before after
  timetable_written Moments later outcome run = kept Schedule run.1
  timetable_written Moves later outcome run = kept Schedule run.1
  timetable_written DrawnForm later outcome run = schedule_drawn run.drawn later outcome run.came run.draws

  drawing_written : (svg : Bool) (later : W) (outcome : Result Answer CommandFault) → RunsDrawing gives svg (inputs_in chosen) (names_file chosen) (file_at chosen 2) texts before outcome later after
      → WereDriven gives Gantt chosen texts before after
  drawing_written false later outcome run = kept Gantt run.1
  drawing_written true later outcome run = log_drawn run.drawn later outcome run.came run.draws

  written : (name : CommandName) (later : W) (outcome : Result Answer CommandFault)
      → RunsCommand gives name chosen texts before outcome later after → WereDriven gives name chosen texts before after
  written NoWords later outcome run = inl run.1
  written Facts later outcome run = kept Facts run.1
  written Shape later outcome run = kept Shape run.1
  written Check later outcome run = kept Check run.1
  written Explain later outcome run = kept Explain run.1
  written Schedule later outcome run = timetable_written (form_in chosen) later outcome run
  written Bounds later outcome run = kept Bounds run.1
  written Margin later outcome run = kept Margin run.1
  written Search later outcome run = kept Search run.1
  written Improve later outcome run = kept Improve run.1
  written Decide later outcome run = kept Decide run.1
  written Revise later outcome run = kept Revise run.1
  written Drive later outcome run = drives_written run.loaded later outcome run.loads run.drives
  written Resume later outcome run = resumes_written run.shaped run.texts_mid later outcome run.shapes run.resumes
  written Hub later outcome run = hub_written run.loaded later outcome run.loads run.drives
  written Digest later outcome run = kept Digest run.1
  written Audit later outcome run = kept Audit run.1
  written State later outcome run = kept State run.1
  written Gantt later outcome run = drawing_written chosen.svg later outcome run

-- ---- what is shown

streamed_shown : {S T : Type 0} (answers : S → ℕ → Option (List ℕ) → List ℕ → S → Type 0) (closes : S → List ℕ → Type 0) (start last : S) (before after : Streams) (outcome : Result T DriveFault)
    → IsStreamed outcome 65536 answers closes start last before after → OutputHoldsNothing after.output
streamed_shown answers closes start last before after (Ok end) is = inl is.shown
streamed_shown answers closes start last before after (Err NotRead) is = inl is.shown
streamed_shown answers closes start last before after (Err NotWritten) is = inr is.comes_to.0
streamed_shown answers closes start last before after (Err TooLong) is = inl is.shown
streamed_shown answers closes start last before after (Err OutOfMemory) is = absurd is.comes_to

streamed_from_shown : {S T : Type 0} (answers : S → ℕ → Option (List ℕ) → List ℕ → S → Type 0) (closes : S → List ℕ → Type 0) (start last : S) (before after : Streams) (outcome : Result T DriveFault)
    → IsStreamedFrom answers closes start outcome last before after → before.output.pending ≡ [] → OutputHoldsNothing after.output
streamed_from_shown answers closes start last before after (Ok end) is none = streamed_shown answers closes start last before after (Ok end) is
streamed_from_shown answers closes start last before after (Err NotRead) is none = streamed_shown answers closes start last before after (Err NotRead) is
streamed_from_shown answers closes start last before after (Err NotWritten) is none = streamed_shown answers closes start last before after (Err NotWritten) is
streamed_from_shown answers closes start last before after (Err TooLong) is none = streamed_shown answers closes start last before after (Err TooLong) is
streamed_from_shown answers closes start last before after (Err OutOfMemory) is none = inl (ap (λ (s : Streams). s.output.pending) is ∙ none)

resume_shown : (protocol : Protocol) (t : Recovered) (before after : Streams) (end : Result RestEnd DriveFault) → IsResumeIn protocol t before after end → before.output.pending ≡ [] → OutputHoldsNothing after.output
resume_shown protocol t before after end (inl cut) none = inr cut.1
resume_shown protocol t before after end (inr on) none =
    streamed_shown SessionAnswer SessionCloses (session_from protocol t) on.end (record { input = before.input; output = on.middle }) after end on.streamed

drive_shown : (protocol : Protocol) (v : VerifiedPlan) (before after : Streams) (end : Result DriveEnd DriveFault) → IsDriveIn protocol v before after end → before.output.pending ≡ [] → OutputHoldsNothing after.output
drive_shown protocol v before after end is none = streamed_from_shown SessionAnswer SessionCloses (session_start protocol v) is.end before after end is.streamed none

hub_shown : (protocol : Protocol) (cells : List VerifiedPlan) (before after : Streams) (end : Result HubEnd DriveFault) → AreDrivesIn protocol cells before after end → before.output.pending ≡ [] → OutputHoldsNothing after.output
hub_shown protocol cells before after end is none = streamed_from_shown HubAnswer HubCloses (hub_of_plans protocol cells) is.end before after end is.streamed none

picture_shown : (picture : List ℕ) (status : ℕ) (before after : Output) (outcome : Result Answer CommandFault) → IsPictureOut picture status before after outcome → OutputHoldsNothing after
picture_shown picture status before after (Ok answer) out = inl out.4
picture_shown picture status before after (Err fault) out = inr out.2

driven_shown : {W : Type 0} (gives : W → List ℕ → Result (List ℕ) CommandFault → W → Type 0) (chosen : Chosen) (texts : W) (before after : Streams) (name : CommandName)
    → WereDriven gives name chosen texts before after → before.output.pending ≡ [] → OutputHoldsNothing after.output
driven_shown gives chosen texts before after name (inl same) none = inl (ap (λ (o : Output). o.pending) same ∙ none)
driven_shown gives chosen texts before after name (inr (inl (is, inr drove))) none = logged_shown gives (protocol_in chosen) (inputs_in chosen) texts before after drove none
driven_shown gives chosen texts before after name (inr (inl (is, inl drove))) none =
    drive_shown (protocol_in chosen) drove.cell before after drove.end drove.is none
driven_shown gives chosen texts before after name (inr (inr (inl (is, drove)))) none = resume_shown (protocol_in chosen) drove.recovered before after drove.end drove.is none
driven_shown gives chosen texts before after name (inr (inr (inr (inl (is, drove))))) none =
    hub_shown (protocol_in chosen) drove.cells before after drove.end drove.are none
driven_shown gives chosen texts before after name (inr (inr (inr (inr (inl (is, drew)))))) none = picture_shown drew.picture drew.status before.output after.output drew.outcome drew.out
driven_shown gives chosen texts before after name (inr (inr (inr (inr (inr (is, drew)))))) none = picture_shown drew.picture drew.status before.output after.output drew.outcome drew.out

printed_shown : (answer : Answer) (printed : Result ℕ CommandFault) (before after : Output) → IsPrinted answer before after printed → OutputHoldsNothing after
printed_shown answer (Ok status) before after is = inl is.3
printed_shown answer (Err fault) before after is = inr is.2

ended_shown : (outcome : Result Answer CommandFault) (before after : Output) (printed_before printed_after : Errors) (status : ℕ) → OutputHoldsNothing before
    → Ends outcome before after printed_before printed_after status → OutputHoldsNothing after
ended_shown (Ok answer) before after printed_before printed_after status shown ends = printed_shown answer ends.printed before after ends.is
ended_shown (Err fault) before after printed_before printed_after status shown ends = subst OutputHoldsNothing (sym ends.0) shown

aside_shown : (drawing : Bool) (outcome : Result Answer CommandFault) (before after : Output) (printed_before printed_after : Errors) (status : ℕ) → OutputHoldsNothing before
    → EndsBy drawing outcome before after printed_before printed_after status → OutputHoldsNothing after
aside_shown false outcome before after printed_before printed_after status shown ends = ended_shown outcome before after printed_before printed_after status shown ends
aside_shown true (Ok answer) before after printed_before printed_after status shown ends = subst OutputHoldsNothing (sym ends.0) shown
aside_shown true (Err fault) before after printed_before printed_after status shown ends = subst OutputHoldsNothing (sym ends.0) shown

-- ---- what isn't answered

printed_no_more : (answer : Answer) (printed : Result ℕ CommandFault) (before after : Output) (printed_before printed_after : Errors) (status : ℕ) → answer.status ≤ 1 → 2 ≤ status
    → IsPrinted answer before after printed → IsPrintedAfter printed printed_before printed_after status → IsUnanswered (Ok answer) before after
printed_no_more answer (Ok shown) before after printed_before printed_after status low high is reported = absurd (omega (arith, low, high, reported.1, is.0))
printed_no_more answer (Err fault) before after printed_before printed_after status low high is reported = (is.2, is.1)

ended_no_more : (outcome : Result Answer CommandFault) (before after : Output) (printed_before printed_after : Errors) (status : ℕ) → IsLow outcome → 2 ≤ status
    → Ends outcome before after printed_before printed_after status → IsUnanswered outcome before after
ended_no_more (Ok answer) before after printed_before printed_after status low high ends =
    printed_no_more answer ends.printed before after printed_before printed_after status low high ends.is ends.reported
ended_no_more (Err fault) before after printed_before printed_after status low high ends = ends.0

aside_no_more : (drawing : Bool) (outcome : Result Answer CommandFault) (before after : Output) (printed_before printed_after : Errors) (status : ℕ) → IsLow outcome → 2 ≤ status
    → EndsBy drawing outcome before after printed_before printed_after status → IsUnanswered outcome before after
aside_no_more false outcome before after printed_before printed_after status low high ends = ended_no_more outcome before after printed_before printed_after status low high ends
aside_no_more true (Ok answer) before after printed_before printed_after status low high ends = absurd (omega (arith, low, high, ends.2))
aside_no_more true (Err fault) before after printed_before printed_after status low high ends = ends.0

-- ---- each run of the program

module _ {W : Type 0} (gives : W → List ℕ → Result (List ℕ) CommandFault → W → Type 0) (chosen : Chosen) (before after : Devices W) (outcome : Result Answer CommandFault) (mid : Streams) (end : Option LogEnd) where
  -- what a command wrote, with a log of its own or without
  kept_written : (log : Option (List ℕ)) → kept_log_in chosen ≡ log → RunsChosen gives log chosen before outcome mid after end → WereDriven gives chosen.name chosen before.texts before.streams mid
  kept_written None none run = written gives chosen before.texts before.streams mid chosen.name after.texts outcome run.0
  kept_written (Some path) keeps run =
      elim (logged_written gives (inputs_in chosen) (protocol_in chosen) before.texts after.texts before.streams mid outcome end before.folder after.folder path chosen.start chosen.at run.shaped run.shapes run.drives) [
        | inl same ↦ inl same
        | inr drove ↦ inr (inl (keeper chosen.name (option_map string_bytes chosen.log) path keeps, inr drove))
      ]

  -- nothing where the output goes to the log that it is given
  chosen_written : RunsApart gives chosen before outcome mid after end → WereDriven gives chosen.name chosen before.texts before.streams mid
  chosen_written run = by run.shown run.by
    where
      by : (shown : Bool) → RunsBy gives shown chosen before outcome mid after end → WereDriven gives chosen.name chosen before.texts before.streams mid
      by true refused = inl (ap (λ (s : Streams). s.output) refused.1)
      by false is = kept_written (kept_log_in chosen) refl is

  -- and its answer is a good one, or one that refuses
  kept_low : (log : Option (List ℕ)) → RunsChosen gives log chosen before outcome mid after end → IsLow outcome
  kept_low None run = low gives chosen.name chosen before.texts before.streams outcome after.texts mid run.0
  kept_low (Some path) run = low_logged before.folder after.folder path chosen.start (protocol_in chosen) chosen.at run.shaped (step_of before.streams outcome mid end) run.drives

  chosen_low : RunsApart gives chosen before outcome mid after end → IsLow outcome
  chosen_low run = by run.shown run.by
    where
      by : (shown : Bool) → RunsBy gives shown chosen before outcome mid after end → IsLow outcome
      by true refused = subst IsLow (sym refused.0) tt
      by false is = kept_low (kept_log_in chosen) is

module _ {W : Type 0} (gives : W → List ℕ → Result (List ℕ) CommandFault → W → Type 0) (words : List (List ℕ)) (before : Devices W) (status : ℕ) (after : Devices W) (end : Option LogEnd) where
  -- a command that was run, as a part of the program's run
  ran : (chosen : Chosen) → reasons_in words ≡ [] → IsChoiceOf words (found_in words) chosen → (outcome : Result Answer CommandFault) (mid : Streams)
      → RunsApart gives chosen before outcome mid after end → Ran gives words before outcome mid after end
  ran chosen accepted is outcome mid runs =
      inl (record { chosen = chosen; accepted = accepted; is = is; runs = runs; driven = chosen_written gives chosen before after outcome mid end runs })

  -- words that choose no command
  chose_none : (fault : WordsFault) → NamesOneOf (reasons_in words) fault → (outcome : Result Answer CommandFault) → IsOutcomeOfWords fault outcome → Ran gives words before outcome before.streams after end
  chose_none fault refused outcome is = inr (record { fault = fault; refused = refused; is = is; same = refl })

  -- what was printed at the end of what ran
  ends_printed : (outcome : Result Answer CommandFault) (mid : Streams) (own : ℕ) → IsOwnOr own status → Ran gives words before outcome mid after end
      → EndsWell outcome after.streams.output before.errors after.errors own → PrintsFaultsAlone gives words before status after end
  ends_printed outcome mid own rel ran (inl failure) =
      inl (status_high own status rel failure.high, inr (record { outcome = outcome; mid = mid; ran = ran; fault = failure.fault; failed = failure.failed; own = own; printed = failure.printed; status_is = rel }))
  ends_printed outcome mid own rel ran (inr good) = inr (subst (λ (n : ℕ). n ≤ 1) (sym (low_own own status rel good.0)) good.0, inl good.1)

  -- of a command
  command_printed : (chosen : Chosen) (accepted : reasons_in words ≡ []) (is : IsChoiceOf words (found_in words) chosen) (outcome : Result Answer CommandFault) (mid : Streams) (own : ℕ) → IsOwnOr own status
      → RunsApart gives chosen before outcome mid after end
      → EndsWellBy (draws_in chosen) outcome after.streams.output before.errors after.errors own → PrintsFaultsAlone gives words before status after end
  command_printed chosen accepted is outcome mid own rel runs (inl well) = ends_printed outcome mid own rel (ran chosen accepted is outcome mid runs) well
  command_printed chosen accepted is outcome mid own rel runs (inr (low, (answer, same, draws, printed, answered))) =
      let run : RunsApart gives chosen before (Ok answer) mid after end = subst (λ (o : Result Answer CommandFault). RunsApart gives chosen before o mid after end) same runs in
      let here : RanCommand gives words before (Ok answer) mid after end = record {
        chosen = chosen;
        accepted = accepted;
        is = is;
        runs = run;
        driven = chosen_written gives chosen before after (Ok answer) mid end run;
      } in
      let status_is = low_own own status rel low in
      inr (subst (λ (n : ℕ). n ≤ 1) (sym status_is) low, inr (record { answer = answer; mid = mid; ran = here; draws = draws; printed = printed; own = status_is ∙ answered }))

  pub follows_ends : (read : Result Chosen WordsFault) → AreWordsRead words read → Follows gives read before status after end → PrintsFaultsAlone gives words before status after end
  follows_ends (Ok chosen) are is =
      command_printed chosen are.accepted are.chosen is.outcome is.mid is.own (own_or (kept_log_in chosen) end is.outcome is.own status is.status_is) is.runs
      (by_ends (draws_in chosen) is.outcome is.mid.output after.streams.output before.errors after.errors is.own (chosen_low gives chosen before after is.outcome is.mid end is.runs) is.ends)
  follows_ends (Err (Usage true text)) are is =
      ends_printed (Ok is.help) before.streams status (inl refl) (chose_none (Usage true text) are.refused (Ok is.help) (is.help, refl, is.text_is.0))
      (outcome_ends (Ok is.help) before.streams.output after.streams.output before.errors after.errors status (omega (arith, is.text_is.1)) is.ends)
  follows_ends (Err (Usage false text)) are is =
      inl (omega (arith, is.1), inl (record { fault = Usage false text; refused = are.refused; printed = (is.1, is.0); same = is.3 }))
  follows_ends (Err NoWordsMemory) are is =
      ends_printed (Err Memory) before.streams status (inl refl) (chose_none NoWordsMemory are.refused (Err Memory) refl)
      (outcome_ends (Err Memory) before.streams.output after.streams.output before.errors after.errors status tt is.0)

  pub follows_shown : (read : Result Chosen WordsFault) → before.streams.output.pending ≡ [] → Follows gives read before status after end → OutputHoldsNothing after.streams.output
  follows_shown (Ok chosen) none is =
      aside_shown (draws_in chosen) is.outcome is.mid.output after.streams.output before.errors after.errors is.own
      (driven_shown gives chosen before.texts before.streams is.mid chosen.name (chosen_written gives chosen before after is.outcome is.mid end is.runs) none) is.ends
  follows_shown (Err (Usage true text)) none is = printed_shown is.help is.ends.printed before.streams.output after.streams.output is.ends.is
  follows_shown (Err (Usage false text)) none is = inl (ap (λ (s : Streams). s.output.pending) is.3 ∙ none)
  follows_shown (Err NoWordsMemory) none is = inl (ap (λ (o : Output). o.pending) is.0.0 ∙ none)

  pub follows_no_more : (read : Result Chosen WordsFault) → AreWordsRead words read → 2 ≤ status → Follows gives read before status after end
      → WereRefused words before status after ⊎ WroteNoMore gives words before after end
  follows_no_more (Ok chosen) are high is =
      inr (record {
        outcome = is.outcome;
        mid = is.mid;
        ran = ran chosen are.accepted are.chosen is.outcome is.mid is.runs;
        unanswered = aside_no_more (draws_in chosen) is.outcome is.mid.output after.streams.output before.errors after.errors is.own
            (chosen_low gives chosen before after is.outcome is.mid end is.runs) (own_high is.own status (own_or (kept_log_in chosen) end is.outcome is.own status is.status_is) high) is.ends;
      })
  follows_no_more (Err (Usage true text)) are high is =
      inr (record {
        outcome = Ok is.help;
        mid = before.streams;
        ran = chose_none (Usage true text) are.refused (Ok is.help) (is.help, refl, is.text_is.0);
        unanswered = ended_no_more (Ok is.help) before.streams.output after.streams.output before.errors after.errors status (omega (arith, is.text_is.1)) high is.ends;
      })
  follows_no_more (Err (Usage false text)) are high is =
      inl (record { fault = Usage false text; refused = are.refused; printed = (is.1, is.0); same = is.3 })
  follows_no_more (Err NoWordsMemory) are high is =
      inr (record {
        outcome = Err Memory;
        mid = before.streams;
        ran = chose_none NoWordsMemory are.refused (Err Memory) refl;
        unanswered = is.0.0;
      })
