-- The status of an answer is that of a good one or of one that refuses.
use Rattle.std.proofs.Common.{◌≡◌, ℕ, ◌≤◌, ◌⊎◌, List, [], ◌∷◌, Bool, true, false, Option, None, Some, Result, Ok, Err, inl, inr, is_some, subst, sym, arith}
use Rattle.plan_verifier.specs.Accepted.{VerifiedPlan}
use Rattle.plan_verifier.specs.declared.verdict.Verdict.{Verdict}
use Rattle.plan_verifier.specs.declared.verdict.Verdict.TheVariants.{Accepted, Refused}
use Rattle.plan_verifier.specs.declared.verdict.Judged.{Judged as JudgedRest}
use Rattle.plan_verifier.specs.declared.verdict.Judged.TheVariants.{Accepted as InTime, Refused as NotInTime}
use Rattle.plan_verifier.specs.declared.verdict.Why.TheVariants.{Cycle, Late}
use Rattle.shop_base.specs.Cell.{Cell, start}
use Rattle.run_picture.specs.declared.visit.DrawnVisit.{DrawnVisit}
use Rattle.people_names.specs.NameBooks.{NameBook}
use Rattle.plan_seek.specs.Tasks.{task_in}
use Rattle.plan_seek.specs.Turns.{PlanSearch}
use Rattle.plan_seek.specs.declared.seek_fault.SeekFault.{SeekFault}
use Rattle.plan_seek.specs.declared.seek_fault.SeekFault.TheVariants.{BadNumbers, Exhausted, TooManyRounds, Memory as NoMemory}
use Rattle.plan_decide.specs.declared.aim.Aim.{Aim}
use Rattle.plan_decide.specs.Cases.{Case}
use Rattle.plan_decide.specs.Pasts.{whole_case}
use Rattle.shop_base.specs.declared.shape_fault.ShapeFault.{ShapeFault}
use Rattle.shop_base.specs.Shop.{JobShop}
use Rattle.shop_base.specs.Plan.{PlannedShop, ShopPlan}
use Rattle.cell_tables.specs.Events.{events_of}
use Rattle.plan_revise.specs.declared.change.Change.{Change}
use Rattle.command_words.specs.declared.words.changes.AskedChange.{AskedChange}
use Rattle.command_answers.specs.declared.revises.Revised.{Revised}
use Rattle.command_answers.specs.declared.revises.Revised.TheVariants.{PlanText, InstanceText, LogText}
use Rattle.command_answers.specs.Documents.{IsDocumentAnswer}
use Rattle.run_revising.specs.declared.next.NextRun.{NextRun}
use Rattle.orlib_read.specs.declared.named.Named.{Named}
use Rattle.command_answers.specs.Asked.{AskedRevision}
use Rattle.command_answers.specs.Naming.{ReadsNames}
use Rattle.command_answers.specs.Chapters.{IsChapterAnswer, IsMisfitLine, IsPrintedAs}
use Rattle.command_answers.specs.InstanceTexts.{IsInstanceAnswer}
use Rattle.command_answers.specs.Revising.{IsChangeRefused, IsNamedAnswer, IsRefusedBehind, IsReviseAnswer, IsRevisedRest, IsRunRevised, IsUnnamedAnswer}
use Rattle.command_answers.specs.MadeJobs.{names_given}
use Rattle.plan_revise.specs.declared.change.ChangeFault.{ChangeFault}
use Rattle.command_words.specs.declared.words.printed.Prints.{Prints}
use Rattle.command_run.specs.Revisions.{Revises, revision_asked}
use Rattle.byte_streams.specs.declared.drive_fault.DriveFault.{DriveFault}
use Rattle.cell_drive.specs.declared.protocol.Protocol.{Protocol}
use Rattle.cell_drive.specs.declared.resume_fault.ResumeFault.{ResumeFault}
use Rattle.cell_drive.specs.declared.resume_fault.ResumeFault.TheVariants.{Run, Refused as RefusedRun, Memory as NoMemoryToResume}
use Rattle.run_log.specs.declared.present_run.RunFault.TheVariants.{Log, Present}
use Rattle.cell_tables.specs.declared.present_fault.PresentFault.TheVariants.{Past, TooLarge}
use Rattle.cell_drive.specs.Recovered.{Recovered}
use Rattle.run_log.specs.declared.audit_fault.AuditFault.{AuditFault}
use Rattle.run_log.specs.declared.audit_fault.AuditFault.TheVariants.{BadLine, NotExpected, Backwards, NotReady, Occupied, OutOfOrder, WrongPlace, NotClean, Memory as NoMemoryToAudit}
use Rattle.command_words.specs.declared.words.Chosen.{Chosen}
use Rattle.command_words.specs.declared.words.CommandName.{CommandName}
use Rattle.command_words.specs.declared.words.CommandName.TheVariants.{Input as NoWords, Facts, Shape, Check, Explain, Schedule, Bounds, Margin, Plan, Improve, Decide, Revise, Drive, Resume, Hub, Digest, Audit, State, Gantt}
use Rattle.command_answers.specs.declared.answer.Answer.{Answer}
use Rattle.command_answers.specs.declared.cells.Cells.{Cells}
use Rattle.command_answers.specs.declared.cells.Cells.TheVariants.{Accepted as AllAccepted, Line}
use Rattle.command_answers.specs.declared.command_fault.CommandFault.{CommandFault}
use Rattle.command_answers.specs.declared.loading.Loaded.{Loaded}
use Rattle.command_answers.specs.declared.loading.Loaded.TheVariants.{NotShaped, Judged}
use Rattle.command_answers.specs.Steps.{Then, AndThen, Concludes, IsOrMemory}
use Rattle.command_answers.specs.Parsed.{AreFactsAnswered}
use Rattle.command_answers.specs.Shapes.{IsShapeLine, IsNotShapedLine}
use Rattle.command_answers.specs.Checks.{IsLineOf, accepted_in, verdict_status}
use Rattle.command_answers.specs.AskedJobs.{IsNoJobLine}
use Rattle.command_answers.specs.Texts.{Asks}
use Rattle.command_answers.specs.Naming.{ReadsNames}
use Rattle.command_answers.specs.Serial.{serially}
use Rattle.people_names.specs.NameBooks.{NameBook}
use Rattle.plan_bounds.specs.Bounds.{ShopTimes, times_of}
use Rattle.command_answers.specs.BoundLines.{AreBoundLines, IsBadNumbersLine}
use Rattle.command_answers.specs.Deciding.{IsDecisionAnswer, IsDecisionText, job_of}
use Rattle.command_answers.specs.DecidingRests.{IsRunDecision, IsUnfitLine, IsDecisionFrom, IsRestDecisionAnswer}
use Rattle.command_answers.specs.Improving.{IsStatusOf, IsBestAnswer, SearchBy, ordered}
use Rattle.command_answers.specs.Search.{IsSearchLine, IsSearchAnswer, IsNoPlanLine}
use Rattle.command_answers.specs.declared.logs.LogAnswer.{LogAnswer}
use Rattle.command_answers.specs.declared.logs.LogAnswer.TheVariants.{Numbers, Drawing}
use Rattle.command_answers.specs.LogLines.{IsFaultLine, IsLogFaultAnswer, IsLogLine}
use Rattle.command_answers.specs.declared.rests.PlanAnswer.{PlanAnswer}
use Rattle.command_answers.specs.declared.rests.PlanAnswer.TheVariants.{Verdict as OfVerdict, Reasons, Moments}
use Rattle.command_answers.specs.Rests.{IsPastLine, IsRunRefused, IsRestLine, job_asked}
use Rattle.command_answers.specs.declared.pictures.Drawn.{Drawn}
use Rattle.command_answers.specs.declared.pictures.Drawn.TheVariants.{Picture, Line as LineDrawn}
use Rattle.command_answers.specs.Pictures.{IsLineAlone, IsLogDrawn, IsRestDrawing, IsRestDrawn, IsVerdictDrawn}
use Rattle.command_answers.specs.Commands.{AsksOfRun, BettersPlan, DecidesPlan, IfFit, IfShaped, IfShapedBy, IfThere, IfThereBy, InputPaths, Itself, ReadsInstance, ReadsPlan, RunPaths, RevisesShaped, RunsRevise, RunsLog, RunsState, RunsRest, WithBoth, WithNames, WithNamesAndRun, WithRun, WithSoundNames}
use Rattle.command_answers.specs.Cells.{IsCellLine, AfterPlan, LoadsEach}
use Rattle.command_answers.specs.Digests.{IsDigestAnswer}
use Rattle.command_answers.specs.Margins.{IsMarginAnswer}
use Rattle.command_answers.specs.States.{IsStateLine}
use Rattle.command_answers.specs.Moves.{AreMovesAhead}
use Rattle.command_answers.proofs.AskedRuns.{OnLog, logged}
use Rattle.command_answers.proofs.RestAnswers.{low_ahead, low_rest}
use Rattle.command_run.specs.Streams.{Streams, Output}
use Rattle.command_run.specs.Pictures.{Draws, IsPictureOut, RunsTimetable, RunsDrawing}
use Rattle.command_run.specs.declared.pictures.Timetable.{Timetable}
use Rattle.command_run.specs.declared.pictures.Timetable.TheVariants.{Moments as ByMoments, Moves as ByMoves, Picture as AsPicture}
use Rattle.command_run.specs.Drives.{IsEnded, IsEndAnswer, Drives, status_at, end_of_drive}
use Rattle.command_run.specs.Resumes.{IsUnrecoveredAnswer, ResumesRecovered, ResumesText, Resumes, end_of_rest}
use Rattle.command_run.specs.Hubs.{DrivesAll, end_of_hub}
use Rattle.command_run.specs.Planners.{search_by_two, SeeksPlan}
use Rattle.text_lines.specs.Lines.{ended_lines}
use Rattle.command_answers.specs.ImprovingRests.{IsBetterAnswer, IsRestAnswer}
use Rattle.command_run.specs.Improvers.{AsksOne, Improves}
use Rattle.command_run.specs.Program.{RunsCommand, aim_in, file_at, form_in, log_in, names_file, protocol_in, name_in, inputs_in, plans_in, run_in}

-- the answer's status is 0 or 1
abbrev pub IsLow : Result Answer CommandFault → Type 0
IsLow (Ok answer) = answer.status ≤ 1
IsLow (Err fault) = Unit {0}

-- ---- what each outcome of a chain of steps is

held_on : {W A B : Type 0} (P : Result B CommandFault → Type 0) (next : A → W → Result B CommandFault → W → Type 0) (came : Result A CommandFault) (mid : W) (outcome : Result B CommandFault) (after : W)
    → ((fault : CommandFault) → P (Err fault)) → ((a : A) → next a mid outcome after → P outcome) → AndThen next came mid outcome after → P outcome
held_on P next (Ok a) mid outcome after failed each on = each a on
held_on P next (Err fault) mid outcome after failed each on = subst P (sym on.0) (failed fault)

held : {W A B : Type 0} (P : Result B CommandFault → Type 0) (first : W → Result A CommandFault → W → Type 0) (next : A → W → Result B CommandFault → W → Type 0)
    (before : W) (outcome : Result B CommandFault) (after : W)
    → ((fault : CommandFault) → P (Err fault)) → ((a : A) (mid : W) → next a mid outcome after → P outcome) → Then first next before outcome after → P outcome
held P first next before outcome after failed each run = held_on P next run.came run.mid outcome after failed (λ a. each a run.mid) run.goes_on

low_failed : (fault : CommandFault) → IsLow (Err fault)
low_failed fault = tt

pub low_or : (Is : Answer → Type 0) (outcome : Result Answer CommandFault) → ((answer : Answer) → Is answer → answer.status ≤ 1) → IsOrMemory Is outcome → IsLow outcome
low_or Is (Ok answer) each is = each answer is
low_or Is (Err fault) each is = tt

zero_low : (status : ℕ) → status ≡ 0 → status ≤ 1
zero_low status is = omega (arith, is)

one_low : (status : ℕ) → status ≡ 1 → status ≤ 1
one_low status is = omega (arith, is)

-- ---- the lines of the answers

low_facts : (text : List ℕ) (name : Option (List ℕ)) (outcome : Result Answer CommandFault) → AreFactsAnswered text name outcome → IsLow outcome
low_facts text name (Ok answer) are = zero_low answer.status are.found.facts.good
low_facts text name (Err fault) are = tt

low_not_shaped : (p : PlannedShop) (answer : Answer) → IsNotShapedLine p answer → answer.status ≤ 1
low_not_shaped p answer is = one_low answer.status is.line.refused

low_shape : (p : PlannedShop) (answer : Answer) → IsShapeLine p answer → answer.status ≤ 1
low_shape p answer (inl shaped) = zero_low answer.status shaped.good
low_shape p answer (inr not_shaped) = low_not_shaped p answer not_shaped

low_digest : (p : PlannedShop) (answer : Answer) → IsDigestAnswer p answer → answer.status ≤ 1
low_digest p answer (inl digits) = zero_low answer.status digits.good
low_digest p answer (inr not_shaped) = low_not_shaped p answer not_shaped

low_margin : (names : NameBook) (p : PlannedShop) (answer : Answer) → IsMarginAnswer names p answer → answer.status ≤ 1
low_margin names p answer (inl (acceptable, margin)) = zero_low answer.status margin.good
low_margin names p answer (inr (inl cycle)) = one_low answer.status cycle.refused
low_margin names p answer (inr (inr late)) = one_low answer.status late.refused

low_no_plan : (fault : SeekFault) (answer : Answer) → IsNoPlanLine fault answer → answer.status ≤ 1
low_no_plan (BadNumbers fault) answer is = one_low answer.status is.refused
low_no_plan Exhausted answer is = one_low answer.status is.1
low_no_plan TooManyRounds answer is = one_low answer.status is.1
low_no_plan NoMemory answer is = absurd is

low_search : (s : PlanSearch) (rounds : ℕ) (answer : Answer) → IsSearchLine s rounds answer → answer.status ≤ 1
low_search s rounds answer (inl found) = zero_low answer.status found.text.ends
low_search s rounds answer (inr none) = low_no_plan none.fault answer none.line

low_sought : (s : PlanSearch) (rounds : ℕ) (outcome : Result Answer CommandFault) → IsSearchAnswer s rounds outcome → IsLow outcome
low_sought s rounds (Ok answer) is = low_search s rounds answer is
low_sought s rounds (Err fault) is = tt

low_log : (names : NameBook) (wanted : LogAnswer) (p : PlannedShop) (log : List ℕ) (answer : Answer) → IsLogLine names wanted p log answer → answer.status ≤ 1
low_log names wanted p log answer (inl kept) = zero_low answer.status kept.answered.1
low_log names wanted p log answer (inr refused) = one_low answer.status refused.line.1

low_verdict : (verdict : Verdict) (status : ℕ) → status ≡ verdict_status verdict → status ≤ 1
low_verdict (Accepted v) status is = zero_low status is
low_verdict (Refused back why) status is = one_low status is

low_bounds : (names : NameBook) (t : ShopTimes) (budgets : List ℕ) (answer : Answer) → AreBoundLines names t budgets answer → answer.status ≤ 1
low_bounds names t budgets answer are = elim are.status [
  | inl good ↦ zero_low answer.status good.1
  | inr never ↦ one_low answer.status never.2
]

-- why there is no run up to the present moment
low_run_refused : (at : Option ℕ) (lines : List (List ℕ)) (p : PlannedShop) (answer : Answer) → IsRunRefused at lines p answer → answer.status ≤ 1
low_run_refused at lines p answer (inl refused) = one_low answer.status refused.line.1
low_run_refused at lines p answer (inr past) = one_low answer.status past.line.1

low_state : (names : NameBook) (at : Option ℕ) (p : PlannedShop) (log : List ℕ) (answer : Answer) → IsStateLine names at p log answer → answer.status ≤ 1
low_state names at p log answer (inl run) = zero_low answer.status run.comes.good
low_state names at p log answer (inr refused) = low_run_refused at (ended_lines log) p answer refused

module _ (names : NameBook) where
  low_decision : (t : Case) (aim : Aim) (answer : Answer) → IsDecisionText names t aim answer → answer.status ≤ 1
  low_decision t aim answer (inl kept) = zero_low answer.status kept.text.ends
  low_decision t aim answer (inr (inl best)) = zero_low answer.status best.text.ends
  low_decision t aim answer (inr (inr (inl never))) = one_low answer.status never.refused
  low_decision t aim answer (inr (inr (inr (inl cyclic)))) = one_low answer.status cyclic.refused
  low_decision t aim answer (inr (inr (inr (inr left_open)))) = one_low answer.status left_open.refused

  low_decided : (t : Case) (aim : Aim) (outcome : Result Answer CommandFault) → IsDecisionAnswer names t aim outcome → IsLow outcome
  low_decided t aim (Ok answer) is = low_decision t aim answer is
  low_decided t aim (Err fault) is = tt

  low_decided_from : (aim : Aim) (p : PlannedShop) (c : Cell) (t : ℕ) (outcome : Result Answer CommandFault) → IsDecisionFrom names aim p c t outcome → IsLow outcome
  low_decided_from aim p c t (Ok answer) held = low_decision _ aim answer held.says
  low_decided_from aim p c t (Err fault) is = tt

  low_rest_decided : (at : Option ℕ) (lines : List (List ℕ)) (start : PlannedShop) (aim : Aim) (outcome : Result Answer CommandFault) → IsRestDecisionAnswer names at lines start aim outcome → IsLow outcome
  low_rest_decided at lines start aim outcome (inl run) = low_decided_from aim start run.cell run.present outcome run.comes
  low_rest_decided at lines start aim outcome (inr refused) = low_or (IsRunRefused at lines start) outcome (low_run_refused at lines start) refused

low_status : (best : PlannedShop) (status : ℕ) → IsStatusOf best status → status ≤ 1
low_status best status (inl accepted) = zero_low status accepted.1
low_status best status (inr late) = one_low status late.1

low_best : (made : SearchBy) (rounds : ℕ) (start : PlannedShop) (outcome : Result Answer CommandFault) → IsBestAnswer made rounds start outcome → IsLow outcome
low_best made rounds start (Ok answer) (inl text) = low_status text.best answer.status text.status
low_best made rounds start (Ok answer) (inr line) = one_low answer.status line.refused
low_best made rounds start (Err fault) is = tt

low_rest_answer : (made : SearchBy) (at : Option ℕ) (rounds : ℕ) (lines : List (List ℕ)) (start : PlannedShop) (outcome : Result Answer CommandFault)
    → IsRestAnswer made at rounds lines start outcome → IsLow outcome
low_rest_answer made at rounds lines start (Ok answer) (inl (few, inl run)) = elim run.comes [
  | inl text ↦ elim text.status [
    | inl good ↦ zero_low answer.status good.1
    | inr late ↦ one_low answer.status late.1
  ]
  | inr cycle ↦ one_low answer.status cycle.line.1
]
low_rest_answer made at rounds lines start (Ok answer) (inl (few, inr (inl refused))) = one_low answer.status refused.line.1
low_rest_answer made at rounds lines start (Ok answer) (inl (few, inr (inr past))) = one_low answer.status past.line.1
low_rest_answer made at rounds lines start (Ok answer) (inr many) = one_low answer.status many.refused
low_rest_answer made at rounds lines start (Err fault) is = tt

low_instance : (description : List ℕ) (shop : JobShop) (outcome : Result Answer CommandFault) → IsInstanceAnswer description shop outcome → IsLow outcome
low_instance description shop (Ok answer) (inl text) = zero_low answer.status text.good
low_instance description shop (Ok answer) (inr text) = zero_low answer.status text.1.good
low_instance description shop (Err fault) is = tt

low_document : (plan : ShopPlan) (outcome : Result Answer CommandFault) → IsDocumentAnswer plan 0 outcome → IsLow outcome
low_document plan (Ok answer) text = zero_low answer.status text.ends
low_document plan (Err fault) is = tt

low_chapter : (description : List ℕ) (changes : List Change) (book : NameBook) (named : Bool) (next : NextRun) (outcome : Result Answer CommandFault)
    → IsChapterAnswer description changes book named next outcome → IsLow outcome
low_chapter description changes book named next (Ok answer) text = zero_low answer.status text.good
low_chapter description changes book named next (Err fault) is = tt

low_printed : (prints : Revised) (description : List ℕ) (changes : List Change) (book : NameBook) (named : Bool) (next : NextRun) (outcome : Result Answer CommandFault)
    → IsPrintedAs prints description changes book named next outcome → IsLow outcome
low_printed PlanText description changes book named next outcome is = low_document next.shaped.plan outcome is
low_printed InstanceText description changes book named next outcome is = low_instance description next.shaped.shop outcome is
low_printed (LogText leaves_out hands_over) description changes book named next outcome is = low_chapter description changes book named next outcome is

-- where all changes are taken, and where one isn't
low_taken : (asked : AskedRevision) (description : List ℕ) (book : NameBook) (next : NextRun) (outcome : Result Answer CommandFault)
    → IsNamedAnswer asked description book next outcome ⊎ IsOrMemory (IsUnnamedAnswer asked book next asked.changes) outcome → IsLow outcome
low_taken asked description book next outcome (inl text) =
    low_printed asked.prints description asked.changes (names_given asked.called book next asked.changes) (is_some asked.names) next outcome text.printed
low_taken asked description book next outcome (inr unnamed) =
    low_or (IsUnnamedAnswer asked book next asked.changes) outcome (λ answer line. one_low answer.status line.line.refused) unnamed

low_behind : (asked : AskedRevision) (book : NameBook) (left : NextRun) (place : ℕ) (fault : ChangeFault) (answer : Answer) → IsRefusedBehind asked book left place fault answer → answer.status ≤ 1
low_behind asked book left place fault answer (inl shop) = one_low answer.status shop.line.refused
low_behind asked book left place fault answer (inr unnamed) = one_low answer.status unnamed.line.refused

low_run_revised : (asked : AskedRevision) (description : List ℕ) (book : NameBook) (p : PlannedShop) (log : List ℕ) (outcome : Result Answer CommandFault)
    → IsRunRevised asked description book p log outcome → IsLow outcome
low_run_revised asked description book p log outcome (inr refused) =
    low_or (IsRunRefused asked.at (ended_lines log) p) outcome (λ answer line. low_run_refused asked.at (ended_lines log) p answer line) refused
low_run_revised asked description book p log outcome (inl rest) = go rest.comes
  where
    go : IsRevisedRest asked description book p rest.cell rest.present (events_of rest.entries) outcome → IsLow outcome
    go (inl cycle) = low_or _ outcome (λ answer line. one_low answer.status line.line.1) cycle
    go (inr (none, inl made)) = low_taken asked description book made.next outcome made.named
    go (inr (none, inr refused)) =
        low_or (IsChangeRefused asked description book p rest.cell rest.present (events_of rest.entries)) outcome
        (λ answer line. low_behind asked book line.left line.place line.fault answer line.behind) refused

low_revised : (asked : AskedRevision) (description : List ℕ) (p : PlannedShop) (book : NameBook) (log : List ℕ) (outcome : Result Answer CommandFault)
    → IsReviseAnswer asked description p book log outcome → IsLow outcome
low_revised asked description p book log outcome (inl (misfit, is, line)) = low_or (IsMisfitLine misfit) outcome (λ answer said. one_low answer.status said.1) line
low_revised asked description p book log outcome (inr (inl (fits, is))) = low_run_revised asked description book p log outcome is
low_revised asked description p book log outcome (inr (inr no_memory)) = subst IsLow (sym no_memory) tt

pub low_line_of : (loaded : Loaded) (answer : Answer) → IsLineOf loaded answer → answer.status ≤ 1
low_line_of (NotShaped fault) answer is = one_low answer.status is.refused
low_line_of (Judged verdict) answer is = low_verdict verdict answer.status is.1

-- ---- pictures

-- the line in place of a picture
abbrev IsLowDrawn : Result Drawn CommandFault → Type 0
IsLowDrawn (Ok (LineDrawn answer)) = answer.status ≤ 1
IsLowDrawn (Ok (Picture picture status)) = status ≤ 1
IsLowDrawn (Err fault) = Unit {0}

low_drawn_failed : (fault : CommandFault) → IsLowDrawn (Err fault)
low_drawn_failed fault = tt

low_verdict_drawn : (names : NameBook) (p : PlannedShop) (c : Cell) (t : ℕ) (line : Option ℕ) (visits : List DrawnVisit) (verdict : JudgedRest) (drawn : Drawn) → IsVerdictDrawn names p c t line visits verdict drawn → IsLowDrawn (Ok drawn)
low_verdict_drawn names p c t line visits (InTime times) (Picture picture status) is = zero_low status is.1
low_verdict_drawn names p c t line visits (InTime times) (LineDrawn answer) none = absurd none
low_verdict_drawn names p c t line visits (NotInTime (Late job leaves chain times)) (Picture picture status) is = one_low status is.1
low_verdict_drawn names p c t line visits (NotInTime (Late job leaves chain times)) (LineDrawn answer) none = absurd none
low_verdict_drawn names p c t line visits (NotInTime (Cycle nodes)) (Picture picture status) none = absurd none
low_verdict_drawn names p c t line visits (NotInTime (Cycle nodes)) (LineDrawn answer) is = one_low answer.status is.1

low_rest_drawn : (names : NameBook) (p : PlannedShop) (c : Cell) (t : ℕ) (line : Option ℕ) (visits : List DrawnVisit) (drawn : Drawn) → IsRestDrawn names p c t line visits drawn → IsLowDrawn (Ok drawn)
low_rest_drawn names p c t line visits drawn is = low_verdict_drawn names p c t line visits is.verdict drawn is.is

low_rest_drawing : (names : NameBook) (at : Option ℕ) (p : PlannedShop) (log : Option (List ℕ)) (drawn : Result Drawn CommandFault) → IsOrMemory (IsRestDrawing names at p log) drawn → IsLowDrawn drawn
low_rest_drawing names at p None (Ok drawn) rest = low_rest_drawn names p _ 0 None [] drawn rest
low_rest_drawing names at p (Some log) (Ok drawn) (inl run) = low_rest_drawn names p run.cell run.present _ _ drawn run.comes
low_rest_drawing names at p (Some log) (Ok (LineDrawn answer)) (inr refused) = low_run_refused at (ended_lines log) p answer refused
low_rest_drawing names at p (Some log) (Ok (Picture picture status)) (inr none) = absurd none
low_rest_drawing names at p log (Err fault) is = tt

low_log_drawn : (names : NameBook) (p : PlannedShop) (log : List ℕ) (drawn : Result Drawn CommandFault) → IsOrMemory (IsLogDrawn names p log) drawn → IsLowDrawn drawn
low_log_drawn names p log (Ok (LineDrawn answer)) (inl none) = absurd none
low_log_drawn names p log (Ok (LineDrawn answer)) (inr refused) = one_low answer.status refused.line.1
low_log_drawn names p log (Ok (Picture picture status)) (inl is) = zero_low status is.1
low_log_drawn names p log (Ok (Picture picture status)) (inr none) = absurd none
low_log_drawn names p log (Err fault) is = tt

low_line_drawn : (Is : Answer → Type 0) → ((answer : Answer) → Is answer → answer.status ≤ 1) → (drawn : Result Drawn CommandFault) → IsOrMemory (IsLineAlone Is) drawn → IsLowDrawn drawn
low_line_drawn Is each (Ok (LineDrawn answer)) is = each answer is
low_line_drawn Is each (Ok (Picture picture status)) none = absurd none
low_line_drawn Is each (Err fault) is = tt

low_picture : (picture : List ℕ) (status : ℕ) (before after : Output) (outcome : Result Answer CommandFault) → status ≤ 1 → IsPictureOut picture status before after outcome → IsLow outcome
low_picture picture status before after (Ok answer) low is = subst (λ n. n ≤ 1) (sym is.1) low
low_picture picture status before after (Err fault) low is = tt

low_draws : (drawn : Result Drawn CommandFault) (before after : Streams) (outcome : Result Answer CommandFault) → IsLowDrawn drawn → Draws drawn before after outcome → IsLow outcome
low_draws (Ok (LineDrawn answer)) before after outcome low is = subst IsLow (sym is.0) low
low_draws (Ok (Picture picture status)) before after outcome low is = low_picture picture status before.output after.output outcome low is.1
low_draws (Err fault) before after outcome low is = subst IsLow (sym is.0) tt

-- ---- driving

low_at : (done : Bool) → status_at done ≤ 1
low_at true = omega arith
low_at false = omega arith

low_ended : (done : Bool) (outcome : Result Answer CommandFault) → IsEnded done outcome → IsLow outcome
low_ended done (Ok answer) is = subst (λ n. n ≤ 1) (sym is.1) (low_at done)
low_ended done (Err fault) is = tt

pub low_end : (done : Result Bool DriveFault) (outcome : Result Answer CommandFault) → IsEndAnswer done outcome → IsLow outcome
low_end (Ok done) outcome is = low_ended done outcome is
low_end (Err fault) outcome is = subst IsLow (sym is) tt

low_drives : (protocol : Protocol) (loaded : Result Loaded CommandFault) (before after : Streams) (outcome : Result Answer CommandFault) → Drives protocol loaded before after outcome → IsLow outcome
low_drives protocol (Err fault) before after outcome is = subst IsLow (sym is.0) tt
low_drives protocol (Ok (NotShaped fault)) before after outcome is = low_or (IsLineOf (NotShaped fault)) outcome (low_line_of (NotShaped fault)) is.0
low_drives protocol (Ok (Judged (Refused back why))) before after outcome is =
    low_or (IsLineOf (Judged (Refused back why))) outcome (low_line_of (Judged (Refused back why))) is.0
low_drives protocol (Ok (Judged (Accepted v))) before after outcome is = low_end (end_of_drive is.end) outcome is.answer

-- ---- recovery

pub low_log_fault : (fault : AuditFault) (outcome : Result Answer CommandFault) → IsLogFaultAnswer fault outcome → IsLow outcome
low_log_fault NoMemoryToAudit outcome is = subst IsLow (sym is) tt
low_log_fault (BadLine line) outcome is = low_or (IsFaultLine (BadLine line)) outcome (λ answer line. one_low answer.status line.1) is
low_log_fault (NotExpected line) outcome is = low_or (IsFaultLine (NotExpected line)) outcome (λ answer line. one_low answer.status line.1) is
low_log_fault (Backwards line) outcome is = low_or (IsFaultLine (Backwards line)) outcome (λ answer line. one_low answer.status line.1) is
low_log_fault (NotReady line) outcome is = low_or (IsFaultLine (NotReady line)) outcome (λ answer line. one_low answer.status line.1) is
low_log_fault (Occupied line) outcome is = low_or (IsFaultLine (Occupied line)) outcome (λ answer line. one_low answer.status line.1) is
low_log_fault (NotClean line) outcome is = low_or (IsFaultLine (NotClean line)) outcome (λ answer line. one_low answer.status line.1) is
low_log_fault (OutOfOrder line) outcome is = low_or (IsFaultLine (OutOfOrder line)) outcome (λ answer line. one_low answer.status line.1) is
low_log_fault (WrongPlace line) outcome is = low_or (IsFaultLine (WrongPlace line)) outcome (λ answer line. one_low answer.status line.1) is

pub low_unrecovered : (fault : ResumeFault) (outcome : Result Answer CommandFault) → IsUnrecoveredAnswer fault outcome → IsLow outcome
low_unrecovered NoMemoryToResume outcome is = subst IsLow (sym is) tt
low_unrecovered (Run (Log fault)) outcome is = low_log_fault fault outcome is
low_unrecovered (Run (Present (Past last))) outcome is = low_or (IsPastLine last) outcome (λ answer line. one_low answer.status line.1) is
low_unrecovered (Run (Present TooLarge)) outcome none = absurd none
low_unrecovered (RefusedRun back why) outcome is = low_or (IsLineOf (Judged (Refused back why))) outcome (low_line_of (Judged (Refused back why))) is

low_recovered : (protocol : Protocol) (recovered : Result Recovered ResumeFault) (before after : Streams) (outcome : Result Answer CommandFault) → ResumesRecovered protocol recovered before after outcome → IsLow outcome
low_recovered protocol (Ok t) before after outcome is = low_end (end_of_rest is.end) outcome is.answer
low_recovered protocol (Err fault) before after outcome is = low_unrecovered fault outcome is.0

low_text : (protocol : Protocol) (at : Option ℕ) (p : PlannedShop) (text : Result (List ℕ) CommandFault) (before after : Streams) (outcome : Result Answer CommandFault) → ResumesText protocol at p text before after outcome → IsLow outcome
low_text protocol at p (Ok text) before after outcome is = low_recovered protocol is.0 before after outcome is.2
low_text protocol at p (Err fault) before after outcome is = subst IsLow (sym is.0) tt

-- the line of a plan of a hub
abbrev IsLowLine : Result Cells CommandFault → Type 0
IsLowLine (Ok (Line answer)) = answer.status ≤ 1
IsLowLine (Ok (AllAccepted cells)) = Unit {0}
IsLowLine (Err fault) = Unit {0}

low_line_failed : (fault : CommandFault) → IsLowLine (Err fault)
low_line_failed fault = tt

low_cell_line : (number : ℕ) (loaded : Loaded) (outcome : Result Cells CommandFault) → ((line : Answer) → IsLineOf loaded line → line.status ≤ 1)
    → IsCellLine number loaded outcome → IsLowLine outcome
low_cell_line number loaded (Ok (Line answer)) each is = subst (λ n. n ≤ 1) (sym is.3) (each is.0 is.1)
low_cell_line number loaded (Ok (AllAccepted cells)) each is = tt
low_cell_line number loaded (Err fault) each is = tt

low_after_plan : {W : Type 0} (cells : List VerifiedPlan) (rest : List VerifiedPlan → W → Result Cells CommandFault → W → Type 0) (accepted : Result VerifiedPlan Loaded) (before : W) (outcome : Result Cells CommandFault) (after : W)
    → ((more : List VerifiedPlan) → rest more before outcome after → IsLowLine outcome) → AfterPlan cells rest accepted before outcome after → IsLowLine outcome
low_after_plan cells rest (Ok v) before outcome after each (inl on) = each _ on
low_after_plan cells rest (Ok v) before outcome after each (inr no_memory) = subst IsLowLine (sym no_memory.0) tt
low_after_plan cells rest (Err other) before outcome after each is = low_cell_line _ other outcome (low_line_of other) is.0

low_loaded : {W : Type 0} (gives : W → List ℕ → Result (List ℕ) CommandFault → W → Type 0) (text : List ℕ) (name : Option (List ℕ)) (cells : List VerifiedPlan) (paths : List (List ℕ))
    (before : W) (outcome : Result Cells CommandFault) (after : W) → LoadsEach gives text name cells paths before outcome after → IsLowLine outcome
low_loaded gives text name cells [] before (Ok (Line answer)) after is = absurd is.0
low_loaded gives text name cells [] before (Ok (AllAccepted all)) after is = tt
low_loaded gives text name cells [] before (Err fault) after is = tt
low_loaded gives text name cells (path ∷ paths) before outcome after is =
    held IsLowLine _ _ before outcome after low_line_failed
    (λ loaded mid on. low_after_plan cells (λ more. LoadsEach gives text name more paths) (accepted_in loaded) mid outcome after (λ more later. low_loaded gives text name more paths mid outcome after later) on) is

low_drives_all : (protocol : Protocol) (loaded : Result Cells CommandFault) (before after : Streams) (outcome : Result Answer CommandFault) → IsLowLine loaded → DrivesAll protocol loaded before after outcome → IsLow outcome
low_drives_all protocol (Err fault) before after outcome low is = subst IsLow (sym is.0) tt
low_drives_all protocol (Ok (Line answer)) before after outcome low is = subst IsLow (sym is.0) low
low_drives_all protocol (Ok (AllAccepted cells)) before after outcome low is = low_end (end_of_hub is.end) outcome is.answer

-- ---- the commands

low_said : (Is : Answer → Type 0) → ((answer : Answer) → Is answer → answer.status ≤ 1) → (outcome : Result Answer CommandFault) → IsOrMemory (Itself Is) outcome → IsLow outcome
low_said Is each outcome is = low_or Is outcome each is

-- what is asked of a run
module _ {W B : Type 0} (gives : W → List ℕ → Result (List ℕ) CommandFault → W → Type 0) (Line : (Answer → Type 0) → B → Type 0) (Low : Result B CommandFault → Type 0) (fails : (fault : CommandFault) → Low (Err fault))
    (lines : (Is : Answer → Type 0) → ((answer : Answer) → Is answer → answer.status ≤ 1) → (outcome : Result B CommandFault) → IsOrMemory (Line Is) outcome → Low outcome)
    (job : Option ℕ) (Comes : PlannedShop → NameBook → Option (List ℕ) → B → Type 0) (run : RunPaths)
    (each : (p : PlannedShop) (book : NameBook) (log : Option (List ℕ)) (outcome : Result B CommandFault) → IsOrMemory (Comes p book log) outcome → Low outcome) where
  low_of_log : (p : PlannedShop) (book : NameBook) (log : Option (List ℕ)) (mid : W) (outcome : Result B CommandFault) (after : W) → WithRun gives log (λ text. IsOrMemory (Comes p book text)) mid outcome after → Low outcome
  low_of_log p book None mid outcome after on = each p book None outcome on.0
  low_of_log p book (Some path) mid outcome after on = held Low _ (λ text. Concludes (IsOrMemory (Comes p book (Some text)))) mid outcome after fails (λ text last said. each p book (Some text) outcome said.0) on

  low_read : (p : PlannedShop) (mid : W) (outcome : Result B CommandFault) (after : W) → WithNamesAndRun gives run.names run.log p (λ book log. IsOrMemory (Comes p book log)) mid outcome after → Low outcome
  low_read p mid outcome after on =
      held Low _ (λ book. WithRun gives run.log (λ log. IsOrMemory (Comes p book log))) mid outcome after fails (λ book later goes. low_of_log p book run.log later outcome after goes) on

  low_there : (p : PlannedShop) (asked : Option ℕ) (mid : W) (outcome : Result B CommandFault) (after : W) → IfThereBy Line asked p (WithNamesAndRun gives run.names run.log p (λ book log. IsOrMemory (Comes p book log))) mid outcome after
      → Low outcome
  low_there p None mid outcome after on = low_read p mid outcome after on
  low_there p (Some j) mid outcome after (inl (few, on)) = low_read p mid outcome after on
  low_there p (Some j) mid outcome after (inr (many, said)) = lines (IsNoJobLine j) (λ answer line. one_low answer.status line.1) outcome said.0

  low_shaped : (p : PlannedShop) (mid : W) (outcome : Result B CommandFault) (after : W)
      → IfShapedBy Line p (IfThereBy Line job p (WithNamesAndRun gives run.names run.log p (λ book log. IsOrMemory (Comes p book log)))) mid outcome after → Low outcome
  low_shaped p mid outcome after (inl (shaped, on)) = low_there p job mid outcome after on
  low_shaped p mid outcome after (inr said) = lines (IsNotShapedLine p) (low_not_shaped p) outcome said.0

  low_asked : (texts : W) (outcome : Result B CommandFault) (after : W) → AsksOfRun gives Line job Comes run texts outcome after → Low outcome
  low_asked texts outcome after asks =
      held Low _ (λ p. IfShapedBy Line p (IfThereBy Line job p (WithNamesAndRun gives run.names run.log p (λ book log. IsOrMemory (Comes p book log))))) texts outcome after fails (λ p mid. low_shaped p mid outcome after) asks

-- where its log is given
low_on_log : {B : Type 0} (Low : Result B CommandFault → Type 0) (Is : List ℕ → B → Type 0) → ((fault : CommandFault) → Low (Err fault)) → ((log : List ℕ) (outcome : Result B CommandFault) → IsOrMemory (Is log) outcome → Low outcome)
    → (log : Option (List ℕ)) (outcome : Result B CommandFault) → IsOrMemory (OnLog Is log) outcome → Low outcome
low_on_log Low Is fails each (Some log) outcome is = each log outcome is
low_on_log Low Is fails each None (Ok b) is = absurd is
low_on_log Low Is fails each None (Err fault) is = fails fault

module _ {W : Type 0} (gives : W → List ℕ → Result (List ℕ) CommandFault → W → Type 0) where
  low_both : (inputs : InputPaths) (next : PlannedShop → W → Result Answer CommandFault → W → Type 0) (texts : W) (outcome : Result Answer CommandFault) (after : W)
      → ((p : PlannedShop) (mid : W) → next p mid outcome after → IsLow outcome) → WithBoth gives inputs next texts outcome after → IsLow outcome
  low_both inputs next texts outcome after each run = held IsLow _ next texts outcome after low_failed each run

  -- what comes of a plan that is well shaped
  low_if_shaped : (next : W → Result Answer CommandFault → W → Type 0) (p : PlannedShop) (mid : W) (outcome : Result Answer CommandFault) (after : W)
      → (next mid outcome after → IsLow outcome) → IfShaped gives p next mid outcome after → IsLow outcome
  low_if_shaped next p mid outcome after each (inl (shaped, run)) = each run
  low_if_shaped next p mid outcome after each (inr answered) = low_or (IsNotShapedLine p) outcome (low_not_shaped p) answered.0

  -- and where the job that is asked for is one of its shop
  low_if_there : (job : Option ℕ) (next : W → Result Answer CommandFault → W → Type 0) (p : PlannedShop) (mid : W) (outcome : Result Answer CommandFault) (after : W)
      → (next mid outcome after → IsLow outcome) → IfThere gives job p next mid outcome after → IsLow outcome
  low_if_there None next p mid outcome after each run = each run
  low_if_there (Some j) next p mid outcome after each (inl (few, run)) = each run
  low_if_there (Some j) next p mid outcome after each (inr (many, answered)) = low_or (IsNoJobLine j) outcome (λ answer line. one_low answer.status line.1) answered.0

  low_with_names : (Comes : NameBook → Result Answer CommandFault → Type 0) → ((book : NameBook) (outcome : Result Answer CommandFault) → Comes book outcome → IsLow outcome)
      → (names : Option (List ℕ)) (p : PlannedShop) (mid : W) (outcome : Result Answer CommandFault) (after : W) → WithNames gives names p Comes mid outcome after → IsLow outcome
  low_with_names Comes each names p mid outcome after run = held IsLow _ (λ book. Concludes (Comes book)) mid outcome after low_failed (λ book later on. each book outcome on.0) run

  low_asked_rest : (wanted : PlanAnswer) (run : RunPaths) (texts : W) (outcome : Result Answer CommandFault) (after : W) → RunsRest gives wanted run texts outcome after → IsLow outcome
  low_asked_rest wanted run texts outcome after runs =
      low_asked gives Itself IsLow low_failed low_said (job_asked wanted) (λ p book. IsRestLine book wanted run.at p) run (λ p book log answered. low_or (IsRestLine book wanted run.at p log) answered (low_rest book wanted run.at p log)) texts outcome after runs

  -- a line for a plan that is well shaped, with names
  low_named : (Is : NameBook → PlannedShop → Answer → Type 0) → ((book : NameBook) (p : PlannedShop) (answer : Answer) → Is book p answer → answer.status ≤ 1)
      → (inputs : InputPaths) (names : Option (List ℕ)) (texts : W) (outcome : Result Answer CommandFault) (after : W)
      → WithBoth gives inputs (λ p. IfShaped gives p (WithNames gives names p (λ book. IsOrMemory (Is book p)))) texts outcome after → IsLow outcome
  low_named Is each inputs names texts outcome after run =
      low_both inputs (λ p. IfShaped gives p (WithNames gives names p (λ book. IsOrMemory (Is book p)))) texts outcome after
      (λ p mid on. low_if_shaped (WithNames gives names p (λ book. IsOrMemory (Is book p))) p mid outcome after
      (low_with_names (λ book. IsOrMemory (Is book p)) (λ book answered. low_or (Is book p) answered (each book p)) names p mid outcome after) on) run

  low_logged : (wanted : LogAnswer) (inputs : InputPaths) (names : Option (List ℕ)) (log : List ℕ) (texts : W) (outcome : Result Answer CommandFault) (after : W) → RunsLog gives wanted inputs names log texts outcome after → IsLow outcome
  low_logged wanted inputs names log texts outcome after run =
      low_asked gives Itself IsLow low_failed low_said None (λ p book. OnLog (IsLogLine book wanted p)) (logged inputs names log)
      (λ p book. low_on_log IsLow (IsLogLine book wanted p) low_failed (λ text answered. low_or (IsLogLine book wanted p text) answered (low_log book wanted p text))) texts outcome after run

  low_stated : (inputs : InputPaths) (names : Option (List ℕ)) (log : List ℕ) (at : Option ℕ) (texts : W) (outcome : Result Answer CommandFault) (after : W) → RunsState gives inputs names log at texts outcome after → IsLow outcome
  low_stated inputs names log at texts outcome after run =
      low_asked gives Itself IsLow low_failed low_said None (λ p book. OnLog (IsStateLine book at p)) (logged inputs names log)
      (λ p book. low_on_log IsLow (IsStateLine book at p) low_failed (λ text answered. low_or (IsStateLine book at p text) answered (low_state book at p text))) texts outcome after run

  low_timetable : (form : Timetable) (run : RunPaths) (texts : W) (before : Streams) (outcome : Result Answer CommandFault) (texts_after : W) (after : Streams)
      → RunsTimetable gives form run texts before outcome texts_after after → IsLow outcome
  low_timetable ByMoments run texts before outcome texts_after after runs = low_asked_rest Moments run texts outcome texts_after runs.0
  low_timetable ByMoves run texts before outcome texts_after after runs =
      low_asked gives Itself IsLow low_failed low_said None (λ p book. AreMovesAhead book run.at p) run (λ p book log answered. low_or (AreMovesAhead book run.at p log) answered (low_ahead book run.at p log)) texts outcome texts_after runs.0
  low_timetable AsPicture run texts before outcome texts_after after runs =
      low_draws runs.drawn before after outcome
      (low_asked gives IsLineAlone IsLowDrawn low_drawn_failed low_line_drawn None (λ p book. IsRestDrawing book run.at p) run (λ p book log drawn. low_rest_drawing book run.at p log drawn) texts runs.drawn texts_after runs.came) runs.draws

  low_drawing : (svg : Bool) (inputs : InputPaths) (names : Option (List ℕ)) (log : List ℕ) (texts : W) (before : Streams) (outcome : Result Answer CommandFault) (texts_after : W) (after : Streams)
      → RunsDrawing gives svg inputs names log texts before outcome texts_after after → IsLow outcome
  low_drawing false inputs names log texts before outcome texts_after after run =
      low_logged Drawing inputs names log texts outcome texts_after run.0
  low_drawing true inputs names log texts before outcome texts_after after run =
      low_draws run.drawn before after outcome
      (low_asked gives IsLineAlone IsLowDrawn low_drawn_failed low_line_drawn None (λ p book. OnLog (IsLogDrawn book p)) (logged inputs names log)
      (λ p book. low_on_log IsLowDrawn (IsLogDrawn book p) low_drawn_failed (low_log_drawn book p)) texts run.drawn texts_after run.came) run.draws

  low_seeks : (rounds : ℕ) (inputs : InputPaths) (texts : W) (outcome : Result Answer CommandFault) (after : W)
      → SeeksPlan gives rounds inputs texts outcome after → IsLow outcome
  low_seeks rounds inputs texts outcome after (inl run) =
      low_both inputs (λ p. Concludes (IsSearchAnswer (search_by_two (task_in p)) rounds)) texts outcome after (λ p mid on. low_sought (search_by_two (task_in p)) rounds outcome on.0) run
  low_seeks rounds inputs texts outcome after (inr no_memory) = subst IsLow (sym no_memory.0) tt

  low_better : (made : SearchBy) (rounds : ℕ) (at : Option ℕ) (p : PlannedShop) (log : Option (List ℕ)) (mid : W) (outcome : Result Answer CommandFault) (after : W) → WithRun gives log (IsBetterAnswer made rounds at p) mid outcome after → IsLow outcome
  low_better made rounds at p None mid outcome after on = low_best made rounds p outcome on.0
  low_better made rounds at p (Some path) mid outcome after on =
      held IsLow _ (λ text. Concludes (IsRestAnswer made at rounds (ended_lines text) p)) mid outcome after low_failed (λ text later is. low_rest_answer made at rounds (ended_lines text) p outcome is.0) on

  low_improves : (rounds : ℕ) (run : RunPaths) (texts : W) (outcome : Result Answer CommandFault) (after : W) → Improves gives rounds run texts outcome after → IsLow outcome
  low_improves rounds run texts outcome after (inl runs) =
      low_both run.inputs (λ p. BettersPlan gives (AsksOne rounds) rounds run (ordered p)) texts outcome after
      (λ p mid on. low_if_shaped (WithRun gives run.log (IsBetterAnswer (AsksOne rounds) rounds run.at (ordered p))) (ordered p) mid outcome after
      (low_better (AsksOne rounds) rounds run.at (ordered p) run.log mid outcome after) on) runs
  low_improves rounds run texts outcome after (inr no_memory) = subst IsLow (sym no_memory.0) tt

  low_revises_shaped : (asked : AskedRevision) (description log : List ℕ) (p : PlannedShop) (mid : W) (outcome : Result Answer CommandFault) (after : W)
      → RevisesShaped gives asked description log p mid outcome after → IsLow outcome
  low_revises_shaped asked description log p mid outcome after run =
      held IsLow (ReadsNames gives asked.names p) (λ book. Then (Asks gives log) (λ text. Concludes (IsReviseAnswer asked description p book text))) mid outcome after low_failed
      (λ book later on. held IsLow (Asks gives log) (λ text. Concludes (IsReviseAnswer asked description p book text)) later outcome after low_failed
      (λ text last is. low_revised asked description p book text outcome is.0) on) run

  -- once the instance is read
  low_revises_read : (asked : AskedRevision) (description log : List ℕ) (shop : JobShop) (plan : List ℕ) (mid : W) (outcome : Result Answer CommandFault) (after : W)
      → Then (ReadsPlan gives plan) (λ (read : ShopPlan). IfShaped gives (record { shop = shop; plan = read }) (RevisesShaped gives asked description log (record { shop = shop; plan = read }))) mid outcome after → IsLow outcome
  low_revises_read asked description log shop plan mid outcome after run =
      held IsLow (ReadsPlan gives plan) (λ (read : ShopPlan). IfShaped gives (record { shop = shop; plan = read }) (RevisesShaped gives asked description log (record { shop = shop; plan = read }))) mid outcome after low_failed
      (λ (read : ShopPlan) later goes. low_if_shaped (RevisesShaped gives asked description log (record { shop = shop; plan = read })) (record { shop = shop; plan = read }) later outcome after
      (low_revises_shaped asked description log (record { shop = shop; plan = read }) later outcome after) goes) run

  low_runs_revise : (asked : AskedRevision) (inputs : InputPaths) (log : List ℕ) (texts : W) (outcome : Result Answer CommandFault) (after : W) → RunsRevise gives asked inputs log texts outcome after → IsLow outcome
  low_runs_revise asked inputs log texts outcome after run =
      held IsLow (ReadsInstance gives inputs.path inputs.name)
      (λ (named : Named). Then (ReadsPlan gives inputs.plan) (λ (read : ShopPlan). IfShaped gives (record { shop = named.shop; plan = read }) (RevisesShaped gives asked named.description.items log (record { shop = named.shop; plan = read }))))
      texts outcome after low_failed
      (λ (named : Named) mid on. low_revises_read asked named.description.items log named.shop inputs.plan mid outcome after on) run

  low_revises : (prints : Prints) (names : Option (List ℕ)) (at : Option ℕ) (changes : List AskedChange) (inputs : InputPaths) (log : List ℕ) (texts : W) (outcome : Result Answer CommandFault) (after : W)
      → Revises gives prints names at changes inputs log texts outcome after → IsLow outcome
  low_revises prints names at changes inputs log texts outcome after (inl run) =
      low_runs_revise (revision_asked prints names at changes run.changes) inputs log texts outcome after run.runs
  low_revises prints names at changes inputs log texts outcome after (inr no_memory) = subst IsLow (sym no_memory.0) tt

  -- what comes of a plan whose numbers are sound, with names
  low_sound : (Comes : NameBook → Result Answer CommandFault → Type 0) (names : Option (List ℕ)) (p : PlannedShop) (mid : W) (outcome : Result Answer CommandFault) (after : W)
      → ((book : NameBook) → Comes book outcome → IsLow outcome) → WithSoundNames gives Comes names p mid outcome after → IsLow outcome
  low_sound Comes names p mid outcome after each (inl (sound, is)) = held IsLow _ (λ book. Concludes (Comes book)) mid outcome after low_failed (λ book later on. each book on.0) is
  low_sound Comes names p mid outcome after each (inr answered) = low_or (IsBadNumbersLine p) outcome (λ answer line. one_low answer.status line.line.refused) answered.0

  low_run_decided : (aim : Aim) (at : Option ℕ) (book : NameBook) (p : PlannedShop) (log : Option (List ℕ)) (mid : W) (outcome : Result Answer CommandFault) (after : W) → WithRun gives log (IsRunDecision book aim at p) mid outcome after → IsLow outcome
  low_run_decided aim at book p None mid outcome after on = low_decided book (whole_case p) aim outcome on.0
  low_run_decided aim at book p (Some path) mid outcome after on =
      held IsLow _ (λ text. Concludes (IsRestDecisionAnswer book at (ended_lines text) p aim)) mid outcome after low_failed (λ text later is. low_rest_decided book at (ended_lines text) p aim outcome is.0) on

  low_decides : (aim : Aim) (run : RunPaths) (p : PlannedShop) (mid : W) (outcome : Result Answer CommandFault) (after : W) → DecidesPlan gives aim run p mid outcome after → IsLow outcome
  low_decides aim run p mid outcome after =
      low_if_there (job_of aim) (WithNamesAndRun gives run.names run.log p (λ book. IsRunDecision book aim run.at p)) p mid outcome after
      (held IsLow _ (λ book. WithRun gives run.log (IsRunDecision book aim run.at p)) mid outcome after low_failed (λ book later. low_run_decided aim run.at book p run.log later outcome after))

  low_fit : (aim : Aim) (run : RunPaths) (p : PlannedShop) (log : Option (List ℕ)) (mid : W) (outcome : Result Answer CommandFault) (after : W) → IfFit gives log p (DecidesPlan gives aim run) mid outcome after → IsLow outcome
  low_fit aim run p None mid outcome after (inl (sound, is)) = low_decides aim run (serially p) mid outcome after is
  low_fit aim run p None mid outcome after (inr said) = low_or (IsBadNumbersLine p) outcome (λ answer line. one_low answer.status line.line.refused) said.0
  low_fit aim run p (Some log) mid outcome after (inl (shaped, is)) = low_decides aim run (ordered p) mid outcome after is
  low_fit aim run p (Some log) mid outcome after (inr said) = low_or (IsUnfitLine (ordered p)) outcome (λ answer line. one_low answer.status line.line.refused) said.0

  low_resumes : (protocol : Protocol) (at : Option ℕ) (log : List ℕ) (shaped : Result (Result PlannedShop ShapeFault) CommandFault) (texts : W) (before : Streams) (outcome : Result Answer CommandFault) (texts_after : W) (after : Streams)
      → Resumes gives protocol at log shaped texts before outcome texts_after after → IsLow outcome
  low_resumes protocol at log (Err fault) texts before outcome texts_after after is = subst IsLow (sym is.0) tt
  low_resumes protocol at log (Ok (Err fault)) texts before outcome texts_after after is =
      low_or (IsLineOf (NotShaped fault)) outcome (low_line_of (NotShaped fault)) is.0
  low_resumes protocol at log (Ok (Ok p)) texts before outcome texts_after after is = low_text protocol at p is.text before after outcome is.resumes

  -- an answer of any command is a good one, or one that refuses
  pub low : (name : CommandName) (chosen : Chosen) (texts : W) (before : Streams) (outcome : Result Answer CommandFault) (texts_after : W) (after : Streams)
      → RunsCommand gives name chosen texts before outcome texts_after after → IsLow outcome
  low NoWords chosen texts before outcome texts_after after run =
      held IsLow _ (λ text. Concludes (AreFactsAnswered text None)) before.input outcome after.input low_failed (λ text mid on. low_facts text None outcome on.0) run.0
  low Facts chosen texts before outcome texts_after after run =
      held IsLow _ (λ text. Concludes (AreFactsAnswered text (name_in chosen))) texts outcome texts_after low_failed (λ text mid on. low_facts text (name_in chosen) outcome on.0) run.0
  low Shape chosen texts before outcome texts_after after run =
      low_both (inputs_in chosen) (λ p. Concludes (IsOrMemory (IsShapeLine p))) texts outcome texts_after (λ p mid on. low_or (IsShapeLine p) outcome (low_shape p) on.0) run.0
  low Check chosen texts before outcome texts_after after run = low_asked_rest OfVerdict (run_in chosen) texts outcome texts_after run.0
  low Explain chosen texts before outcome texts_after after run = low_asked_rest (Reasons chosen.job) (run_in chosen) texts outcome texts_after run.0
  low Schedule chosen texts before outcome texts_after after run = low_timetable (form_in chosen) (run_in chosen) texts before outcome texts_after after run
  low Bounds chosen texts before outcome texts_after after run =
      low_both (inputs_in chosen) (λ p. WithSoundNames gives (λ book. IsOrMemory (AreBoundLines book (times_of p) p.plan.budget)) (names_file chosen) p) texts outcome texts_after
      (λ p mid on. low_sound (λ book. IsOrMemory (AreBoundLines book (times_of p) p.plan.budget)) (names_file chosen) p mid outcome texts_after
      (λ book is. low_or (AreBoundLines book (times_of p) p.plan.budget) outcome (low_bounds book (times_of p) p.plan.budget) is) on) run.0
  low Margin chosen texts before outcome texts_after after run = low_named IsMarginAnswer low_margin (inputs_in chosen) (names_file chosen) texts outcome texts_after run.0
  low Plan chosen texts before outcome texts_after after run = low_seeks chosen.rounds _ texts outcome texts_after run.0
  low Decide chosen texts before outcome texts_after after run =
      low_both (inputs_in chosen) (λ p. IfFit gives (log_in chosen) p (DecidesPlan gives (aim_in chosen) (run_in chosen))) texts outcome texts_after
      (λ p mid on. low_fit (aim_in chosen) (run_in chosen) p (log_in chosen) mid outcome texts_after on) run.0
  low Improve chosen texts before outcome texts_after after run = low_improves chosen.rounds (run_in chosen) texts outcome texts_after run.0
  low Revise chosen texts before outcome texts_after after run = low_revises chosen.prints (names_file chosen) chosen.at chosen.changes.items (inputs_in chosen) (file_at chosen 2) texts outcome texts_after run.0
  low Drive chosen texts before outcome texts_after after run = low_drives (protocol_in chosen) run.loaded before after outcome run.drives
  low Resume chosen texts before outcome texts_after after run = low_resumes (protocol_in chosen) chosen.at _ run.shaped run.texts_mid before outcome texts_after after run.resumes
  low Hub chosen texts before outcome texts_after after run =
      low_drives_all (protocol_in chosen) run.loaded before after outcome
      (held IsLowLine _ (λ text. LoadsEach gives text (name_in chosen) [] (plans_in chosen)) texts run.loaded texts_after low_line_failed (λ text mid on. low_loaded gives text (name_in chosen) [] (plans_in chosen) mid run.loaded texts_after on) run.loads) run.drives
  low Digest chosen texts before outcome texts_after after run =
      low_both (inputs_in chosen) (λ p. Concludes (IsOrMemory (IsDigestAnswer p))) texts outcome texts_after (λ p mid on. low_or (IsDigestAnswer p) outcome (low_digest p) on.0) run.0
  low Audit chosen texts before outcome texts_after after run =
      low_logged Numbers (inputs_in chosen) None (file_at chosen 2) texts outcome texts_after run.0
  low State chosen texts before outcome texts_after after run = low_stated (inputs_in chosen) (names_file chosen) (file_at chosen 2) chosen.at texts outcome texts_after run.0
  low Gantt chosen texts before outcome texts_after after run = low_drawing chosen.svg (inputs_in chosen) (names_file chosen) (file_at chosen 2) texts before outcome texts_after after run
