-- What good files are answered by, where they don't change.
use Rattle.std.specs.Prelude.{unwrap_or}
use Rattle.std.proofs.Common.{◌≡◌, ℕ, ◌<◌, ◌≤◌, arith, ◌++◌, List, [], ◌∷◌, ◌⊎◌, Option, None, Result, Ok, Err, inl, inr, ap, sym, ◌∙◌, subst, refl}
use Rattle.shop_base.specs.Shop.{JobShop}
use Rattle.shop_base.specs.declared.shape_fault.ShapeFault.{ShapeFault}
use Rattle.shop_base.specs.Plan.{ShopPlan, PlannedShop, IsWellShaped}
use Rattle.shop_base.specs.{Cell.Cell, Run.IsRun}
use Rattle.shop_base.proofs.Cycles.{ranks_exclude_cycle}
use Rattle.shop_base.proofs.Refusals.{shape_fault_refutes}
use Rattle.orlib_read.specs.declared.named.Named.{Named}
use Rattle.text_lines.specs.Lines.{ended_lines}
use Rattle.alt_graph.specs.Times.{AreRanks, rank_of}
use Rattle.plan_verifier.specs.Accepted.{VerifiedPlan, HasNoCycle, IsAcceptable}
use Rattle.plan_verifier.specs.declared.verdict.Why.{Why}
use Rattle.plan_verifier.specs.declared.verdict.Why.TheVariants.{Cycle, Late}
use Rattle.plan_verifier.specs.Verdicts.{IsReason}
use Rattle.plan_verifier.specs.declared.verdict.Verdict.TheVariants.{Accepted, Refused}
use Rattle.plan_verifier.proofs.Reasons.{reason_refutes}
use Rattle.plan_seek.specs.Tasks.{task_in}
use Rattle.cell_tables.specs.declared.entry.Entry.{Entry}
use Rattle.cell_tables.specs.Events.{events_of}
use Rattle.event_lines.specs.LogLines.{LinesParse}
use Rattle.event_lines.proofs.Readings.{one_reading}
use Rattle.run_log.proofs.Audits.{first_bad-no_run}
use Rattle.cell_drive.specs.declared.protocol.Protocol.{Protocol}
use Rattle.cell_drive.specs.declared.resume_fault.ResumeFault.{ResumeFault}
use Rattle.cell_drive.specs.declared.resume_fault.ResumeFault.TheVariants.{Run, Refused as RefusedRun, Memory as OutOfMemory}
use Rattle.cell_tables.specs.declared.present_fault.PresentFault.TheVariants.{Past, TooLarge}
use Rattle.run_log.specs.declared.present_run.RunFault.TheVariants.{Log, Present}
use Rattle.cell_drive.proofs.Recovering.{past_before}
use Rattle.cell_drive.specs.OneRun.{cell_after}
use Rattle.cell_drive.specs.Recovered.{Recovered, IsRecovered}
use Rattle.cell_drive.specs.ResumeFaults.{IsResumeFault, IsRefusedFor}
use Rattle.people_names.specs.NameBooks.{NameBook, no_names}
use Rattle.plan_bounds.specs.Bounds.{times_of}
use Rattle.command_answers.specs.declared.answer.Answer.{Answer}
use Rattle.command_answers.specs.declared.loading.Loaded.{Loaded}
use Rattle.command_answers.specs.declared.loading.Loaded.TheVariants.{NotShaped, Judged}
use Rattle.command_answers.specs.declared.command_fault.CommandFault.{CommandFault}
use Rattle.command_answers.specs.declared.command_fault.CommandFault.TheVariants.{Memory}
use Rattle.command_answers.specs.declared.pictures.Drawn.{Drawn}
use Rattle.command_answers.specs.Instances.{ParsesAs}
use Rattle.command_answers.specs.Facts.{AreFacts}
use Rattle.command_answers.specs.Steps.{Then, AndThen, Concludes, IsOrMemory}
use Rattle.command_answers.specs.Texts.{Asks}
use Rattle.command_answers.specs.Parsed.{IsInstanceRead, IsPlanRead, AreFactsAnswered}
use Rattle.command_answers.specs.Shapes.{IsNotShapedLine, IsShapedOrNot}
use Rattle.command_answers.specs.Checks.{IsLoaded, IsCheckLine}
use Rattle.command_answers.specs.Search.{IsSearchAnswer}
use Rattle.command_answers.specs.Commands.{InputPaths, IfShaped, ReadsPlan, ReadsBoth, WithBoth, WithNames, WithSoundNames, RunsBounds, RunsFacts}
use Rattle.command_answers.specs.BoundLines.{AreBoundLines, AreBounds}
use Rattle.command_answers.specs.Serial.{serially}
use Rattle.command_answers.proofs.CheckLines.{line_of_loaded}
use Rattle.command_answers.proofs.Unnamed.{unnamed}
use Rattle.command_run.specs.Streams.{Streams}
use Rattle.command_run.specs.Planners.{search_by_two, SeeksPlan}
use Rattle.command_run.specs.Pictures.{Draws}
use Rattle.command_run.specs.Drives.{DrivesCell, Drives, IsLineAnswer}
use Rattle.command_run.specs.Resumes.{IsUnrecoveredAnswer, ResumesText, Resumes}
use Rattle.command_run.specs.Program.{RunsDrive, RunsResume}
use Rattle.command_run.specs.Laws.{Shelf, ParseAsPlan, IsAnswerOfFiles, IsDrawn, IsNoPlanFor}

-- the answer is one of these, or memory ran out
pub answered : {A : Type 0} (Is : A → Type 0) (files : List (List ℕ)) (outcome : Result A CommandFault) (asked : List (List ℕ)) → IsOrMemory Is outcome → asked ≡ files → IsAnswerOfFiles Is files outcome asked
answered Is files (Ok a) asked is same = (is, same)
answered Is files (Err fault) asked is same = is

pub no_memory : {A : Type 0} (Is : A → Type 0) (files : List (List ℕ)) (outcome : Result A CommandFault) (asked : List (List ℕ)) → outcome ≡ Err Memory → IsAnswerOfFiles Is files outcome asked
no_memory Is files outcome asked is = subst (λ r. IsAnswerOfFiles Is files r asked) (sym is) refl

-- what came was drawn
pub came_drawn : (Is : Drawn → Type 0) (files : List (List ℕ)) (drawn : Result Drawn CommandFault) (before after : Streams) (outcome : Result Answer CommandFault) (asked : List (List ℕ))
    → IsAnswerOfFiles Is files drawn asked → Draws drawn before after outcome → IsDrawn Is files before outcome asked after
came_drawn Is files (Ok drawn) before after outcome asked is draws = inl (is.1, (drawn, is.0, draws))
came_drawn Is files (Err fault) before after outcome asked is draws = inr (draws.0 ∙ ap Err is, draws.1)

module _ (content : List ℕ → Result (List ℕ) CommandFault) where
  -- a file that is there was asked for, and what it gives was read
  pub asked_and_read : {A : Type 0} (Is : List ℕ → Result A CommandFault → Type 0) (path text : List ℕ) → content path ≡ Ok text → (before : List (List ℕ)) (came : Result (List ℕ) CommandFault) (mid : List (List ℕ))
      (read : Result A CommandFault) (after : List (List ℕ)) → Asks (Shelf content) path before came mid → AndThen (λ t. Concludes (Is t)) came mid read after → Is text read × (after ≡ before ++ path ∷ [])
  asked_and_read Is path text is before (Ok t) mid read after given on =
      let same : t ≡ text = (let both : Ok t ≡ Ok text = given.0 ∙ is in cc both) in
      (subst (λ x. Is x read) same on.0, on.1 ∙ given.1)
  asked_and_read Is path text is before (Err f) mid read after given on = absurd (let both : Err f ≡ Ok text = given.1.0 ∙ is in cc both)

  facts_answered : (path : List ℕ) (text description : List ℕ) (name : Option (List ℕ)) (shop : JobShop) (outcome : Result Answer CommandFault) (asked : List (List ℕ)) → ParsesAs text name description shop
      → AreFactsAnswered text name outcome → asked ≡ path ∷ [] → IsAnswerOfFiles (λ answer. AreFacts answer shop) (path ∷ []) outcome asked
  facts_answered path text description name shop (Ok answer) asked parses are same = (are.only description shop parses, same)
  facts_answered path text description name shop (Err fault) asked parses are same = are.only description shop parses

  pub good_facts : (path text description : List ℕ) (name : Option (List ℕ)) (shop : JobShop) (outcome : Result Answer CommandFault) (asked : List (List ℕ)) → content path ≡ Ok text → ParsesAs text name description shop
      → RunsFacts (Shelf content) path name [] outcome asked → IsAnswerOfFiles (λ answer. AreFacts answer shop) (path ∷ []) outcome asked
  good_facts path text description name shop outcome asked is parses run =
      let read = asked_and_read (λ t. AreFactsAnswered t name) path text is [] run.came run.mid outcome asked run.is run.goes_on in
      facts_answered path text description name shop outcome asked parses read.0 read.1

module _ (content : List ℕ → Result (List ℕ) CommandFault) (inputs : InputPaths) (p : PlannedShop) (good : ParseAsPlan content inputs p) where
  -- the plan's text gives its plan
  plan_came : (shop : JobShop) (came : Result ShopPlan CommandFault) (mid : List (List ℕ)) (read : Result PlannedShop CommandFault) (asked : List (List ℕ)) → shop ≡ p.shop → IsPlanRead good.plan came
      → mid ≡ inputs.path ∷ inputs.plan ∷ [] → AndThen (λ plan. Concludes (λ r. r ≡ Ok (record { shop = shop; plan = plan }))) came mid read asked → IsAnswerOfFiles (λ q. q ≡ p) (inputs.path ∷ inputs.plan ∷ []) read asked
  plan_came shop (Ok plan) mid read asked same_shop is files on =
      let same_plan : plan ≡ p.plan = is.only p.plan good.parsed.plan in
      let of_shop : JobShop → PlannedShop = λ s. record { shop = s; plan = plan } in
      let of_plan : ShopPlan → PlannedShop = λ q. record { shop = p.shop; plan = q } in
      let same : of_shop shop ≡ p = ap of_shop same_shop ∙ ap of_plan same_plan in
      subst (λ r. IsAnswerOfFiles (λ q. q ≡ p) (inputs.path ∷ inputs.plan ∷ []) r asked) (sym on.0) (same, on.1 ∙ files)
  plan_came shop (Err f) mid read asked same_shop is files on = no_memory _ _ read asked (on.0 ∙ ap Err (is.only p.plan good.parsed.plan))

  -- so does the instance's text give its shop
  instance_came : (came : Result Named CommandFault) (mid : List (List ℕ)) (read : Result PlannedShop CommandFault) (asked : List (List ℕ)) → IsInstanceRead good.instance inputs.name came → mid ≡ inputs.path ∷ []
      → AndThen (λ named. Then (ReadsPlan (Shelf content) inputs.plan) (λ plan. Concludes (λ r. r ≡ Ok (record { shop = named.shop; plan = plan })))) came mid read asked
      → IsAnswerOfFiles (λ q. q ≡ p) (inputs.path ∷ inputs.plan ∷ []) read asked
  instance_came (Ok named) mid read asked is files on =
      let same_shop = (is.only good.parsed.description p.shop good.parsed.shop).1 in
      let plan = asked_and_read content (λ t. IsPlanRead t) inputs.plan good.plan good.plan_is mid on.is.came on.is.mid on.came on.mid on.is.is on.is.goes_on in
      plan_came named.shop on.came on.mid read asked same_shop plan.0 (plan.1 ∙ ap (λ ps. ps ++ inputs.plan ∷ []) files) on.goes_on
  instance_came (Err f) mid read asked is files on = no_memory _ _ read asked (on.0 ∙ ap Err (is.only good.parsed.description p.shop good.parsed.shop))

  both_come : (read : Result PlannedShop CommandFault) (asked : List (List ℕ)) → ReadsBoth (Shelf content) inputs [] read asked → IsAnswerOfFiles (λ q. q ≡ p) (inputs.path ∷ inputs.plan ∷ []) read asked
  both_come read asked run =
      let instance = asked_and_read content (λ t. IsInstanceRead t inputs.name) inputs.path good.instance good.instance_is [] run.is.came run.is.mid run.came run.mid run.is.is run.is.goes_on in
      instance_came run.came run.mid read asked instance.0 instance.1 run.goes_on

  goes_with : {A : Type 0} (next : PlannedShop → List (List ℕ) → Result A CommandFault → List (List ℕ) → Type 0) (came : Result PlannedShop CommandFault) (mid : List (List ℕ)) (outcome : Result A CommandFault) (asked : List (List ℕ))
      → IsAnswerOfFiles (λ q. q ≡ p) (inputs.path ∷ inputs.plan ∷ []) came mid → AndThen next came mid outcome asked → next p (inputs.path ∷ inputs.plan ∷ []) outcome asked ⊎ (outcome ≡ Err Memory)
  goes_with next (Ok q) mid outcome asked is on = inl (subst (λ x. next x (inputs.path ∷ inputs.plan ∷ []) outcome asked) is.0 (subst (λ files. next q files outcome asked) is.1 on))
  goes_with next (Err f) mid outcome asked is on = inr (on.0 ∙ ap Err is)

  -- after both files comes the next step with this plan
  pub with_both : {A : Type 0} (next : PlannedShop → List (List ℕ) → Result A CommandFault → List (List ℕ) → Type 0) (outcome : Result A CommandFault) (asked : List (List ℕ)) → WithBoth (Shelf content) inputs next [] outcome asked
      → next p (inputs.path ∷ inputs.plan ∷ []) outcome asked ⊎ (outcome ≡ Err Memory)
  with_both next outcome asked run = goes_with next run.came run.mid outcome asked (both_come run.came run.mid run.is) run.goes_on

  parsed_answered : {A : Type 0} (Is : A → Type 0) (outcome : Result A CommandFault) (asked : List (List ℕ)) → Concludes (IsOrMemory Is) (inputs.path ∷ inputs.plan ∷ []) outcome asked ⊎ (outcome ≡ Err Memory)
      → IsAnswerOfFiles Is (inputs.path ∷ inputs.plan ∷ []) outcome asked
  parsed_answered Is outcome asked (inl concluded) = answered Is _ outcome asked concluded.0 concluded.1
  parsed_answered Is outcome asked (inr none) = no_memory Is _ outcome asked none

  pub good_plan : {A : Type 0} (Is : PlannedShop → A → Type 0) (outcome : Result A CommandFault) (asked : List (List ℕ)) → WithBoth (Shelf content) inputs (λ q. Concludes (IsOrMemory (Is q))) [] outcome asked
      → IsAnswerOfFiles (Is p) (inputs.path ∷ inputs.plan ∷ []) outcome asked
  good_plan Is outcome asked run = parsed_answered (Is p) outcome asked (with_both (λ q. Concludes (IsOrMemory (Is q))) outcome asked run)

  -- `bounds` without names
  unnamed_bounds : (outcome : Result Answer CommandFault) (before asked : List (List ℕ)) → WithSoundNames (Shelf content) (λ book. IsOrMemory (AreBoundLines book (times_of p) p.plan.budget)) None p before outcome asked
      → Concludes (IsOrMemory (AreBounds p)) before outcome asked
  unnamed_bounds (Ok answer) before asked (inl (sound, run)) =
      let concluded = unnamed (λ book. Concludes (IsOrMemory (AreBoundLines book (times_of p) p.plan.budget))) before asked (Ok answer) (Shelf content) (serially p) run in (inl (sound, concluded.0), concluded.1)
  unnamed_bounds (Err fault) before asked (inl (sound, run)) = unnamed (λ book. Concludes (IsOrMemory (AreBoundLines book (times_of p) p.plan.budget))) before asked (Err fault) (Shelf content) (serially p) run
  unnamed_bounds (Ok answer) before asked (inr concluded) = (inr concluded.0, concluded.1)
  unnamed_bounds (Err fault) before asked (inr concluded) = concluded

  bounds_answered : (outcome : Result Answer CommandFault) (asked : List (List ℕ)) → WithSoundNames (Shelf content) (λ book. IsOrMemory (AreBoundLines book (times_of p) p.plan.budget)) None p (inputs.path ∷ inputs.plan ∷ []) outcome asked ⊎ (outcome ≡ Err Memory)
      → IsAnswerOfFiles (AreBounds p) (inputs.path ∷ inputs.plan ∷ []) outcome asked
  bounds_answered outcome asked (inl run) = parsed_answered (AreBounds p) outcome asked (inl (unnamed_bounds outcome (inputs.path ∷ inputs.plan ∷ []) asked run))
  bounds_answered outcome asked (inr none) = parsed_answered (AreBounds p) outcome asked (inr none)

  pub good_bounds : (outcome : Result Answer CommandFault) (asked : List (List ℕ)) → RunsBounds (Shelf content) inputs None [] outcome asked → IsAnswerOfFiles (AreBounds p) (inputs.path ∷ inputs.plan ∷ []) outcome asked
  good_bounds outcome asked run =
      bounds_answered outcome asked (with_both (λ q. WithSoundNames (Shelf content) (λ book. IsOrMemory (AreBoundLines book (times_of q) q.plan.budget)) None q) outcome asked run)

  -- without names
  named_answered : (Is : NameBook → PlannedShop → Answer → Type 0) (outcome : Result Answer CommandFault) (before asked : List (List ℕ))
      → IfShaped (Shelf content) p (WithNames (Shelf content) None p (λ book. IsOrMemory (Is book p))) before outcome asked
      → Concludes (IsOrMemory (λ answer. IsNotShapedLine p answer ⊎ Is no_names p answer)) before outcome asked
  named_answered Is (Ok answer) before asked (inl (shaped, run)) = let concluded = unnamed (λ book. Concludes (IsOrMemory (Is book p))) before asked (Ok answer) (Shelf content) p run in (inr concluded.0, concluded.1)
  named_answered Is (Err fault) before asked (inl (shaped, run)) = unnamed (λ book. Concludes (IsOrMemory (Is book p))) before asked (Err fault) (Shelf content) p run
  named_answered Is (Ok answer) before asked (inr concluded) = (inl concluded.0, concluded.1)
  named_answered Is (Err fault) before asked (inr concluded) = concluded

  named_came : (Is : NameBook → PlannedShop → Answer → Type 0) (outcome : Result Answer CommandFault) (asked : List (List ℕ))
      → IfShaped (Shelf content) p (WithNames (Shelf content) None p (λ book. IsOrMemory (Is book p))) (inputs.path ∷ inputs.plan ∷ []) outcome asked ⊎ (outcome ≡ Err Memory)
      → IsAnswerOfFiles (λ answer. IsNotShapedLine p answer ⊎ Is no_names p answer) (inputs.path ∷ inputs.plan ∷ []) outcome asked
  named_came Is outcome asked (inl run) = parsed_answered (λ answer. IsNotShapedLine p answer ⊎ Is no_names p answer) outcome asked (inl (named_answered Is outcome (inputs.path ∷ inputs.plan ∷ []) asked run))
  named_came Is outcome asked (inr none) = parsed_answered (λ answer. IsNotShapedLine p answer ⊎ Is no_names p answer) outcome asked (inr none)

  pub good_named : (Is : NameBook → PlannedShop → Answer → Type 0) (outcome : Result Answer CommandFault) (asked : List (List ℕ))
      → WithBoth (Shelf content) inputs (λ q. IfShaped (Shelf content) q (WithNames (Shelf content) None q (λ book. IsOrMemory (Is book q)))) [] outcome asked
      → IsAnswerOfFiles (λ answer. IsNotShapedLine p answer ⊎ Is no_names p answer) (inputs.path ∷ inputs.plan ∷ []) outcome asked
  good_named Is outcome asked run = named_came Is outcome asked (with_both (λ q. IfShaped (Shelf content) q (WithNames (Shelf content) None q (λ book. IsOrMemory (Is book q)))) outcome asked run)

  pub good_search : (rounds : ℕ) (outcome : Result Answer CommandFault) (asked : List (List ℕ)) → SeeksPlan (Shelf content) rounds inputs [] outcome asked
      → (IsSearchAnswer (search_by_two (task_in p)) rounds outcome × (asked ≡ inputs.path ∷ inputs.plan ∷ [])) ⊎ (outcome ≡ Err Memory)
  good_search rounds outcome asked (inl run) = with_both (λ q. Concludes (IsSearchAnswer (search_by_two (task_in q)) rounds)) outcome asked run
  good_search rounds outcome asked (inr none) = inr none.0

  -- ---- what follows what is to be said of the plan

  -- an accepted plan drives its cell
  loaded_drives : (protocol : Protocol) (loaded : Result Loaded CommandFault) (asked : List (List ℕ)) (before after : Streams) (outcome : Result Answer CommandFault) → IsWellShaped p → IsAcceptable p
      → IsAnswerOfFiles (IsLoaded p) (inputs.path ∷ inputs.plan ∷ []) loaded asked → Drives protocol loaded before after outcome
      → ((asked ≡ inputs.path ∷ inputs.plan ∷ []) × ((v : VerifiedPlan) × (v.planned ≡ p) × DrivesCell protocol v before after outcome)) ⊎ ((outcome ≡ Err Memory) × (after ≡ before))
  loaded_drives protocol (Err fault) asked before after outcome shaped acceptable is drives = inr (drives.0 ∙ ap Err is, drives.1)
  loaded_drives protocol (Ok (NotShaped fault)) asked before after outcome shaped acceptable is drives = absurd (shape_fault_refutes p fault is.0 shaped)
  loaded_drives protocol (Ok (Judged (Refused back why))) asked before after outcome shaped acceptable is drives = absurd (reason_refutes p why is.0.refused.1 acceptable)
  loaded_drives protocol (Ok (Judged (Accepted v))) asked before after outcome shaped acceptable is drives = inl (is.1, (v, is.0.accepted.0, drives))

  pub good_drive : (protocol : Protocol) (before after : Streams) (outcome : Result Answer CommandFault) (asked : List (List ℕ)) → IsWellShaped p → IsAcceptable p → RunsDrive (Shelf content) protocol inputs [] before outcome asked after
      → ((asked ≡ inputs.path ∷ inputs.plan ∷ []) × ((v : VerifiedPlan) × (v.planned ≡ p) × DrivesCell protocol v before after outcome)) ⊎ ((outcome ≡ Err Memory) × (after ≡ before))
  good_drive protocol before after outcome asked shaped acceptable run =
      loaded_drives protocol run.loaded asked before after outcome shaped acceptable (good_plan IsLoaded run.loaded asked run.loads) run.drives

  -- the text of the log that came is recovered
  log_resumes : (protocol : Protocol) (at : Option ℕ) (log text : List ℕ) (came : Result (List ℕ) CommandFault) (mid asked : List (List ℕ)) (before after : Streams) (outcome : Result Answer CommandFault) → content log ≡ Ok text
      → mid ≡ inputs.path ∷ inputs.plan ∷ [] → Asks (Shelf content) log mid came asked → ResumesText protocol at p came before after outcome
      → (asked ≡ inputs.path ∷ inputs.plan ∷ log ∷ []) × ResumesText protocol at p (Ok text) before after outcome
  log_resumes protocol at log text (Ok t) mid asked before after outcome is files given resumes =
      let same : t ≡ text = (let both : Ok t ≡ Ok text = given.0 ∙ is in cc both) in
      (given.1 ∙ ap (λ (paths : List (List ℕ)). paths ++ log ∷ []) files, subst (λ (x : List ℕ). ResumesText protocol at p (Ok x) before after outcome) same resumes)
  log_resumes protocol at log text (Err f) mid asked before after outcome is files given resumes = absurd (let both : Err f ≡ Ok text = given.1.0 ∙ is in cc both)

  -- a well-shaped plan has its log asked for
  shaped_resumes : (protocol : Protocol) (at : Option ℕ) (log text : List ℕ) (shaped : Result (Result PlannedShop ShapeFault) CommandFault) (mid asked : List (List ℕ)) (before after : Streams) (outcome : Result Answer CommandFault) → content log ≡ Ok text → IsWellShaped p
      → IsAnswerOfFiles (IsShapedOrNot p) (inputs.path ∷ inputs.plan ∷ []) shaped mid → Resumes (Shelf content) protocol at log shaped mid before outcome asked after
      → ((asked ≡ inputs.path ∷ inputs.plan ∷ log ∷ []) × ResumesText protocol at p (Ok text) before after outcome) ⊎ ((outcome ≡ Err Memory) × (after ≡ before))
  shaped_resumes protocol at log text (Err fault) mid asked before after outcome came well is resumes = inr (resumes.0 ∙ ap Err is, resumes.1)
  shaped_resumes protocol at log text (Ok (Err fault)) mid asked before after outcome came well is resumes = absurd (shape_fault_refutes p fault is.0 well)
  shaped_resumes protocol at log text (Ok (Ok q)) mid asked before after outcome came well is resumes =
      let of_plan : ResumesText protocol at p resumes.text before after outcome = subst (λ (x : PlannedShop). ResumesText protocol at x resumes.text before after outcome) is.0.0 resumes.resumes in
      inl (log_resumes protocol at log text resumes.text mid asked before after outcome came is.1 resumes.asks of_plan)

  pub good_resume : (protocol : Protocol) (at : Option ℕ) (before after : Streams) (log text : List ℕ) (outcome : Result Answer CommandFault) (asked : List (List ℕ)) → IsWellShaped p → content log ≡ Ok text
      → RunsResume (Shelf content) protocol at inputs log [] before outcome asked after
      → ((asked ≡ inputs.path ∷ inputs.plan ∷ log ∷ []) × ResumesText protocol at p (Ok text) before after outcome) ⊎ ((outcome ≡ Err Memory) × (after ≡ before))
  good_resume protocol at before after log text outcome asked well is run =
      shaped_resumes protocol at log text run.shaped run.texts_mid asked before after outcome is well (good_plan IsShapedOrNot run.shaped run.texts_mid run.shapes) run.resumes

  -- ---- plans that aren't accepted

  -- the line of such a plan is that of `check`
  line_answered : (loaded : Loaded) (outcome : Result Answer CommandFault) (asked : List (List ℕ)) → IsLoaded p loaded → asked ≡ inputs.path ∷ inputs.plan ∷ [] → IsLineAnswer loaded outcome
      → IsAnswerOfFiles (IsCheckLine p) (inputs.path ∷ inputs.plan ∷ []) outcome asked
  line_answered loaded (Ok answer) asked is files line = (line_of_loaded p loaded answer is line, files)
  line_answered loaded (Err fault) asked is files line = line

  drives_no_cell : (protocol : Protocol) (loaded : Result Loaded CommandFault) (asked : List (List ℕ)) (before after : Streams) (outcome : Result Answer CommandFault) → (IsWellShaped p → IsAcceptable p → ⊥)
      → IsAnswerOfFiles (IsLoaded p) (inputs.path ∷ inputs.plan ∷ []) loaded asked → Drives protocol loaded before after outcome → IsAnswerOfFiles (IsCheckLine p) (inputs.path ∷ inputs.plan ∷ []) outcome asked × (after ≡ before)
  drives_no_cell protocol (Err fault) asked before after outcome never is drives = (no_memory (IsCheckLine p) _ outcome asked (drives.0 ∙ ap Err is), drives.1)
  drives_no_cell protocol (Ok (NotShaped fault)) asked before after outcome never is drives = (line_answered (NotShaped fault) outcome asked is.0 is.1 drives.0, drives.1)
  drives_no_cell protocol (Ok (Judged (Refused back why))) asked before after outcome never is drives = (line_answered (Judged (Refused back why)) outcome asked is.0 is.1 drives.0, drives.1)
  drives_no_cell protocol (Ok (Judged (Accepted v))) asked before after outcome never is drives = absurd (never is.0.well_shaped is.0.accepted.1)

  pub no_drive : (protocol : Protocol) (before after : Streams) (outcome : Result Answer CommandFault) (asked : List (List ℕ)) → (IsWellShaped p → IsAcceptable p → ⊥) → RunsDrive (Shelf content) protocol inputs [] before outcome asked after
      → IsAnswerOfFiles (IsCheckLine p) (inputs.path ∷ inputs.plan ∷ []) outcome asked × (after ≡ before)
  no_drive protocol before after outcome asked never run = drives_no_cell protocol run.loaded asked before after outcome never (good_plan IsLoaded run.loaded asked run.loads) run.drives

  -- a plan that isn't well shaped
  resumes_unshaped : (protocol : Protocol) (at : Option ℕ) (log : List ℕ) (shaped : Result (Result PlannedShop ShapeFault) CommandFault) (mid asked : List (List ℕ)) (before after : Streams) (outcome : Result Answer CommandFault) → (IsWellShaped p → ⊥)
      → IsAnswerOfFiles (IsShapedOrNot p) (inputs.path ∷ inputs.plan ∷ []) shaped mid → Resumes (Shelf content) protocol at log shaped mid before outcome asked after
      → IsAnswerOfFiles (IsCheckLine p) (inputs.path ∷ inputs.plan ∷ []) outcome asked × (after ≡ before)
  resumes_unshaped protocol at log (Err fault) mid asked before after outcome never is resumes = (no_memory (IsCheckLine p) _ outcome asked (resumes.0 ∙ ap Err is), resumes.1)
  resumes_unshaped protocol at log (Ok (Err fault)) mid asked before after outcome never is resumes = (line_answered (NotShaped fault) outcome asked is.0 (resumes.2 ∙ is.1) resumes.0, resumes.1)
  resumes_unshaped protocol at log (Ok (Ok q)) mid asked before after outcome never is resumes = absurd (never is.0.1)

  pub no_unshaped_resume : (protocol : Protocol) (at : Option ℕ) (log : List ℕ) (before after : Streams) (outcome : Result Answer CommandFault) (asked : List (List ℕ)) → (IsWellShaped p → ⊥) → RunsResume (Shelf content) protocol at inputs log [] before outcome asked after
      → IsAnswerOfFiles (IsCheckLine p) (inputs.path ∷ inputs.plan ∷ []) outcome asked × (after ≡ before)
  no_unshaped_resume protocol at log before after outcome asked never run =
      resumes_unshaped protocol at log run.shaped run.texts_mid asked before after outcome never (good_plan IsShapedOrNot run.shaped run.texts_mid run.shapes) run.resumes

  -- a plan by which the run of a log can't go on
  module _ (protocol : Protocol) (at : Option ℕ) (text : List ℕ) (recorded : List Entry) (well : IsWellShaped p) (parses : LinesParse p (ended_lines text) recorded) (run : IsRun p (events_of recorded))
      (not_past : (cell_after p recorded).last ≤ unwrap_or at (cell_after p recorded).last) (no_plan : IsNoPlanFor p recorded) where
    not_recovered : (t : Recovered) → IsRecovered p (ended_lines text) at t → ⊥
    not_recovered t up = go no_plan
      where
        same : up.recorded ≡ recorded
        same = one_reading p (ended_lines text) up.recorded recorded up.parses parses

        acyclic : HasNoCycle p
        acyclic nodes cycle =
            ranks_exclude_cycle p (rank_of t.control.times) nodes (subst (λ (q : PlannedShop). AreRanks q t.control.times) up.recovered_from.planned up.recovered_from.run.kept.control.ranks).rise cycle

        go : IsNoPlanFor p recorded → ⊥
        go (inl cyclic) = cyclic acyclic
        go (inr (none, never)) = never (up.recovered_from.accepted (same ∙ none))

    unrecovered_answered : (fault : ResumeFault) (files asked : List (List ℕ)) (outcome : Result Answer CommandFault) → asked ≡ files → IsResumeFault p (ended_lines text) at fault → IsUnrecoveredAnswer fault outcome
        → IsAnswerOfFiles (IsCheckLine p) files outcome asked
    unrecovered_answered OutOfMemory files asked outcome same is answered_so = no_memory (IsCheckLine p) files outcome asked answered_so
    unrecovered_answered (Run (Log fault)) files asked outcome same is answered_so = absurd (first_bad-no_run p (ended_lines text) fault is (recorded, parses, run))
    unrecovered_answered (Run (Present (Past last))) files asked outcome same (c, there, is_past) answered_so =
        let one : there.entries ≡ recorded = one_reading p (ended_lines text) there.entries recorded there.parse parses in
        let here : c.last ≡ (cell_after p recorded).last = ap (λ (x : Cell). x.last) there.run.cell ∙ ap (λ (es : List Entry). (cell_after p es).last) one in
        let past_there : unwrap_or at (cell_after p recorded).last < (cell_after p recorded).last = subst (λ n. unwrap_or at n < n) here (past_before at c.last last is_past) in
        absurd (omega (arith, past_there, not_past))
    unrecovered_answered (Run (Present TooLarge)) files asked outcome same is answered_so = absurd answered_so
    unrecovered_answered (RefusedRun back why) files asked outcome same (others, also, events, is_refused) answered_so =
        answered_line outcome answered_so
      where
        judged : IsLoaded p (Judged (Refused back why))
        judged = record { well_shaped = well; accepted = tt; refused = (is_refused.1.0, reason_of why is_refused.1.1) }
          where
            reason_of : (y : Why) → IsRefusedFor p (others ≡ []) y → IsReason p y
            reason_of (Cycle nodes) cycle = cycle
            reason_of (Late job leaves chain times) late = late.1

        answered_line : (outcome : Result Answer CommandFault) → IsLineAnswer (Judged (Refused back why)) outcome → IsAnswerOfFiles (IsCheckLine p) files outcome asked
        answered_line (Ok answer) line = (line_of_loaded p (Judged (Refused back why)) answer judged line, same)
        answered_line (Err fault) line = line

    text_resumes : (files asked : List (List ℕ)) (before after : Streams) (outcome : Result Answer CommandFault) → asked ≡ files → ResumesText protocol at p (Ok text) before after outcome
        → IsAnswerOfFiles (IsCheckLine p) files outcome asked × (after ≡ before)
    text_resumes files asked before after outcome same (Ok t, taking, on) = absurd (not_recovered t taking.is)
    text_resumes files asked before after outcome same (Err fault, taking, on) = (unrecovered_answered fault files asked outcome same taking.fault on.0, on.1)

    pub no_resume : (log : List ℕ) (before after : Streams) (outcome : Result Answer CommandFault) (asked : List (List ℕ)) → content log ≡ Ok text → RunsResume (Shelf content) protocol at inputs log [] before outcome asked after
        → IsAnswerOfFiles (IsCheckLine p) (inputs.path ∷ inputs.plan ∷ log ∷ []) outcome asked × (after ≡ before)
    no_resume log before after outcome asked is runs = elim (good_resume protocol at before after log text outcome asked well is runs) [
      | inl (files, resumes) ↦ text_resumes (inputs.path ∷ inputs.plan ∷ log ∷ []) asked before after outcome files resumes
      | inr (none, unread) ↦ (no_memory (IsCheckLine p) (inputs.path ∷ inputs.plan ∷ log ∷ []) outcome asked none, unread)
    ]
