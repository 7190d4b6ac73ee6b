-- What each command does with the files that it is given.
use Rattle.std.specs.Prelude.{◌≡◌, ◌⊎◌, ℕ, ◌<◌, ◌≤◌, List, Option, None, Some, Result, Ok}
use Rattle.shop_base.specs.Shop.{JobShop}
use Rattle.shop_base.specs.declared.shape_fault.ShapeFault.{ShapeFault}
use Rattle.shop_base.specs.Plan.{ShopPlan, PlannedShop, IsWellShaped, jobs}
use Rattle.orlib_read.specs.declared.named.Named.{Named}
use Rattle.plan_seek.specs.Orders.{Proposal}
use Rattle.plan_seek.specs.Tasks.{PlanTask, task_in}
use Rattle.plan_seek.specs.Turns.{PlanSearch, search_by}
use Rattle.plan_bounds.specs.Bounds.{times_of}
use Rattle.plan_decide.specs.declared.aim.Aim.{Aim}
use Rattle.people_names.specs.NameBooks.{NameBook}
use Rattle.command_answers.specs.declared.answer.Answer.{Answer}
use Rattle.command_answers.specs.declared.command_fault.CommandFault.{CommandFault}
use Rattle.command_answers.specs.declared.loading.Loaded.{Loaded}
use Rattle.command_answers.specs.Steps.{Then, Concludes, IsOrMemory}
use Rattle.command_answers.specs.Texts.{Asks}
use Rattle.command_answers.specs.Naming.{ReadsNames}
use Rattle.command_answers.specs.Parsed.{IsInstanceRead, IsPlanRead, AreFactsAnswered}
use Rattle.command_answers.specs.Checks.{IsLoaded}
use Rattle.command_answers.specs.AskedJobs.{IsNoJobLine}
use Rattle.command_answers.specs.Serial.{serially}
use Rattle.command_answers.specs.BoundLines.{AreBoundLines, IsBadNumbersLine}
use Rattle.command_answers.specs.Margins.{IsMarginAnswer}
use Rattle.command_answers.specs.Moves.{AreMovesAhead}
use Rattle.command_answers.specs.Deciding.{job_of}
use Rattle.command_answers.specs.Shapes.{IsShapeLine, IsNotShapedLine, IsShapedOrNot}
use Rattle.command_answers.specs.Digests.{IsDigestAnswer}
use Rattle.command_answers.specs.DecidingRests.{IsRunDecision, IsUnfitLine}
use Rattle.command_answers.specs.Search.{IsSearchAnswer}
use Rattle.command_answers.specs.Improving.{SearchBy, ordered}
use Rattle.command_answers.specs.declared.logs.LogAnswer.{LogAnswer}
use Rattle.command_answers.specs.LogLines.{IsLogLine}
use Rattle.command_answers.specs.declared.rests.PlanAnswer.{PlanAnswer}
use Rattle.command_answers.specs.Rests.{IsRestLine, job_asked}
use Rattle.command_answers.specs.States.{IsStateLine}
use Rattle.command_answers.specs.ImprovingRests.{IsBetterAnswer}
use Rattle.command_answers.specs.Asked.{AskedRevision}
use Rattle.command_answers.specs.Revising.{IsReviseAnswer}

-- the file of an instance, the instance's name where that is a collection, and the file of a plan for it
pub record InputPaths : Type 0 where
  pub path : List ℕ
  pub name : Option (List ℕ)
  pub plan : List ℕ

-- the files of a run: those of its plan, of names, and its log, if it has begun; and the present moment, if another one than the log's last is given
pub record RunPaths : Type 0 where
  pub inputs : InputPaths
  pub names : Option (List ℕ)
  pub log : Option (List ℕ)
  pub at : Option ℕ

-- where a plan is well shaped there is this step; else the line of its first fault comes
abbrev pub IfShapedBy : {W B : Type 0} → ((Answer → Type 0) → B → Type 0) → PlannedShop → (W → Result B CommandFault → W → Type 0) → W → Result B CommandFault → W → Type 0
IfShapedBy Line p next before outcome after = (IsWellShaped p × next before outcome after) ⊎ Concludes (IsOrMemory (Line (IsNotShapedLine p))) before outcome after

-- where the job that is asked for is one of the shop, or none is asked for, there is this step; else its line comes
abbrev pub IfThereBy : {W B : Type 0} → ((Answer → Type 0) → B → Type 0) → Option ℕ → PlannedShop → (W → Result B CommandFault → W → Type 0) → W → Result B CommandFault → W → Type 0
IfThereBy Line None p next before outcome after = next before outcome after
IfThereBy Line (Some j) p next before outcome after = ((j < jobs p) × next before outcome after) ⊎ ((jobs p ≤ j) × Concludes (IsOrMemory (Line (IsNoJobLine j))) before outcome after)

-- a line as the answer itself
abbrev pub Itself : (Answer → Type 0) → Answer → Type 0
Itself Is = Is

module _ {W : Type 0} (gives : W → List ℕ → Result (List ℕ) CommandFault → W → Type 0) where
  -- the file of an instance is asked for, and then read
  abbrev pub ReadsInstance : List ℕ → Option (List ℕ) → W → Result Named CommandFault → W → Type 0
  ReadsInstance path name = Then (Asks gives path) (λ text. Concludes (IsInstanceRead text name))

  -- the file of a plan is asked for, and then read
  abbrev pub ReadsPlan : List ℕ → W → Result ShopPlan CommandFault → W → Type 0
  ReadsPlan path = Then (Asks gives path) (λ text. Concludes (IsPlanRead text))

  -- both are read, the instance before the plan is asked for
  abbrev pub ReadsBoth : InputPaths → W → Result PlannedShop CommandFault → W → Type 0
  ReadsBoth inputs = Then (ReadsInstance inputs.path inputs.name) (λ named. Then (ReadsPlan inputs.plan) (λ plan. Concludes (λ read. read ≡ Ok (record { shop = named.shop; plan = plan }))))

  -- both are read, and then there is this step
  abbrev pub WithBoth : {B : Type 0} → InputPaths → (PlannedShop → W → Result B CommandFault → W → Type 0) → W → Result B CommandFault → W → Type 0
  WithBoth inputs = Then (ReadsBoth inputs)

  -- `facts`: the file of the instance is asked for, and its facts are answered
  abbrev pub RunsFacts : List ℕ → Option (List ℕ) → W → Result Answer CommandFault → W → Type 0
  RunsFacts path name = Then (Asks gives path) (λ text. Concludes (AreFactsAnswered text name))

  -- `shape`: both are read, and whether the plan is well shaped is answered
  abbrev pub RunsShape : InputPaths → W → Result Answer CommandFault → W → Type 0
  RunsShape inputs = WithBoth inputs (λ p. Concludes (IsOrMemory (IsShapeLine p)))

  -- `digest`: both are read, and the digits of a well-shaped plan and its shop are answered
  abbrev pub RunsDigest : InputPaths → W → Result Answer CommandFault → W → Type 0
  RunsDigest inputs = WithBoth inputs (λ p. Concludes (IsOrMemory (IsDigestAnswer p)))

  -- where a plan is well shaped there is this step; else its first fault is answered
  abbrev pub IfShaped : PlannedShop → (W → Result Answer CommandFault → W → Type 0) → W → Result Answer CommandFault → W → Type 0
  IfShaped = IfShapedBy Itself

  -- where the job that is asked for is one of the shop, or none is asked for, there is this step; else its line is answered
  abbrev pub IfThere : Option ℕ → PlannedShop → (W → Result Answer CommandFault → W → Type 0) → W → Result Answer CommandFault → W → Type 0
  IfThere = IfThereBy Itself

  -- names for the plan's shop are read, and then this comes of them
  abbrev pub WithNames : {B : Type 0} → Option (List ℕ) → PlannedShop → (NameBook → Result B CommandFault → Type 0) → W → Result B CommandFault → W → Type 0
  WithNames names p Comes = Then (ReadsNames gives names p) (λ book. Concludes (Comes book))

  -- so names and then a log
  abbrev pub WithNamesAndLog : {B : Type 0} → Option (List ℕ) → List ℕ → PlannedShop → (NameBook → List ℕ → B → Type 0) → W → Result B CommandFault → W → Type 0
  WithNamesAndLog names path p IsLine = Then (ReadsNames gives names p) (λ book. Then (Asks gives path) (λ log. Concludes (IsOrMemory (IsLine book log))))

  -- the log of a run is asked for, where one is given, and then this comes of it
  abbrev pub WithRun : {B : Type 0} → Option (List ℕ) → (Option (List ℕ) → Result B CommandFault → Type 0) → W → Result B CommandFault → W → Type 0
  WithRun None Comes = Concludes (Comes None)
  WithRun (Some path) Comes = Then (Asks gives path) (λ log. Concludes (Comes (Some log)))

  -- so names and then that log
  abbrev pub WithNamesAndRun : {B : Type 0} → Option (List ℕ) → Option (List ℕ) → PlannedShop → (NameBook → Option (List ℕ) → Result B CommandFault → Type 0) → W → Result B CommandFault → W → Type 0
  WithNamesAndRun names log p Comes = Then (ReadsNames gives names p) (λ book. WithRun log (Comes book))

  -- what is asked of a run: both are read, then the names, and then its log, if it has begun, and this comes of them; a plan that isn't well shaped, and a job that is asked for and isn't one of the shop, has its line
  abbrev pub AsksOfRun : {B : Type 0} → ((Answer → Type 0) → B → Type 0) → Option ℕ → (PlannedShop → NameBook → Option (List ℕ) → B → Type 0) → RunPaths → W → Result B CommandFault → W → Type 0
  AsksOfRun Line job Comes run = WithBoth run.inputs (λ p. IfShapedBy Line p (IfThereBy Line job p (WithNamesAndRun run.names run.log p (λ book log. IsOrMemory (Comes p book log)))))

  -- `check`, `explain` and `schedule`: the verdict on the rest of the run is answered, or explained, or its schedule printed
  abbrev pub RunsRest : PlanAnswer → RunPaths → W → Result Answer CommandFault → W → Type 0
  RunsRest wanted run = AsksOfRun Itself (job_asked wanted) (λ p book. IsRestLine book wanted run.at p) run

  -- `schedule --moves`: the moves ahead are printed
  abbrev pub RunsMoves : RunPaths → W → Result Answer CommandFault → W → Type 0
  RunsMoves run = AsksOfRun Itself None (λ p book. AreMovesAhead book run.at p) run

  -- where the numbers of a plan are sound, whatever its orders, there is this step; else their first fault is answered
  abbrev pub IfSound : PlannedShop → (W → Result Answer CommandFault → W → Type 0) → W → Result Answer CommandFault → W → Type 0
  IfSound p next before outcome after = (IsWellShaped (serially p) × next before outcome after) ⊎ Concludes (IsOrMemory (IsBadNumbersLine p)) before outcome after

  -- so names are read, and then this comes of them
  abbrev pub WithSoundNames : (NameBook → Result Answer CommandFault → Type 0) → Option (List ℕ) → PlannedShop → W → Result Answer CommandFault → W → Type 0
  WithSoundNames Comes names p = IfSound p (WithNames names (serially p) Comes)

  -- `bounds`: both are read, then the names, and what no plan can do with these numbers is printed
  abbrev pub RunsBounds : InputPaths → Option (List ℕ) → W → Result Answer CommandFault → W → Type 0
  RunsBounds inputs names = WithBoth inputs (λ p. WithSoundNames (λ book. IsOrMemory (AreBoundLines book (times_of p) p.plan.budget)) names p)

  -- `margin`: both are read, then the names, and how much longer everything may take is printed
  abbrev pub RunsMargin : InputPaths → Option (List ℕ) → W → Result Answer CommandFault → W → Type 0
  RunsMargin inputs names = WithBoth inputs (λ p. IfShaped p (WithNames names p (λ book. IsOrMemory (IsMarginAnswer book p))))

  -- both are read, and what is to be said of the plan is found
  abbrev pub Loads : InputPaths → W → Result Loaded CommandFault → W → Type 0
  Loads inputs = WithBoth inputs (λ p. Concludes (IsOrMemory (IsLoaded p)))

  -- both are read, and it is found whether the plan is well shaped
  abbrev pub Shapes : InputPaths → W → Result (Result PlannedShop ShapeFault) CommandFault → W → Type 0
  Shapes inputs = WithBoth inputs (λ p. Concludes (IsOrMemory (IsShapedOrNot p)))

  -- `plan`: both are read, and the search for a plan with these numbers is answered
  abbrev pub RunsPlan : (PlanTask → PlanSearch) → ℕ → InputPaths → W → Result Answer CommandFault → W → Type 0
  RunsPlan search rounds inputs = WithBoth inputs (λ p. Concludes (IsSearchAnswer (search (task_in p)) rounds))

  -- the same with these proposers, by what each of them may propose
  abbrev pub RunsPlanWith : {B : Type 0} → (B → JobShop → ℕ → Proposal → Type 0) → List B → ℕ → InputPaths → W → Result Answer CommandFault → W → Type 0
  RunsPlanWith may proposers = RunsPlan (search_by may proposers)

  -- what the search from this plan comes to is answered, if it is well shaped, once the run's log is read, if it has begun
  abbrev pub BettersPlan : SearchBy → ℕ → RunPaths → PlannedShop → W → Result Answer CommandFault → W → Type 0
  BettersPlan made rounds run p = IfShaped p (WithRun run.log (IsBetterAnswer made rounds run.at p))

  -- `improve`: both are read, and a better plan is sought from this one, or from the serial plan where it has no orders at all
  abbrev pub RunsImprove : SearchBy → ℕ → RunPaths → W → Result Answer CommandFault → W → Type 0
  RunsImprove made rounds run = WithBoth run.inputs (λ p. BettersPlan made rounds run (ordered p))

  -- where the numbers are sound, whatever the orders, there is this step with the serial plan; of a run that has begun where the plan is well shaped, or the serial one that stands for a plan without any orders; else the first fault is answered
  abbrev pub IfFit : Option (List ℕ) → PlannedShop → (PlannedShop → W → Result Answer CommandFault → W → Type 0) → W → Result Answer CommandFault → W → Type 0
  IfFit None p next before outcome after = IfSound p (next (serially p)) before outcome after
  IfFit (Some log) p next before outcome after = (IsWellShaped (ordered p) × next (ordered p) before outcome after) ⊎ Concludes (IsOrMemory (IsUnfitLine (ordered p))) before outcome after

  -- where the job that is asked for is one of the shop, the names and the run's log are read, and then what is decided of the plan's budgets is answered
  abbrev pub DecidesPlan : Aim → RunPaths → PlannedShop → W → Result Answer CommandFault → W → Type 0
  DecidesPlan aim run p = IfThere (job_of aim) p (WithNamesAndRun run.names run.log p (λ book. IsRunDecision book aim run.at p))

  -- `decide`: both are read, then the names, and then the log, and what is decided is answered
  abbrev pub RunsDecide : Aim → RunPaths → W → Result Answer CommandFault → W → Type 0
  RunsDecide aim run = WithBoth run.inputs (λ p. IfFit run.log p (DecidesPlan aim run))

  -- `audit` and `gantt`: both are read, then the names, and then the log
  abbrev pub RunsLog : LogAnswer → InputPaths → Option (List ℕ) → List ℕ → W → Result Answer CommandFault → W → Type 0
  RunsLog wanted inputs names log = WithBoth inputs (λ p. IfShaped p (WithNamesAndLog names log p (λ book. IsLogLine book wanted p)))

  -- `state`: both are read, then the names, and then the log, and the state at its end, or at a present moment, is printed
  abbrev pub RunsState : InputPaths → Option (List ℕ) → List ℕ → Option ℕ → W → Result Answer CommandFault → W → Type 0
  RunsState inputs names log at = WithBoth inputs (λ p. IfShaped p (WithNamesAndLog names log p (λ book. IsStateLine book at p)))

  -- the names are read, then the log, and what the changes make of a well-shaped plan is answered
  abbrev pub RevisesShaped : AskedRevision → List ℕ → List ℕ → PlannedShop → W → Result Answer CommandFault → W → Type 0
  RevisesShaped asked description log p = Then (ReadsNames gives asked.names p) (λ book. Then (Asks gives log) (λ text. Concludes (IsReviseAnswer asked description p book text)))

  -- `revise`: both are read, then the names and the log where the plan is well shaped, and what the changes make of them is answered
  abbrev pub RunsRevise : AskedRevision → InputPaths → List ℕ → W → Result Answer CommandFault → W → Type 0
  RunsRevise asked inputs log =
      Then (ReadsInstance inputs.path inputs.name) (λ named. Then (ReadsPlan inputs.plan)
      (λ plan. (let p : PlannedShop = record { shop = named.shop; plan = plan } in IfShaped p (RevisesShaped asked named.description.items log p))))
