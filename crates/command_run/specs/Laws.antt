-- What the program's clauses come to in plain words.
use Rattle.std.specs.Prelude.{◌≡◌, ◌≢◌, ℕ, ◌≤◌, List, [], ◌∷◌, ◌++◌, ◌⊎◌, length, map, get_or, unwrap_or, codes, decimal, Option, None, Some, true, false, Result, Ok, Err}
use Rattle.std.specs.String.{string_bytes}
use Rattle.shop_base.specs.Shop.{JobShop}
use Rattle.shop_base.specs.Plan.{PlannedShop, IsWellShaped}
use Rattle.shop_base.specs.Run.{IsRun}
use Rattle.text_lines.specs.declared.limits.TheConstants.{MAX_INPUT}
use Rattle.text_lines.specs.Lines.{ended_lines}
use Rattle.orlib_read.specs.declared.or_fault.OrFault.{OrFault}
use Rattle.people_names.specs.NameBooks.{no_names}
use Rattle.plan_verifier.specs.Accepted.{VerifiedPlan, HasNoCycle, IsAcceptable}
use Rattle.plan_verifier.specs.declared.verdict.Verdict.TheVariants.{Accepted}
use Rattle.plan_seek.specs.Tasks.{task_in}
use Rattle.cell_tables.specs.declared.entry.Entry.{Entry}
use Rattle.cell_tables.specs.Events.{events_of}
use Rattle.event_lines.specs.LogLines.{LinesParse}
use Rattle.byte_streams.specs.Sinks.{TookPart}
use Rattle.cell_drive.specs.OneRun.{cell_after}
use Rattle.cell_drive.specs.Recovered.{Recovered, plan_of}
use Rattle.cell_drive.specs.InProtocol.{IsResumeIn}
use Rattle.cell_drive.specs.declared.protocol.Protocol.{Protocol}
use Rattle.cell_drive.specs.declared.begin.DriveEnd.{DriveEnd}
use Rattle.cell_drive.specs.declared.resume.RestEnd.{RestEnd}
use Rattle.cell_drive.specs.declared.hub.HubEnd.{HubEnd}
use Rattle.byte_streams.specs.declared.drive_fault.DriveFault.{DriveFault}
use Rattle.command_words.specs.declared.words.CommandName.TheVariants.{Schedule, Drive, Resume, Hub, Gantt}
use Rattle.command_words.specs.Choice.{command_word_of, word_found, rows_found, files_in, instance_in, kept_in, reasons_in, found_in, IsChoiceOf, NamesOneOf}
use Rattle.command_words.specs.declared.words.Chosen.{Chosen}
use Rattle.command_words.specs.declared.words.CommandName.{CommandName}
use Rattle.command_words.specs.declared.words.WordsFault.{WordsFault}
use Rattle.command_words.specs.declared.words.WordsFault.TheVariants.{Usage, Memory as WordsMemory}
use Rattle.command_answers.specs.declared.answer.Answer.{Answer}
use Rattle.command_answers.specs.declared.command_fault.CommandFault.{CommandFault}
use Rattle.command_answers.specs.declared.command_fault.CommandFault.TheVariants.{Instance, Read, Memory, Write}
use Rattle.command_answers.specs.declared.logs.LogAnswer.{LogAnswer}
use Rattle.command_answers.specs.declared.pictures.Drawn.{Drawn}
use Rattle.command_answers.specs.declared.pictures.Drawn.TheVariants.{Picture}
use Rattle.command_answers.specs.Texts.{Asks}
use Rattle.command_answers.specs.Instances.{ParsesAs, IsFirstInstanceFault}
use Rattle.command_answers.specs.Plans.{BothParse}
use Rattle.command_answers.specs.Facts.{AreFacts}
use Rattle.command_answers.specs.Shapes.{IsNotShapedLine, IsShapeLine}
use Rattle.command_answers.specs.Checks.{IsCheckLine}
use Rattle.command_answers.specs.BoundLines.{AreBounds}
use Rattle.command_answers.specs.Digests.{IsDigestAnswer}
use Rattle.command_answers.specs.Margins.{IsMarginAnswer}
use Rattle.command_answers.specs.Moves.{AreMovesAhead}
use Rattle.command_answers.specs.LogLines.{IsLogLine}
use Rattle.command_answers.specs.States.{IsStateLine}
use Rattle.command_answers.specs.Search.{IsSearchAnswer}
use Rattle.command_answers.specs.Improving.{ordered}
use Rattle.command_answers.specs.Steps.{IsOrMemory}
use Rattle.command_answers.specs.declared.rests.PlanAnswer.{PlanAnswer}
use Rattle.command_answers.specs.Rests.{IsRestLine, job_asked}
use Rattle.command_answers.specs.ImprovingRests.{IsBetterAnswer}
use Rattle.command_answers.specs.Commands.{InputPaths, RunPaths, RunsFacts, RunsShape, RunsDigest, RunsMoves, RunsBounds, RunsMargin, RunsLog, RunsState, RunsRest, Loads, Shapes}
use Rattle.command_answers.specs.Pictures.{IsLineAlone, IsLogDrawn, IsRestDrawing, DrawsLog, DrawsRest}
use Rattle.command_answers.specs.declared.loading.Loaded.TheVariants.{Judged}
use Rattle.command_answers.specs.declared.cells.Cells.{Cells}
use Rattle.command_answers.specs.Cells.{AreAccepted, LoadsCells}
use Rattle.command_run.specs.Streams.{Streams, Input, Output, Errors, Devices}
use Rattle.command_run.specs.Inputs.{RunsInput}
use Rattle.command_run.specs.Planners.{search_by_two, SeeksPlan}
use Rattle.command_run.specs.Improvers.{AsksOne, Improves}
use Rattle.command_run.specs.Pictures.{IsPictureOut, Draws, RunsPicture}
use Rattle.command_run.specs.Drives.{IsDriveIn, DrivesCell, end_of_drive}
use Rattle.command_run.specs.Logs.{DrivesWithLog, GoesOnWithLog, LogEnd, step_of}
use Rattle.command_run.specs.Resumes.{ResumesText, IsRecovery}
use Rattle.command_run.specs.Hubs.{AreDrivesIn, DrivesCells}
use Rattle.command_run.specs.Ending.{WasPrinted, IsLineOut, IsTextRefusal}
use Rattle.command_run.specs.Program.{RunsApart, RunsDrive, RunsResume, RunsHub, RunsProgram, draws_in, file_at, protocol_in, name_in, names_file, inputs_in, plans_in, run_in}

-- ---- what is printed first where the files don't change

-- files that don't change, and the paths that were asked for
abbrev pub Shelf : (List ℕ → Result (List ℕ) CommandFault) → List (List ℕ) → List ℕ → Result (List ℕ) CommandFault → List (List ℕ) → Type 0
Shelf content asked path given later = (given ≡ content path) × (later ≡ asked ++ path ∷ [])

-- the instance's fault was answered, unless memory ran out, and no other file was asked for
abbrev pub IsInstanceRefused : {A : Type 0} → List ℕ → OrFault → Result A CommandFault → List (List ℕ) → Type 0
IsInstanceRefused path fault outcome asked = (asked ≡ path ∷ []) × ((outcome ≡ Err (Instance fault)) ⊎ (outcome ≡ Err Memory))

-- where the text of the instance is refused, its first fault is printed and no other file is asked for, when this runs
abbrev pub ReadsInstanceFirst : ((List (List ℕ) → List ℕ → Result (List ℕ) CommandFault → List (List ℕ) → Type 0) → InputPaths
    → List (List ℕ) → Result Answer CommandFault → List (List ℕ) → Type 0) → Type 0
ReadsInstanceFirst runs = (content : List ℕ → Result (List ℕ) CommandFault) (inputs : InputPaths) (text : List ℕ) (fault : OrFault) (outcome : Result Answer CommandFault) (asked : List (List ℕ))
    → content inputs.path ≡ Ok text → IsFirstInstanceFault text inputs.name fault → runs (Shelf content) inputs [] outcome asked → IsInstanceRefused inputs.path fault outcome asked

abbrev pub FactsReadsInstanceFirst : Type 0
FactsReadsInstanceFirst = ReadsInstanceFirst (λ gives inputs. RunsFacts gives inputs.path inputs.name)

abbrev pub ShapeReadsInstanceFirst : Type 0
ShapeReadsInstanceFirst = ReadsInstanceFirst (λ gives inputs. RunsShape gives inputs)

abbrev pub DigestReadsInstanceFirst : Type 0
DigestReadsInstanceFirst = ReadsInstanceFirst (λ gives inputs. RunsDigest gives inputs)

abbrev pub BoundsReadsInstanceFirst : Type 0
BoundsReadsInstanceFirst = (names : Option (List ℕ)) → ReadsInstanceFirst (λ gives inputs. RunsBounds gives inputs names)

abbrev pub MarginReadsInstanceFirst : Type 0
MarginReadsInstanceFirst = (names : Option (List ℕ)) → ReadsInstanceFirst (λ gives inputs. RunsMargin gives inputs names)

-- so it is for `audit` and for `gantt`
abbrev pub LogReadsInstanceFirst : Type 0
LogReadsInstanceFirst = (wanted : LogAnswer) (names : Option (List ℕ)) (log : List ℕ) → ReadsInstanceFirst (λ gives inputs. RunsLog gives wanted inputs names log)

-- so it is for `state`
abbrev pub StateReadsInstanceFirst : Type 0
StateReadsInstanceFirst = (names : Option (List ℕ)) (log : List ℕ) (at : Option ℕ) → ReadsInstanceFirst (λ gives inputs. RunsState gives inputs names log at)

-- the run with this plan, and otherwise with the files and the moment of another one
abbrev pub with_inputs : RunPaths → InputPaths → RunPaths
with_inputs run inputs = record { inputs = inputs; names = run.names; log = run.log; at = run.at }

-- so it is for `check`, `explain` and `schedule`
abbrev pub RestReadsInstanceFirst : Type 0
RestReadsInstanceFirst = (wanted : PlanAnswer) (run : RunPaths) → ReadsInstanceFirst (λ gives inputs. RunsRest gives wanted (with_inputs run inputs))

abbrev pub MovesReadsInstanceFirst : Type 0
MovesReadsInstanceFirst = (run : RunPaths) → ReadsInstanceFirst (λ gives inputs. RunsMoves gives (with_inputs run inputs))

-- so it is, unless memory runs out for planners or improvers before any file is asked for
abbrev pub ReadsInstanceFirstOrNothing : ((List (List ℕ) → List ℕ → Result (List ℕ) CommandFault → List (List ℕ) → Type 0) → InputPaths
    → List (List ℕ) → Result Answer CommandFault → List (List ℕ) → Type 0) → Type 0
ReadsInstanceFirstOrNothing runs = (content : List ℕ → Result (List ℕ) CommandFault) (inputs : InputPaths) (text : List ℕ) (fault : OrFault) (outcome : Result Answer CommandFault) (asked : List (List ℕ))
    → content inputs.path ≡ Ok text → IsFirstInstanceFault text inputs.name fault → runs (Shelf content) inputs [] outcome asked
    → IsInstanceRefused inputs.path fault outcome asked ⊎ ((outcome ≡ Err Memory) × (asked ≡ []))

abbrev pub PlanReadsInstanceFirst : Type 0
PlanReadsInstanceFirst = (rounds : ℕ) → ReadsInstanceFirstOrNothing (λ gives inputs. SeeksPlan gives rounds inputs)

abbrev pub ImproveReadsInstanceFirst : Type 0
ImproveReadsInstanceFirst = (rounds : ℕ) (run : RunPaths) → ReadsInstanceFirstOrNothing (λ gives inputs. Improves gives rounds (with_inputs run inputs))

-- so it is, with no byte read or written
abbrev pub ReadsInstanceFirstAlone : ((List (List ℕ) → List ℕ → Result (List ℕ) CommandFault → List (List ℕ) → Type 0) → InputPaths
    → List (List ℕ) → Streams → Result Answer CommandFault → List (List ℕ) → Streams → Type 0) → Type 0
ReadsInstanceFirstAlone runs = (before after : Streams) (content : List ℕ → Result (List ℕ) CommandFault) (inputs : InputPaths) (text : List ℕ) (fault : OrFault) (outcome : Result Answer CommandFault) (asked : List (List ℕ))
    → content inputs.path ≡ Ok text → IsFirstInstanceFault text inputs.name fault → runs (Shelf content) inputs [] before outcome asked after
    → IsInstanceRefused inputs.path fault outcome asked × (after ≡ before)

abbrev pub DriveReadsInstanceFirst : Type 0
DriveReadsInstanceFirst = (protocol : Protocol) → ReadsInstanceFirstAlone (λ gives inputs. RunsDrive gives protocol inputs)

abbrev pub ResumeReadsInstanceFirst : Type 0
ResumeReadsInstanceFirst = (protocol : Protocol) (at : Option ℕ) (log : List ℕ) → ReadsInstanceFirstAlone (λ gives inputs. RunsResume gives protocol at inputs log)

-- so it is where pictures are asked for
abbrev pub ScheduleDrawsInstanceFirst : Type 0
ScheduleDrawsInstanceFirst = (run : RunPaths) → ReadsInstanceFirstAlone (λ gives inputs. RunsPicture (DrawsRest gives (with_inputs run inputs)))

abbrev pub LogDrawsInstanceFirst : Type 0
LogDrawsInstanceFirst = (names : Option (List ℕ)) (log : List ℕ) → ReadsInstanceFirstAlone (λ gives inputs. RunsPicture (DrawsLog gives inputs names log))

-- of any number of plans
abbrev pub HubReadsInstanceFirst : Type 0
HubReadsInstanceFirst = (protocol : Protocol) (plans : List (List ℕ)) → ReadsInstanceFirstAlone (λ gives inputs. RunsHub gives protocol inputs.path inputs.name (inputs.plan ∷ plans))

-- ---- what good files are answered by, where they don't change

-- the files of these paths give this shop and this plan
pub record ParseAsPlan (content : List ℕ → Result (List ℕ) CommandFault) (inputs : InputPaths) (p : PlannedShop) : Type 0 where
  pub instance : List ℕ
  pub instance_is : content inputs.path ≡ Ok instance
  pub plan : List ℕ
  pub plan_is : content inputs.plan ≡ Ok plan
  pub parsed : BothParse instance inputs.name plan p

-- an answer is one of these, for which these files were asked for, in this order; none is given only where memory ran out
abbrev pub IsAnswerOfFiles : {A : Type 0} → (A → Type 0) → List (List ℕ) → Result A CommandFault → List (List ℕ) → Type 0
IsAnswerOfFiles Is files (Ok answer) asked = Is answer × (asked ≡ files)
IsAnswerOfFiles Is files (Err fault) asked = fault ≡ Memory

-- files that give a shop and a plan are answered by a line of this kind, when this runs
abbrev pub AnswersPlanFiles : ((List (List ℕ) → List ℕ → Result (List ℕ) CommandFault → List (List ℕ) → Type 0) → InputPaths
    → List (List ℕ) → Result Answer CommandFault → List (List ℕ) → Type 0) → (PlannedShop → Answer → Type 0) → Type 0
AnswersPlanFiles runs Is = (content : List ℕ → Result (List ℕ) CommandFault) (inputs : InputPaths) (p : PlannedShop) (outcome : Result Answer CommandFault) (asked : List (List ℕ))
    → ParseAsPlan content inputs p → runs (Shelf content) inputs [] outcome asked → IsAnswerOfFiles (Is p) (inputs.path ∷ inputs.plan ∷ []) outcome asked

-- `facts`: the line of the facts of the shop that the file gives
abbrev pub FactsAnswerShop : Type 0
FactsAnswerShop = (content : List ℕ → Result (List ℕ) CommandFault) (path text description : List ℕ) (name : Option (List ℕ)) (shop : JobShop) (outcome : Result Answer CommandFault) (asked : List (List ℕ))
    → content path ≡ Ok text → ParsesAs text name description shop → RunsFacts (Shelf content) path name [] outcome asked → IsAnswerOfFiles (λ answer. AreFacts answer shop) (path ∷ []) outcome asked

abbrev pub ShapeAnswersPlan : Type 0
ShapeAnswersPlan = AnswersPlanFiles (λ gives inputs. RunsShape gives inputs) IsShapeLine

abbrev pub DigestAnswersPlan : Type 0
DigestAnswersPlan = AnswersPlanFiles (λ gives inputs. RunsDigest gives inputs) IsDigestAnswer

-- without names
abbrev pub BoundsAnswerPlan : Type 0
BoundsAnswerPlan = AnswersPlanFiles (λ gives inputs. RunsBounds gives inputs None) AreBounds

abbrev pub MarginAnswersPlan : Type 0
MarginAnswersPlan = AnswersPlanFiles (λ gives inputs. RunsMargin gives inputs None) (λ p answer. IsNotShapedLine p answer ⊎ IsMarginAnswer no_names p answer)

-- the paths of the files of a run without names: those of its plan, and of its log, if it has begun
abbrev pub log_paths : Option (List ℕ) → List (List ℕ)
log_paths None = []
log_paths (Some log) = log ∷ []

-- the log has this text, if there is one
abbrev pub HasText : (List ℕ → Result (List ℕ) CommandFault) → Option (List ℕ) → Option (List ℕ) → Type 0
HasText content None text = text ≡ None
HasText content (Some log) text = (bytes : List ℕ) × (content log ≡ Ok bytes) × (text ≡ Some bytes)

-- the files of these paths give this shop, this plan, and this log, if the run has begun, and none are given for names
pub record GivesRun (content : List ℕ → Result (List ℕ) CommandFault) (run : RunPaths) (p : PlannedShop) (text : Option (List ℕ)) : Type 0 where
  pub plan : ParseAsPlan content run.inputs p
  pub log : HasText content run.log text
  pub unnamed : run.names ≡ None

-- where the plan is well shaped this is so, with the log asked for too, if there is one; else that
abbrev pub ByShape : PlannedShop → RunPaths → (List (List ℕ) → Type 0) → (List (List ℕ) → Type 0) → Type 0
ByShape p run Shaped Unshaped = (IsWellShaped p × Shaped (run.inputs.path ∷ run.inputs.plan ∷ log_paths run.log)) ⊎ Unshaped (run.inputs.path ∷ run.inputs.plan ∷ [])

-- one of these is answered, or the line of the plan's first fault; no answer is given only where memory ran out
abbrev pub IsRunAnswered : (Answer → Type 0) → PlannedShop → RunPaths → Result Answer CommandFault → List (List ℕ) → Type 0
IsRunAnswered Is p run outcome asked = ByShape p run (λ files. IsAnswerOfFiles Is files outcome asked) (λ files. IsAnswerOfFiles (IsNotShapedLine p) files outcome asked)

-- `check`, `explain` and `schedule`: with no job asked for, what is answered of the plan, or of the rest of the run in its log
abbrev pub RestIsAnswered : Type 0
RestIsAnswered = (wanted : PlanAnswer) (content : List ℕ → Result (List ℕ) CommandFault) (run : RunPaths) (p : PlannedShop) (text : Option (List ℕ)) (outcome : Result Answer CommandFault) (asked : List (List ℕ))
    → GivesRun content run p text → job_asked wanted ≡ None → RunsRest (Shelf content) wanted run [] outcome asked
    → IsRunAnswered (IsRestLine no_names wanted run.at p text) p run outcome asked

-- `schedule --moves`: the moves ahead
abbrev pub MovesAreAnswered : Type 0
MovesAreAnswered = (content : List ℕ → Result (List ℕ) CommandFault) (run : RunPaths) (p : PlannedShop) (text : Option (List ℕ)) (outcome : Result Answer CommandFault) (asked : List (List ℕ))
    → GivesRun content run p text → RunsMoves (Shelf content) run [] outcome asked
    → IsRunAnswered (AreMovesAhead no_names run.at p text) p run outcome asked

-- one of these was drawn, for which these files were asked for; nothing is only where memory ran out, with no byte read or written
abbrev pub IsDrawn : (Drawn → Type 0) → List (List ℕ) → Streams → Result Answer CommandFault → List (List ℕ) → Streams → Type 0
IsDrawn Is files before outcome asked after =
    ((asked ≡ files) × ((drawn : Drawn) × Is drawn × Draws (Ok drawn) before after outcome)) ⊎ ((outcome ≡ Err Memory) × (after ≡ before))

-- so one of these, or the line of the plan's first fault
abbrev pub IsRunDrawn : (Drawn → Type 0) → PlannedShop → RunPaths → Streams → Result Answer CommandFault → List (List ℕ) → Streams → Type 0
IsRunDrawn Is p run before outcome asked after = ByShape p run (λ files. IsDrawn Is files before outcome asked after) (λ files. IsDrawn (IsLineAlone (IsNotShapedLine p)) files before outcome asked after)

-- `schedule --svg`: what comes of the plan, or of the rest of the run in its log, is drawn
abbrev pub ScheduleIsDrawn : Type 0
ScheduleIsDrawn = (before after : Streams) (content : List ℕ → Result (List ℕ) CommandFault) (run : RunPaths) (p : PlannedShop) (text : Option (List ℕ)) (outcome : Result Answer CommandFault) (asked : List (List ℕ))
    → GivesRun content run p text → RunsPicture (DrawsRest (Shelf content) run) [] before outcome asked after
    → IsRunDrawn (IsRestDrawing no_names run.at p text) p run before outcome asked after

-- a run with this log
abbrev pub in_log : InputPaths → List ℕ → RunPaths
in_log inputs log = record { inputs = inputs; names = None; log = Some log; at = None }

-- `audit` and `gantt`: what is answered of the log
abbrev pub LogIsAnswered : Type 0
LogIsAnswered = (wanted : LogAnswer) (content : List ℕ → Result (List ℕ) CommandFault) (inputs : InputPaths) (log text : List ℕ) (p : PlannedShop) (outcome : Result Answer CommandFault) (asked : List (List ℕ))
    → ParseAsPlan content inputs p → content log ≡ Ok text → RunsLog (Shelf content) wanted inputs None log [] outcome asked
    → IsRunAnswered (IsLogLine no_names wanted p text) p (in_log inputs log) outcome asked

-- `state`: the state at the end of the run in the log, or at a present moment
abbrev pub StateIsAnswered : Type 0
StateIsAnswered = (at : Option ℕ) (content : List ℕ → Result (List ℕ) CommandFault) (inputs : InputPaths) (log text : List ℕ) (p : PlannedShop) (outcome : Result Answer CommandFault) (asked : List (List ℕ))
    → ParseAsPlan content inputs p → content log ≡ Ok text → RunsState (Shelf content) inputs None log at [] outcome asked
    → IsRunAnswered (IsStateLine no_names at p text) p (in_log inputs log) outcome asked

-- `gantt --svg`: what comes of the log is drawn
abbrev pub LogIsDrawn : Type 0
LogIsDrawn = (before after : Streams) (content : List ℕ → Result (List ℕ) CommandFault) (inputs : InputPaths) (log text : List ℕ) (p : PlannedShop) (outcome : Result Answer CommandFault) (asked : List (List ℕ))
    → ParseAsPlan content inputs p → content log ≡ Ok text → RunsPicture (DrawsLog (Shelf content) inputs None log) [] before outcome asked after
    → IsRunDrawn (IsLogDrawn no_names p text) p (in_log inputs log) before outcome asked after

-- `plan`: what the search allows for the numbers of this plan, with exactly these files asked for, unless memory runs out before
abbrev pub PlanAnswersPlan : Type 0
PlanAnswersPlan = (rounds : ℕ) (content : List ℕ → Result (List ℕ) CommandFault) (inputs : InputPaths) (p : PlannedShop) (outcome : Result Answer CommandFault) (asked : List (List ℕ))
    → ParseAsPlan content inputs p → SeeksPlan (Shelf content) rounds inputs [] outcome asked
    → (IsSearchAnswer (search_by_two (task_in p)) rounds outcome × (asked ≡ inputs.path ∷ inputs.plan ∷ [])) ⊎ (outcome ≡ Err Memory)

-- `improve`: what the search from this plan comes to, for the rest of the run in its log, if there is one, with exactly these files asked for, unless memory runs out before
abbrev pub ImproveIsAnswered : Type 0
ImproveIsAnswered = (rounds : ℕ) (content : List ℕ → Result (List ℕ) CommandFault) (run : RunPaths) (p : PlannedShop) (text : Option (List ℕ)) (outcome : Result Answer CommandFault) (asked : List (List ℕ))
    → ParseAsPlan content run.inputs p → HasText content run.log text → Improves (Shelf content) rounds run [] outcome asked
    → ByShape (ordered p) run (λ files. IsBetterAnswer (AsksOne rounds) rounds run.at (ordered p) text outcome × (asked ≡ files)) (λ files. IsOrMemory (IsNotShapedLine (ordered p)) outcome × (asked ≡ files))
    ⊎ (outcome ≡ Err Memory)

-- `drive`: where the plan is accepted, its cell is driven, with exactly these files asked for, unless memory runs out before, with no byte read or written
abbrev pub DriveDrivesPlan : Type 0
DriveDrivesPlan = (protocol : Protocol) (before after : Streams) (content : List ℕ → Result (List ℕ) CommandFault) (inputs : InputPaths) (p : PlannedShop) (outcome : Result Answer CommandFault) (asked : List (List ℕ))
    → ParseAsPlan content inputs p → IsWellShaped p → IsAcceptable p → RunsDrive (Shelf content) protocol inputs [] before outcome asked after
    → ((asked ≡ inputs.path ∷ inputs.plan ∷ []) × ((v : VerifiedPlan) × (v.planned ≡ p) × DrivesCell protocol v before after outcome)) ⊎ ((outcome ≡ Err Memory) × (after ≡ before))

-- `resume`: where the plan is well shaped, its log is asked for and recovered, and driven on if it can be, unless memory runs out before, with no byte read or written
abbrev pub ResumeGoesOn : Type 0
ResumeGoesOn = (protocol : Protocol) (at : Option ℕ) (before after : Streams) (content : List ℕ → Result (List ℕ) CommandFault) (inputs : InputPaths) (log text : List ℕ) (p : PlannedShop) (outcome : Result Answer CommandFault) (asked : List (List ℕ))
    → ParseAsPlan content inputs p → IsWellShaped p → content log ≡ Ok text → RunsResume (Shelf content) protocol at inputs log [] before outcome asked after
    → ((asked ≡ inputs.path ∷ inputs.plan ∷ log ∷ []) × ResumesText protocol at p (Ok text) before after outcome) ⊎ ((outcome ≡ Err Memory) × (after ≡ before))

-- the file of this path gives this plan for the instance of this text
pub record ParsesAsPlanOf (content : List ℕ → Result (List ℕ) CommandFault) (instance : List ℕ) (name : Option (List ℕ)) (path : List ℕ) (p : PlannedShop) : Type 0 where
  pub plan : List ℕ
  pub plan_is : content path ≡ Ok plan
  pub parsed : BothParse instance name plan p

-- and the plan is accepted
pub record ParsesAsAcceptedPlan (content : List ℕ → Result (List ℕ) CommandFault) (instance : List ℕ) (name : Option (List ℕ)) (path : List ℕ) (p : PlannedShop) : Type 0 where
  pub parses : ParsesAsPlanOf content instance name path p
  pub well_shaped : IsWellShaped p
  pub acceptable : IsAcceptable p

-- the files of these paths give these plans, one each
abbrev pub ParseAsAcceptedPlans : (List ℕ → Result (List ℕ) CommandFault) → List ℕ → Option (List ℕ) → List (List ℕ) → List PlannedShop → Type 0
ParseAsAcceptedPlans content instance name [] [] = Unit {0}
ParseAsAcceptedPlans content instance name (path ∷ paths) (p ∷ plans) = ParsesAsAcceptedPlan content instance name path p × ParseAsAcceptedPlans content instance name paths plans
ParseAsAcceptedPlans content instance name paths plans = ⊥

-- the cells of these plans were driven
abbrev pub DrivesPlans : Protocol → List PlannedShop → Streams → Streams → Result Answer CommandFault → Type 0
DrivesPlans protocol plans before after outcome = (cells : List VerifiedPlan) × (map (λ (v : VerifiedPlan). v.planned) cells ≡ plans) × DrivesCells protocol cells before after outcome

-- `hub`: where all plans are accepted, their cells are driven, with exactly these files asked for, unless memory runs out before, with no byte read or written
abbrev pub HubDrivesPlans : Type 0
HubDrivesPlans = (protocol : Protocol) (before after : Streams) (content : List ℕ → Result (List ℕ) CommandFault) (path instance : List ℕ) (name : Option (List ℕ)) (files : List (List ℕ)) (plans : List PlannedShop) (outcome : Result Answer CommandFault) (asked : List (List ℕ))
    → content path ≡ Ok instance → ParseAsAcceptedPlans content instance name files plans → RunsHub (Shelf content) protocol path name files [] before outcome asked after
    → ((asked ≡ path ∷ files) × DrivesPlans protocol plans before after outcome) ⊎ ((outcome ≡ Err Memory) × (after ≡ before))

-- the whole input was read, and is answered by the line of the shop's facts; no answer is given only where a read failed or memory ran out
abbrev pub IsInputAnswered : JobShop → Result Answer CommandFault → Input → Type 0
IsInputAnswered shop (Ok answer) after = AreFacts answer shop × (after.left ≡ Some [])
IsInputAnswered shop (Err Read) after = after.failed ≡ true
IsInputAnswered shop (Err Memory) after = Unit {0}
IsInputAnswered shop (Err other) after = ⊥

-- the command without words: an input that gives a shop, of no more bytes than the limit, is answered by the facts
abbrev pub InputAnswersShop : Type 0
InputAnswersShop = (before after : Input) (text description : List ℕ) (shop : JobShop) (outcome : Result Answer CommandFault)
    → before.left ≡ Some text → length text ≤ MAX_INPUT → ParsesAs text None description shop → RunsInput before outcome after → IsInputAnswered shop outcome after

-- ---- plans that aren't accepted, in files that don't change

-- where the plan isn't accepted, it is answered by the line of `check`, with no further file asked for and no byte read or written, when this runs
abbrev pub AnswersByCheck : ((List (List ℕ) → List ℕ → Result (List ℕ) CommandFault → List (List ℕ) → Type 0) → InputPaths
    → List (List ℕ) → Streams → Result Answer CommandFault → List (List ℕ) → Streams → Type 0) → Type 0
AnswersByCheck runs = (before after : Streams) (content : List ℕ → Result (List ℕ) CommandFault) (inputs : InputPaths) (p : PlannedShop) (outcome : Result Answer CommandFault) (asked : List (List ℕ))
    → ParseAsPlan content inputs p → (IsWellShaped p → IsAcceptable p → ⊥) → runs (Shelf content) inputs [] before outcome asked after
    → IsAnswerOfFiles (IsCheckLine p) (inputs.path ∷ inputs.plan ∷ []) outcome asked × (after ≡ before)

abbrev pub DriveAnswersByCheck : Type 0
DriveAnswersByCheck = (protocol : Protocol) → AnswersByCheck (λ gives inputs. RunsDrive gives protocol inputs)

-- a plan that isn't well shaped is answered so by `resume`
abbrev pub ResumeAnswersUnshaped : Type 0
ResumeAnswersUnshaped = (protocol : Protocol) (at : Option ℕ) (log : List ℕ) (before after : Streams) (content : List ℕ → Result (List ℕ) CommandFault) (inputs : InputPaths) (p : PlannedShop) (outcome : Result Answer CommandFault) (asked : List (List ℕ))
    → ParseAsPlan content inputs p → (IsWellShaped p → ⊥) → RunsResume (Shelf content) protocol at inputs log [] before outcome asked after
    → IsAnswerOfFiles (IsCheckLine p) (inputs.path ∷ inputs.plan ∷ []) outcome asked × (after ≡ before)

-- by it the run of these lines can't go on: the plan has a cycle; or they record no event, and it isn't accepted
abbrev pub IsNoPlanFor : PlannedShop → List Entry → Type 0
IsNoPlanFor p recorded = (HasNoCycle p → ⊥) ⊎ ((recorded ≡ []) × (IsAcceptable p → ⊥))

-- and such a plan is answered by the line of `check`, once its log has been asked for, where that records a run, with no byte read or written
abbrev pub ResumeAnswersByCheck : Type 0
ResumeAnswersByCheck = (protocol : Protocol) (at : Option ℕ) (before after : Streams) (content : List ℕ → Result (List ℕ) CommandFault) (inputs : InputPaths) (log text : List ℕ) (p : PlannedShop) (recorded : List Entry) (outcome : Result Answer CommandFault) (asked : List (List ℕ))
    → ParseAsPlan content inputs p → IsWellShaped p → content log ≡ Ok text → LinesParse p (ended_lines text) recorded → IsRun p (events_of recorded) → (cell_after p recorded).last ≤ unwrap_or at (cell_after p recorded).last
    → IsNoPlanFor p recorded → RunsResume (Shelf content) protocol at inputs log [] before outcome asked after
    → IsAnswerOfFiles (IsCheckLine p) (inputs.path ∷ inputs.plan ∷ log ∷ []) outcome asked × (after ≡ before)

-- the line of `check` for a plan, behind the plan's number
pub record IsNumberedLine (number : ℕ) (p : PlannedShop) (answer : Answer) : Type 0 where
  pub line : Answer
  pub is : IsCheckLine p line
  pub text : answer.text.items ≡ decimal number ++ codes " " ++ line.text.items
  pub status : answer.status ≡ line.status

-- `hub`: the first plan that isn't accepted is answered by its number and the line of `check`, with no further file asked for and no byte read or written
abbrev pub HubAnswersByCheck : Type 0
HubAnswersByCheck = (protocol : Protocol) (before after : Streams) (content : List ℕ → Result (List ℕ) CommandFault) (path instance : List ℕ) (name : Option (List ℕ)) (files : List (List ℕ)) (plans : List PlannedShop)
    (file : List ℕ) (p : PlannedShop) (others : List (List ℕ)) (outcome : Result Answer CommandFault) (asked : List (List ℕ))
    → content path ≡ Ok instance → ParseAsAcceptedPlans content instance name files plans → ParsesAsPlanOf content instance name file p → (IsWellShaped p → IsAcceptable p → ⊥)
    → RunsHub (Shelf content) protocol path name (files ++ file ∷ others) [] before outcome asked after
    → IsAnswerOfFiles (IsNumberedLine (length files) p) (path ∷ (files ++ file ∷ [])) outcome asked × (after ≡ before)

-- ---- that a driven cell writes the same

-- the words ask for `drive` with these files, and for no log of its own
pub record AskForDrive (words : List (List ℕ)) (inputs : InputPaths) : Type 0 where
  pub accepted : reasons_in words ≡ []
  pub drive : word_found (found_in words) ≡ command_word_of Drive
  pub log : kept_in (rows_found (found_in words)) ≡ None
  pub path : inputs.path ≡ get_or (files_in (rows_found (found_in words))) 0 []
  pub name : inputs.name ≡ instance_in (rows_found (found_in words))
  pub plan : inputs.plan ≡ get_or (files_in (rows_found (found_in words))) 1 []

-- a run of the program on these words, over files that don't change: it read all of this input and wrote this, no device has failed, and memory didn't run out
pub record RunsWell (content : List ℕ → Result (List ℕ) CommandFault) (words : List (List ℕ)) (input : List ℕ) (status : ℕ) (written : List ℕ) : Type 0 where
  pub before : Devices (List (List ℕ))
  pub after : Devices (List (List ℕ))
  pub log : Option LogEnd
  pub run : RunsProgram (Shelf content) words before status after log
  pub unasked : before.texts ≡ []
  pub given : before.streams.input.left ≡ Some input
  pub start : List ℕ
  pub empty : before.streams.output.written ≡ Some start
  pub wrote : after.streams.output.written ≡ Some (start ++ written)
  pub was_read : after.streams.input.failed ≡ false
  pub was_written : after.streams.output.failed ≡ false
  pub not_out_of_memory : status ≢ 4

-- `drive` with an accepted plan writes the same, and ends with the same status, whenever it is run on the same words, files and input, of no more bytes than the limit
abbrev pub DriveWritesTheSame : Type 0
DriveWritesTheSame = (content : List ℕ → Result (List ℕ) CommandFault) (words : List (List ℕ)) (inputs : InputPaths) (p : PlannedShop) (input : List ℕ) (status other_status : ℕ) (written other : List ℕ)
    → AskForDrive words inputs → ParseAsPlan content inputs p → IsWellShaped p → IsAcceptable p → length input ≤ MAX_INPUT
    → RunsWell content words input status written → RunsWell content words input other_status other → (other_status ≡ status) × (other ≡ written)

-- ---- how the program ends

-- nothing is held back, unless a write of the output has failed
abbrev pub OutputHoldsNothing : Output → Type 0
OutputHoldsNothing output = (output.pending ≡ []) ⊎ (output.failed ≡ true)

-- the first bytes of an answer were written, and then a write failed; of a fault nothing was written
abbrev pub IsUnanswered : Result Answer CommandFault → Output → Output → Type 0
IsUnanswered (Ok answer) before after = (after.failed ≡ true) × TookPart before.written after.written answer.text.items
IsUnanswered (Err fault) before after = after ≡ before

-- what is printed of an outcome: its fault, or out of memory for the words of a refused text; of an answer, that a write of it failed
abbrev pub IsFailureOf : Result Answer CommandFault → Output → CommandFault → Type 0
IsFailureOf (Ok answer) after fault = (fault ≡ Write) × (after.failed ≡ true)
IsFailureOf (Err own) after fault = (fault ≡ own) ⊎ (IsTextRefusal own × (fault ≡ Memory))

-- the outcome of words that choose no command: help or the version that was asked for, or out of memory; what is wrong with the words is none
abbrev pub IsOutcomeOfWords : WordsFault → Result Answer CommandFault → Type 0
IsOutcomeOfWords (Usage true text) outcome = (help : Answer) × (outcome ≡ Ok help) × (help.text.items ≡ string_bytes text)
IsOutcomeOfWords (Usage false text) outcome = ⊥
IsOutcomeOfWords WordsMemory outcome = outcome ≡ Err Memory

-- what is wrong with the words was printed, with status 2
abbrev pub IsUsagePrinted : WordsFault → Errors → Errors → ℕ → Type 0
IsUsagePrinted (Usage true text) before after status = ⊥
IsUsagePrinted (Usage false text) before after status = (status ≡ 2) × WasPrinted (string_bytes text) before after
IsUsagePrinted WordsMemory before after status = ⊥

-- the words choose no command, and come to this outcome
pub record ChoseNone (words : List (List ℕ)) (before : Streams) (outcome : Result Answer CommandFault) (after : Streams) : Type 0 where
  pub fault : WordsFault
  pub refused : NamesOneOf (reasons_in words) fault
  pub is : IsOutcomeOfWords fault outcome
  pub same : after ≡ before

-- the words were refused, and what is wrong with them was printed
pub record WereRefused {W : Type 0} (words : List (List ℕ)) (before : Devices W) (status : ℕ) (after : Devices W) : Type 0 where
  pub fault : WordsFault
  pub refused : NamesOneOf (reasons_in words) fault
  pub printed : IsUsagePrinted fault before.errors after.errors status
  pub same : after.streams ≡ before.streams

module _ {W : Type 0} (gives : W → List ℕ → Result (List ℕ) CommandFault → W → Type 0) where
  -- the plan is accepted, and its cell was driven to this end or up to this fault
  pub record DroveCell (protocol : Protocol) (inputs : InputPaths) (texts : W) (before after : Streams) : Type 0 where
    pub cell : VerifiedPlan
    pub later : W
    pub loads : Loads gives inputs texts (Ok (Judged (Accepted cell))) later
    pub end : Result DriveEnd DriveFault
    pub is : IsDriveIn protocol cell before after end

  -- the plan is well shaped, and its cell was driven with a log: from its start, as it is accepted, or from where the log leads
  pub record DroveWithLog (protocol : Protocol) (inputs : InputPaths) (texts : W) (before after : Streams) : Type 0 where
    pub plan : PlannedShop
    pub later : W
    pub shapes : Shapes gives inputs texts (Ok (Ok plan)) later
    pub outcome : Result Answer CommandFault
    pub log : Option LogEnd
    pub is : ((v : VerifiedPlan) × (v.planned ≡ plan) × DrivesWithLog v.planned [] (IsDriveIn protocol v) end_of_drive (step_of before outcome after log))
        ⊎ ((t : Recovered) × (plan_of t ≡ plan) × GoesOnWithLog protocol t (step_of before outcome after log))

  -- the plan is well shaped, its run was recovered from the log, and driven on by this protocol to this end or up to this fault
  pub record DroveOn (protocol : Protocol) (at : Option ℕ) (inputs : InputPaths) (log : List ℕ) (texts : W) (before after : Streams) : Type 0 where
    pub plan : PlannedShop
    pub mid : W
    pub shapes : Shapes gives inputs texts (Ok (Ok plan)) mid
    pub text : List ℕ
    pub later : W
    pub asks : Asks gives log mid (Ok text) later
    pub recovered : Recovered
    pub takes : IsRecovery plan at text (Ok recovered)
    pub end : Result RestEnd DriveFault
    pub is : IsResumeIn protocol recovered before after end

  -- all plans are accepted, and their cells were driven to this end or up to this fault
  pub record DroveCells (protocol : Protocol) (path : List ℕ) (name : Option (List ℕ)) (plans : List (List ℕ)) (texts : W) (before after : Streams) : Type 0 where
    pub cells : List VerifiedPlan
    pub loaded : Result Cells CommandFault
    pub later : W
    pub loads : LoadsCells gives path name plans texts loaded later
    pub accepted : AreAccepted cells loaded
    pub end : Result HubEnd DriveFault
    pub are : AreDrivesIn protocol cells before after end

  -- a picture was written, or its first bytes up to a write that failed
  pub record DrewPicture (comes : W → Result Drawn CommandFault → W → Type 0) (texts : W) (before after : Streams) : Type 0 where
    pub picture : List ℕ
    pub status : ℕ
    pub later : W
    pub came : comes texts (Ok (Picture picture status)) later
    pub outcome : Result Answer CommandFault
    pub out : IsPictureOut picture status before.output after.output outcome

  -- nothing was written; or the command drives cells, and those of its files were driven; or its files were drawn
  abbrev pub WereDriven : CommandName → Chosen → W → Streams → Streams → Type 0
  WereDriven name chosen texts before after = (after.output ≡ before.output)
      ⊎ (((name ≡ Drive) × (DroveCell (protocol_in chosen) (inputs_in chosen) texts before after ⊎ DroveWithLog (protocol_in chosen) (inputs_in chosen) texts before after))
      ⊎ (((name ≡ Resume) × DroveOn (protocol_in chosen) chosen.at (inputs_in chosen) (file_at chosen 2) texts before after)
      ⊎ (((name ≡ Hub) × DroveCells (protocol_in chosen) (file_at chosen 0) (name_in chosen) (plans_in chosen) texts before after)
      ⊎ (((name ≡ Schedule) × DrewPicture (DrawsRest gives (run_in chosen)) texts before after)
      ⊎ ((name ≡ Gantt) × DrewPicture (DrawsLog gives (inputs_in chosen) (names_file chosen) (file_at chosen 2)) texts before after)))))

  -- the command that the words choose was run to an outcome
  pub record RanCommand (words : List (List ℕ)) (before : Devices W) (outcome : Result Answer CommandFault) (mid : Streams) (after : Devices W) (log : Option LogEnd) : Type 0 where
    pub chosen : Chosen
    pub accepted : reasons_in words ≡ []
    pub is : IsChoiceOf words (found_in words) chosen
    pub runs : RunsApart gives chosen before outcome mid after log
    pub driven : WereDriven chosen.name chosen before.texts before.streams mid

  -- what the words come to, before it is printed
  abbrev pub Ran : List (List ℕ) → Devices W → Result Answer CommandFault → Streams → Devices W → Option LogEnd → Type 0
  Ran words before outcome mid after log = RanCommand words before outcome mid after log ⊎ ChoseNone words before.streams outcome mid

  -- what failed was printed by its own line with its status, or by `drive` with a log with 6 in place of 5
  pub record WasFailurePrinted (words : List (List ℕ)) (before : Devices W) (status : ℕ) (after : Devices W) (log : Option LogEnd) : Type 0 where
    pub outcome : Result Answer CommandFault
    pub mid : Streams
    pub ran : Ran words before outcome mid after log
    pub fault : CommandFault
    pub failed : IsFailureOf outcome after.streams.output fault
    pub own : ℕ
    pub printed : IsLineOut fault before.errors after.errors own
    pub status_is : (status ≡ own) ⊎ ((own ≡ 5) × (status ≡ 6))

  -- a command that draws said on the standard error what is answered in place of a picture: nothing, where there is one
  pub record WasPrintedAside (words : List (List ℕ)) (before : Devices W) (status : ℕ) (after : Devices W) (log : Option LogEnd) : Type 0 where
    pub answer : Answer
    pub mid : Streams
    pub ran : RanCommand words before (Ok answer) mid after log
    pub draws : draws_in ran.chosen ≡ true
    pub printed : WasPrinted answer.text.items before.errors after.errors
    pub own : status ≡ answer.status

  -- nothing was written but what driven cells answered, or a picture, and after it at most the first bytes of an answer whose write failed
  pub record WroteNoMore (words : List (List ℕ)) (before after : Devices W) (log : Option LogEnd) : Type 0 where
    pub outcome : Result Answer CommandFault
    pub mid : Streams
    pub ran : Ran words before outcome mid after log
    pub unanswered : IsUnanswered outcome mid.output after.streams.output

  -- the status is 2 or more, and what failed was printed; or it is 0 or 1, and nothing was printed but what is answered in place of a picture
  abbrev pub PrintsFaultsAlone : List (List ℕ) → Devices W → ℕ → Devices W → Option LogEnd → Type 0
  PrintsFaultsAlone words before status after log =
      ((2 ≤ status) × (WereRefused words before status after ⊎ WasFailurePrinted words before status after log)) ⊎ ((status ≤ 1) × ((after.errors ≡ before.errors) ⊎ WasPrintedAside words before status after log))

  -- in each run of the program what fails is printed on the error output with its status, and nothing else is printed but what is answered in place of a picture
  abbrev pub FaultsArePrinted : Type 0
  FaultsArePrinted = (words : List (List ℕ)) (before : Devices W) (status : ℕ) (after : Devices W) (log : Option LogEnd) → RunsProgram gives words before status after log → PrintsFaultsAlone words before status after log

  -- at the end of each run of the program nothing is held back, unless a write of the output has failed
  abbrev pub NothingIsHeldBack : Type 0
  NothingIsHeldBack = (words : List (List ℕ)) (before : Devices W) (status : ℕ) (after : Devices W) (log : Option LogEnd) → before.streams.output.pending ≡ [] → RunsProgram gives words before status after log
      → OutputHoldsNothing after.streams.output

  -- where the status is 2 or more, nothing was written but what driven cells answered, or a picture, and the first bytes of an answer whose write failed
  abbrev pub WhatFailsIsNoAnswer : Type 0
  WhatFailsIsNoAnswer = (words : List (List ℕ)) (before : Devices W) (status : ℕ) (after : Devices W) (log : Option LogEnd) → 2 ≤ status → RunsProgram gives words before status after log
      → WereRefused words before status after ⊎ WroteNoMore words before after log
