-- The pictures that answer `gantt` and `schedule`, where they are asked for.
use Rattle.std.specs.Prelude.{◌≡◌, ℕ, max, Bool, true, false, List, [], ◌∷◌, ◌⊎◌, Option, None, Some, Result}
use Rattle.shop_base.specs.Plan.{PlannedShop, jobs, machines}
use Rattle.shop_base.specs.Cell.{Cell, start}
use Rattle.text_lines.specs.Lines.{lines_of, ended_lines}
use Rattle.cell_tables.specs.declared.entry.Entry.{Entry}
use Rattle.people_names.specs.NameBooks.{NameBook}
use Rattle.run_picture.specs.declared.head.Head.{Head}
use Rattle.run_picture.specs.declared.head.Head.TheVariants.{Accepted as InTime, Late as TooLate, Log}
use Rattle.run_picture.specs.declared.head.Sheet.{Sheet}
use Rattle.run_picture.specs.declared.visit.DrawnVisit.{DrawnVisit}
use Rattle.run_picture.specs.Late.{late_leavings, latest}
use Rattle.run_picture.specs.LastMoments.{last_of}
use Rattle.run_picture.specs.PictureText.{IsPicture}
use Rattle.plan_verifier.specs.declared.verdict.Judged.{Judged}
use Rattle.plan_verifier.specs.declared.verdict.Judged.TheVariants.{Accepted, Refused}
use Rattle.plan_verifier.specs.declared.verdict.Why.TheVariants.{Cycle, Late}
use Rattle.plan_explain.specs.Known.{IsKnownVerdict}
use Rattle.plan_explain.specs.FirstLines.{cycle_line}
use Rattle.plan_schedule.specs.declared.picture_visits.DrawnRun.{DrawnRun}
use Rattle.plan_schedule.specs.DrawnVisits.{IsDrawnRun}
use Rattle.run_log.specs.declared.audit_result.Audit.{Audit}
use Rattle.run_log.specs.Audits.{IsAudit}
use Rattle.run_gantt.specs.DrawnVisits.{drawn_visits}
use Rattle.run_gantt.specs.LeavingsSoFar.{leavings_so_far}
use Rattle.command_answers.specs.declared.answer.Answer.{Answer}
use Rattle.command_answers.specs.declared.command_fault.CommandFault.{CommandFault}
use Rattle.command_answers.specs.declared.pictures.Drawn.{Drawn}
use Rattle.command_answers.specs.declared.pictures.Drawn.TheVariants.{Picture, Line}
use Rattle.command_answers.specs.LogLines.{IsLogRefused}
use Rattle.command_answers.specs.Rests.{RecordsRun, IsRunRefused}
use Rattle.command_answers.specs.Commands.{AsksOfRun, IfShapedBy, InputPaths, RunPaths, WithBoth, WithNamesAndLog}

-- nothing is drawn, but there is such a line
abbrev pub IsLineAlone : (Answer → Type 0) → Drawn → Type 0
IsLineAlone Is (Picture picture status) = ⊥
IsLineAlone Is (Line answer) = Is answer

-- a picture of this kind is drawn, with this status
abbrev pub IsPictureAlone : (List ℕ → Type 0) → ℕ → Drawn → Type 0
IsPictureAlone Is good (Picture picture status) = Is picture × (status ≡ good)
IsPictureAlone Is good (Line answer) = ⊥

-- ---- a log

-- what the picture of a log's run is of
abbrev pub log_sheet : PlannedShop → Audit → Sheet
log_sheet p run = record { machines = machines p; last = run.last; head = Log run.last run.complete; present = None }

-- the picture of the run that a log records: its visits, up to its last moment, and the jobs that have left late marked
pub record IsLogPicture (names : NameBook) (p : PlannedShop) (log picture : List ℕ) : Type 0 where
  pub run : Audit
  pub is : IsAudit p (lines_of log) run
  pub drawn : IsPicture names (log_sheet p run) (drawn_visits p run.entries.items) (late_leavings p (leavings_so_far (jobs p) run.entries.items)) picture

-- what comes of a log: its picture, or the line of its first fault
abbrev pub IsLogDrawn : NameBook → PlannedShop → List ℕ → Drawn → Type 0
IsLogDrawn names p log drawn = IsPictureAlone (IsLogPicture names p log) 0 drawn ⊎ IsLineAlone (IsLogRefused p (lines_of log)) drawn

-- ---- the exact run, from any cell on

-- what stands above the rows: of a run in time when the last job leaves, else the greatest lateness of a job that hasn't left
abbrev pub run_head : Bool → DrawnRun → Head
run_head true run = InTime (latest run.leavings.items)
run_head false run = TooLate run.late_by

-- what the picture of such a run is of: its axis goes up to its last moment, or to the present moment t if that is later
abbrev pub run_sheet : PlannedShop → ℕ → Option ℕ → Bool → DrawnRun → Sheet
run_sheet p t line in_time run = record {
  machines = machines p;
  last = max (last_of run.visits.items) t;
  head = run_head in_time run;
  present = line;
}

module _ (names : NameBook) (p : PlannedShop) (c : Cell) (t : ℕ) (line : Option ℕ) (visits : List DrawnVisit) where
  -- the picture of the run that goes on from a cell c and the present moment t: the visits known so far and those ahead, and the jobs that leave or have left late marked
  pub record IsRunPicture (in_time : Bool) (picture : List ℕ) : Type 0 where
    pub run : DrawnRun
    pub is : IsDrawnRun p c t visits run
    pub drawn : IsPicture names (run_sheet p t line in_time run) run.visits.items (late_leavings p run.leavings.items) picture

  -- what comes of a verdict: a picture with the verdict's status, but of a cycle the line of the verdict
  abbrev pub IsVerdictDrawn : Judged → Drawn → Type 0
  IsVerdictDrawn (Accepted times) drawn = IsPictureAlone (IsRunPicture true) 0 drawn
  IsVerdictDrawn (Refused (Late job leaves chain times)) drawn = IsPictureAlone (IsRunPicture false) 1 drawn
  IsVerdictDrawn (Refused (Cycle nodes)) drawn = IsLineAlone (λ answer. (answer.text.items ≡ cycle_line nodes.items) × (answer.status ≡ 1)) drawn

  -- what comes of a cell: the verdict on the rest is drawn
  pub record IsRestDrawn (drawn : Drawn) : Type 0 where
    pub verdict : Judged
    pub judged : IsKnownVerdict p c t verdict
    pub is : IsVerdictDrawn verdict drawn

-- the present moment has a line, unless no moment is given and the log records nothing
abbrev pub line_at : Option ℕ → List Entry → ℕ → Option ℕ
line_at None [] t = None
line_at None (entry ∷ entries) t = Some t
line_at (Some given) entries t = Some t

-- what comes of where a run is: the rest of the run that the whole lines of its log record is drawn behind the visits so far, or there is the line that says why there is none; or before it has begun the whole plan is drawn
abbrev pub IsRestDrawing : NameBook → Option ℕ → PlannedShop → Option (List ℕ) → Drawn → Type 0
IsRestDrawing names at p None drawn = IsRestDrawn names p (start p) 0 None [] drawn
IsRestDrawing names at p (Some log) drawn =
    RecordsRun (λ c entries t. IsRestDrawn names p c t (line_at at entries t) (drawn_visits p entries) drawn) at (ended_lines log) p
    ⊎ IsLineAlone (IsRunRefused at (ended_lines log) p) drawn

module _ {W : Type 0} (gives : W → List ℕ → Result (List ℕ) CommandFault → W → Type 0) where
  -- `gantt --svg`: both are read, then the names, and then the log
  abbrev pub DrawsLog : InputPaths → Option (List ℕ) → List ℕ → W → Result Drawn CommandFault → W → Type 0
  DrawsLog inputs names log = WithBoth gives inputs (λ p. IfShapedBy IsLineAlone p (WithNamesAndLog gives names log p (λ book. IsLogDrawn book p)))

  -- `schedule --svg`: the exact run that goes on is drawn
  abbrev pub DrawsRest : RunPaths → W → Result Drawn CommandFault → W → Type 0
  DrawsRest run = AsksOfRun gives IsLineAlone None (λ p book. IsRestDrawing book run.at p) run
