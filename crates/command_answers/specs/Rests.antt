-- The answers on a plan, and on the rest of a run: those of `check`, `explain` and `schedule`.
use Rattle.std.specs.Prelude.{◌≡◌, ℕ, ◌<◌, List, ◌++◌, ◌⊎◌, Option, None, Some, Result, codes, decimal}
use Rattle.shop_base.specs.{Plan.PlannedShop, Cell.Cell, Cell.start}
use Rattle.text_lines.specs.Lines.{ended_lines}
use Rattle.cell_tables.specs.Rests.{present_of}
use Rattle.cell_tables.specs.declared.entry.Entry.{Entry}
use Rattle.cell_tables.specs.declared.present_fault.PresentFault.TheVariants.{Past, TooLarge}
use Rattle.run_log.specs.Present.{IsCellOf, IsRunAt}
use Rattle.run_log.specs.declared.present_run.RunFault.{RunFault}
use Rattle.run_log.specs.declared.present_run.RunFault.TheVariants.{Log, Present}
use Rattle.plan_verifier.specs.declared.verdict.Judged.{Judged}
use Rattle.plan_verifier.specs.declared.verdict.Judged.TheVariants.{Accepted, Refused}
use Rattle.people_names.specs.NameBooks.{NameBook}
use Rattle.plan_explain.specs.{Known.IsKnownVerdict, FirstLines.IsFirstLine, Explained.IsExplained}
use Rattle.plan_schedule.specs.Scheduled.{IsScheduled}
use Rattle.command_answers.specs.declared.answer.Answer.{Answer}
use Rattle.command_answers.specs.declared.rests.PlanAnswer.{PlanAnswer}
use Rattle.command_answers.specs.declared.rests.PlanAnswer.TheVariants.{Verdict, Reasons, Moments}
use Rattle.command_answers.specs.declared.command_fault.CommandFault.{CommandFault}
use Rattle.command_answers.specs.Checks.{IsVerdictLine}
use Rattle.command_answers.specs.LogLines.{IsLogFaultAnswer, IsLogRefused}
use Rattle.command_answers.specs.Steps.{IsOrMemory}

-- the status of a verdict
abbrev pub rest_status : Judged → ℕ
rest_status (Accepted times) = 0
rest_status (Refused why) = 1

-- the job whose chain is asked for, if there is one
abbrev pub job_asked : PlanAnswer → Option ℕ
job_asked Verdict = None
job_asked (Reasons job) = job
job_asked Moments = None

-- the text of a verdict: its first line, its explanation or its schedule
abbrev pub IsTextOf : NameBook → PlanAnswer → PlannedShop → Cell → ℕ → Judged → List ℕ → Type 0
IsTextOf names Verdict p c t = IsFirstLine p c t
IsTextOf names (Reasons job) p c t = IsExplained names p c t job
IsTextOf names Moments p c t = IsScheduled names p c t

-- the text of this verdict, with its status
pub record IsAnswerBy (names : NameBook) (wanted : PlanAnswer) (p : PlannedShop) (c : Cell) (t : ℕ) (verdict : Judged) (answer : Answer) : Type 0 where
  pub text : IsTextOf names wanted p c t verdict answer.text.items
  pub status : answer.status ≡ rest_status verdict

-- what is printed of the rest from a cell c and a present moment t on: the text of the verdict on it, with its status
pub record AnswersRest (names : NameBook) (wanted : PlanAnswer) (p : PlannedShop) (c : Cell) (t : ℕ) (answer : Answer) : Type 0 where
  pub verdict : Judged
  pub judged : IsKnownVerdict p c t verdict
  pub text : IsTextOf names wanted p c t verdict answer.text.items
  pub status : answer.status ≡ rest_status verdict

-- what is printed of a whole plan, which is the rest of a run that hasn't begun: of the verdict alone its line in the plan's own words
abbrev pub AnswersPlan : NameBook → PlanAnswer → PlannedShop → Answer → Type 0
AnswersPlan names Verdict p = IsVerdictLine p
AnswersPlan names (Reasons job) p = AnswersRest names (Reasons job) p (start p) 0
AnswersPlan names Moments p = AnswersRest names Moments p (start p) 0

-- ---- the rest of the run in a log

-- `log past L`
abbrev pub log_past_line : ℕ → List ℕ
log_past_line last = codes "log past " ++ decimal last ++ codes "\n"

-- the line of a present moment before the last one
abbrev pub IsPastLine : ℕ → Answer → Type 0
IsPastLine last answer = (answer.text.items ≡ log_past_line last) × (answer.status ≡ 1)

-- there is a line for the fault: the moment isn't past the latest
abbrev pub HasLine : RunFault → Type 0
HasLine (Log fault) = Unit {0}
HasLine (Present (Past last)) = Unit {0}
HasLine (Present TooLarge) = ⊥

-- what is answered where there is no run up to the present moment: the line of the log's first fault, or of a moment that is past
abbrev pub IsRunFaultAnswer : RunFault → Result Answer CommandFault → Type 0
IsRunFaultAnswer (Log fault) outcome = IsLogFaultAnswer fault outcome
IsRunFaultAnswer (Present (Past last)) outcome = IsOrMemory (IsPastLine last) outcome
IsRunFaultAnswer (Present TooLarge) outcome = ⊥

-- the line of a present moment that is given and is before the last one
pub record IsRestPast (at : Option ℕ) (lines : List (List ℕ)) (p : PlannedShop) (answer : Answer) : Type 0 where
  pub cell : Cell
  pub run : IsCellOf lines p cell
  pub before : present_of at cell.last < cell.last
  pub line : IsPastLine cell.last answer

-- the line of the lines' first fault, or of a moment that is past
abbrev pub IsRunRefused : Option ℕ → List (List ℕ) → PlannedShop → Answer → Type 0
IsRunRefused at lines p answer = IsLogRefused p lines answer ⊎ IsRestPast at lines p answer

-- the lines record a run of the plan, and Comes holds of its cell, its entries and the present moment
pub record RecordsRun (Comes : Cell → List Entry → ℕ → Type 0) (at : Option ℕ) (lines : List (List ℕ)) (p : PlannedShop) : Type 0 where
  pub cell : Cell
  pub entries : List Entry
  pub present : ℕ
  pub run : IsRunAt lines at p cell entries present
  pub comes : Comes cell entries present

-- what is printed of a log: this of the rest of the run that its whole lines record, or why there is none
abbrev pub IsLogAnswer : (PlannedShop → Cell → ℕ → Answer → Type 0) → Option ℕ → PlannedShop → List ℕ → Answer → Type 0
IsLogAnswer AnswersAt at p log answer = RecordsRun (λ c entries t. AnswersAt p c t answer) at (ended_lines log) p ⊎ IsRunRefused at (ended_lines log) p answer

-- what is printed where a run is: so of its log, or before it has begun of the whole plan
abbrev pub IsRestLine : NameBook → PlanAnswer → Option ℕ → PlannedShop → Option (List ℕ) → Answer → Type 0
IsRestLine names wanted at p None = AnswersPlan names wanted p
IsRestLine names wanted at p (Some log) = IsLogAnswer (AnswersRest names wanted) at p log
