-- The log that `revise` prints, which begins with its own texts.
use Rattle.std.specs.Prelude.{◌≡◌, ◌≢◌, ◌⊎◌, ℕ, Bool, true, false, List, ◌++◌, Option, None, Some, Result, Ok, Err, codes, map}
use Rattle.shop_base.specs.Plan.{PlannedShop}
use Rattle.event_lines.specs.declared.run_digits.RunDigits.{RunDigits}
use Rattle.event_lines.specs.RunDigits.{digits_words}
use Rattle.run_log.specs.Digits.{digits_of}
use Rattle.run_journal.specs.declared.log_run.LogRun.{LogRun}
use Rattle.run_journal.specs.declared.log_run.LogRun.TheVariants.{Unbegun, Unnamed, Named}
use Rattle.run_journal.specs.LogRuns.{IsLogRunOf}
use Rattle.people_names.specs.NameBooks.{NameBook}
use Rattle.people_names.specs.NameLines.{name_lines}
use Rattle.plan_revise.specs.declared.change.Change.{Change}
use Rattle.log_chapters.specs.declared.parts.Origin.{Origin}
use Rattle.log_chapters.specs.declared.parts.Origin.TheVariants.{Was}
use Rattle.log_chapters.specs.Chapters.{chapter_text}
use Rattle.log_chapters.specs.NamesGiven.{HasNames}
use Rattle.run_revising.specs.declared.next.NextRun.{NextRun}
use Rattle.command_answers.specs.declared.answer.Answer.{Answer}
use Rattle.command_answers.specs.declared.command_fault.CommandFault.{CommandFault}
use Rattle.command_answers.specs.declared.chapters.LogMisfit.{LogMisfit}
use Rattle.command_answers.specs.declared.chapters.LogMisfit.TheVariants.{NamesNotGiven, OtherPlan}
use Rattle.command_answers.specs.declared.revises.Revised.{Revised}
use Rattle.command_answers.specs.declared.revises.Revised.TheVariants.{PlanText, InstanceText, LogText}
use Rattle.command_answers.specs.Asked.{AskedRevision}
use Rattle.command_answers.specs.Documents.{IsDocumentAnswer}
use Rattle.command_answers.specs.InstanceTexts.{IsInstanceAnswer}
use Rattle.command_answers.specs.MadeJobs.{all_made}

-- ---- which logs are told anew

-- what is printed is a log
abbrev pub is_log : Revised → Bool
is_log PlanText = false
is_log InstanceText = false
is_log (LogText without hands_over) = true

-- the jobs that are over are left out
abbrev pub leaves_out : Revised → Bool
leaves_out PlanText = false
leaves_out InstanceText = false
leaves_out (LogText without hands_over) = without

-- and it has to be the log of the plan that is given
abbrev pub keeps_log : Revised → Bool
keeps_log PlanText = false
keeps_log InstanceText = false
keeps_log (LogText without true) = false
keeps_log (LogText without false) = true

-- the log has names, and none are given
abbrev pub LacksNames : AskedRevision → List (List ℕ) → Type 0
LacksNames asked lines = (asked.names ≡ None) × HasNames lines

-- no line says by which plan the run is, or the last that does says by this one
abbrev pub IsForPlan : RunDigits → LogRun → Type 0
IsForPlan digits Unbegun = Unit {0}
IsForPlan digits Unnamed = Unit {0}
IsForPlan digits (Named named) = named ≡ digits

-- why the log of these lines isn't told anew for the plan that is given: it has names, and none are given; or else its last line of a plan is another one's
abbrev pub IsLogMisfit : AskedRevision → PlannedShop → List (List ℕ) → LogMisfit → Type 0
IsLogMisfit asked p lines NamesNotGiven = (is_log asked.prints ≡ true) × LacksNames asked lines
IsLogMisfit asked p lines (OtherPlan digits) = (keeps_log asked.prints ≡ true) × (LacksNames asked lines → ⊥) × IsLogRunOf lines (Named digits) × (digits ≢ digits_of p.shop p.plan)

-- what is read of the run in these lines is for the plan that is given
abbrev pub IsLogFor : PlannedShop → List (List ℕ) → Type 0
IsLogFor p lines = (run : LogRun) × IsLogRunOf lines run × IsForPlan (digits_of p.shop p.plan) run

-- nothing is wrong with the log
pub record FitsLog (asked : AskedRevision) (p : PlannedShop) (lines : List (List ℕ)) : Type 0 where
  pub named : is_log asked.prints ≡ true → LacksNames asked lines → ⊥
  pub kept : keeps_log asked.prints ≡ true → IsLogFor p lines

-- `log of another plan P shop S`
abbrev pub other_plan_line : RunDigits → List ℕ
other_plan_line digits = codes "log of another " ++ (digits_words digits ++ codes "\n")

-- the line that says what is wrong
abbrev pub log_misfit_line : LogMisfit → List ℕ
log_misfit_line NamesNotGiven = codes "names not given\n"
log_misfit_line (OtherPlan digits) = other_plan_line digits

abbrev pub IsMisfitLine : LogMisfit → Answer → Type 0
IsMisfitLine misfit answer = (answer.text.items ≡ log_misfit_line misfit) × (answer.status ≡ 1)

-- ---- what is printed

-- what each job was: those that stay had numbers, and those behind them are made by changes
abbrev pub origins_of : List Change → NextRun → List Origin
origins_of changes next = map Was next.were.items ++ all_made changes

-- the text of names, if any are given
abbrev pub printed_names : NameBook → Bool → Option (List ℕ)
printed_names book false = None
printed_names book true = Some (name_lines book)

-- the log of a run and its plan, by these changes, that begins with these texts
abbrev pub run_chapter : List ℕ → List ℕ → Option (List ℕ) → List Change → NextRun → List ℕ
run_chapter file plan names changes next = chapter_text file plan names (origins_of changes next) next.entries.items (digits_of next.shaped.shop next.shaped.plan)

module _ (description : List ℕ) (changes : List Change) (book : NameBook) (named : Bool) (next : NextRun) where
  -- the log begins with the text of the instance and that of the plan, as each is printed alone, and with these names, if any are given
  pub record IsRunChapter (answer : Answer) : Type 0 where
    pub file : Answer
    pub is_file : IsInstanceAnswer description next.shaped.shop (Ok file)
    pub plan : Answer
    pub is_plan : IsDocumentAnswer next.shaped.plan 0 (Ok plan)
    pub text : answer.text.items ≡ run_chapter file.text.items plan.text.items (printed_names book named) changes next
    pub good : answer.status ≡ 0

  -- so, or one of the two can't be printed, or memory runs out
  abbrev pub IsChapterAnswer : Result Answer CommandFault → Type 0
  IsChapterAnswer (Ok answer) = IsRunChapter answer
  IsChapterAnswer (Err fault) = IsInstanceAnswer description next.shaped.shop (Err fault) ⊎ IsDocumentAnswer next.shaped.plan 0 (Err fault)

-- what is printed of a run and its plan
abbrev pub IsPrintedAs : Revised → List ℕ → List Change → NameBook → Bool → NextRun → Result Answer CommandFault → Type 0
IsPrintedAs PlanText description changes book named next = IsDocumentAnswer next.shaped.plan 0
IsPrintedAs InstanceText description changes book named next = IsInstanceAnswer description next.shaped.shop
IsPrintedAs (LogText without hands_over) description changes book named next = IsChapterAnswer description changes book named next
