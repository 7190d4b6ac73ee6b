-- The answers of the commands `audit` and `gantt`.
use Rattle.std.specs.Prelude.{◌≡◌, ℕ, Bool, true, false, List, ◌++◌, ◌⊎◌, Option, Some, None, Result, Err, codes, decimal}
use Rattle.shop_base.specs.Plan.{PlannedShop, machines}
use Rattle.text_lines.specs.Lines.{lines_of}
use Rattle.run_log.specs.declared.audit_result.Audit.{Audit}
use Rattle.run_log.specs.declared.audit_fault.AuditFault.{AuditFault}
use Rattle.run_log.specs.declared.audit_fault.AuditFault.TheVariants.{Memory}
use Rattle.run_log.specs.Audits.{IsAudit, IsFirstBad, fault_line}
use Rattle.run_log.specs.AuditNames.{fault_name}
use Rattle.people_names.specs.NameBooks.{NameBook}
use Rattle.run_gantt.specs.GanttText.{gantt_text}
use Rattle.command_answers.specs.declared.answer.Answer.{Answer}
use Rattle.command_answers.specs.declared.command_fault.CommandFault.{CommandFault}
use Rattle.command_answers.specs.declared.command_fault.CommandFault.TheVariants.{Memory as OutOfMemory}
use Rattle.command_answers.specs.declared.logs.LogAnswer.{LogAnswer}
use Rattle.command_answers.specs.declared.logs.LogAnswer.TheVariants.{Numbers, Drawing}
use Rattle.command_answers.specs.Steps.{IsOrMemory}

-- whether the run has ended, in words
abbrev pub run_end_words : Bool → List ℕ
run_end_words true = codes " complete\n"
run_end_words false = codes " partial\n"

-- the line of a log that records a run, by its numbers
abbrev pub kept_line : Audit → List ℕ
kept_line run = codes "log kept reports " ++ decimal run.reports ++ codes " orders " ++ decimal run.orders ++ codes " last " ++ decimal run.last ++ run_end_words run.complete

-- the line of a log that is refused: the number of its first bad line, and the name of the fault
abbrev pub log_refused_line : ℕ → List ℕ → List ℕ
log_refused_line line name = codes "log refused " ++ decimal line ++ codes " " ++ name ++ codes "\n"

-- what is printed of a run: its numbers, or its Gantt text
abbrev pub run_text : NameBook → LogAnswer → PlannedShop → Audit → List ℕ
run_text names Numbers p run = kept_line run
run_text names Drawing p run = gantt_text names (machines p) run.entries.items

abbrev pub IsRunAnswer : NameBook → LogAnswer → PlannedShop → Audit → Answer → Type 0
IsRunAnswer names wanted p run answer = (answer.text.items ≡ run_text names wanted p run) × (answer.status ≡ 0)

-- what is answered of a log that records a run of the plan
pub record IsLogKept (names : NameBook) (wanted : LogAnswer) (p : PlannedShop) (log : List ℕ) (answer : Answer) : Type 0 where
  pub run : Audit
  pub is : IsAudit p (lines_of log) run
  pub answered : IsRunAnswer names wanted p run answer

-- the line of a fault
abbrev pub IsFaultLine : AuditFault → Answer → Type 0
IsFaultLine fault answer = (answer.text.items ≡ log_refused_line (fault_line fault) (fault_name fault)) × (answer.status ≡ 1)

-- the line of lines of a log that record none: their first fault
pub record IsLogRefused (p : PlannedShop) (lines : List (List ℕ)) (answer : Answer) : Type 0 where
  pub fault : AuditFault
  pub first : IsFirstBad p lines fault
  pub line : IsFaultLine fault answer

-- what is printed of a log
abbrev pub IsLogLine : NameBook → LogAnswer → PlannedShop → List ℕ → Answer → Type 0
IsLogLine names wanted p log answer = IsLogKept names wanted p log answer ⊎ IsLogRefused p (lines_of log) answer

-- the fault of a command that the audit's is, if memory ran out
abbrev pub audit_command_fault : AuditFault → Option CommandFault
audit_command_fault Memory = Some OutOfMemory
audit_command_fault fault = None

-- out of memory is a fault of the command, and any other fault is answered by its line, unless memory runs out
abbrev pub IsLogFaultAnswer : AuditFault → Result Answer CommandFault → Type 0
IsLogFaultAnswer Memory outcome = outcome ≡ Err OutOfMemory
IsLogFaultAnswer fault outcome = IsOrMemory (IsFaultLine fault) outcome
