-- Why a log isn't driven as the words of `drive --log` ask, and the line that says so.
use Rattle.std.specs.Prelude.{◌≡◌, ◌≢◌, ◌⊎◌, ℕ, List, codes, Result}
use Rattle.event_lines.specs.declared.run_digits.RunDigits.{RunDigits}
use Rattle.run_journal.specs.declared.log_run.LogRun.{LogRun}
use Rattle.run_journal.specs.declared.log_run.LogRun.TheVariants.{Unbegun, Named}
use Rattle.command_words.specs.declared.words.log_start.LogStart.{LogStart}
use Rattle.command_words.specs.declared.words.log_start.LogStart.TheVariants.{Any, New, Continue, HandOver}
use Rattle.command_answers.specs.declared.answer.Answer.{Answer}
use Rattle.command_answers.specs.declared.command_fault.CommandFault.{CommandFault}
use Rattle.command_answers.specs.Chapters.{other_plan_line}
use Rattle.command_answers.specs.Steps.{IsOrMemory}
use Rattle.command_run.specs.declared.misfits.Misfit.{Misfit}
use Rattle.command_run.specs.declared.misfits.Misfit.TheVariants.{NotNew, NotBegun, OtherPlan}

-- the log has to have begun
abbrev pub NeedsBegun : LogStart → Type 0
NeedsBegun start = (start ≡ Continue) ⊎ (start ≡ HandOver)

-- the plan that it names has to be this one
abbrev pub WantsSamePlan : LogStart → Type 0
WantsSamePlan start = (start ≡ Any) ⊎ (start ≡ Continue)

-- why a log whose lines say this of its run isn't driven by a plan with these digits: it has begun, and should be new; it hasn't begun, and should have; or its last line of a plan is another one's
abbrev pub IsMisfit : LogStart → LogRun → RunDigits → Misfit → Type 0
IsMisfit start run digits NotNew = (start ≡ New) × (run ≢ Unbegun)
IsMisfit start run digits NotBegun = NeedsBegun start × (run ≡ Unbegun)
IsMisfit start run digits (OtherPlan other) = WantsSamePlan start × (run ≡ Named other) × (other ≢ digits)

-- the line that says so
abbrev pub misfit_line : Misfit → List ℕ
misfit_line NotNew = codes "log not new\n"
misfit_line NotBegun = codes "log not begun\n"
misfit_line (OtherPlan digits) = other_plan_line digits

abbrev pub IsMisfitLine : Misfit → Answer → Type 0
IsMisfitLine misfit answer = (answer.text.items ≡ misfit_line misfit) × (answer.status ≡ 1)

-- it is the answer, unless memory ran out
abbrev pub IsMisfitAnswer : Misfit → Result Answer CommandFault → Type 0
IsMisfitAnswer misfit = IsOrMemory (IsMisfitLine misfit)
