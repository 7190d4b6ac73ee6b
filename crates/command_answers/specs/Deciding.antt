-- The answers of the command `decide`.
use Rattle.std.specs.Prelude.{◌≡◌, ◌⊎◌, ℕ, List, Option, None, Some, Result, Ok, Err, codes}
use Rattle.shop_base.specs.Plan.{PlannedShop}
use Rattle.people_names.specs.NameBooks.{NameBook}
use Rattle.plan_text.specs.declared.plan_fault.PlanFault.TheVariants.{NotReadBack}
use Rattle.plan_text.specs.Lines.{plan_lines}
use Rattle.plan_text.specs.Documents.{IsPlanText}
use Rattle.plan_decide.specs.declared.aim.Aim.{Aim}
use Rattle.plan_decide.specs.declared.aim.Aim.TheVariants.{Promises, Least}
use Rattle.plan_decide.specs.declared.aim.Objective.TheVariants.{Makespan, Leaving}
use Rattle.plan_decide.specs.declared.decided.Decided.{Decided}
use Rattle.plan_decide.specs.declared.decided.Decided.TheVariants.{Kept, Best, Never, Cyclic, Open}
use Rattle.plan_decide.specs.declared.decided.Within.{Within}
use Rattle.plan_decide.specs.declared.decided.Exclusions.{Exclusions}
use Rattle.plan_decide.specs.Cases.{Case}
use Rattle.plan_decide.specs.Promises.{asked_for}
use Rattle.plan_decide.specs.Excluding.{AreAllCyclic, AreExclusions, NoneIsAlone}
use Rattle.plan_decide.specs.Decisions.{IsKept, IsBest}
use Rattle.command_answers.specs.declared.answer.Answer.{Answer}
use Rattle.command_answers.specs.declared.command_fault.CommandFault.{CommandFault}
use Rattle.command_answers.specs.declared.command_fault.CommandFault.TheVariants.{Plan, Memory}
use Rattle.command_answers.specs.DecisionLines.{never_lines, within_line}
use Rattle.command_answers.specs.Documents.{IsDocumentOf, IsDocumentAnswer, IsHeadedBy, IsHeadedAnswer}
use Rattle.command_answers.specs.Steps.{IsOrMemory}

-- the text of an accepted plan that keeps all budgets
pub record IsKeptText (t : Case) (aim : Aim) (answer : Answer) : Type 0 where
  pub plan : PlannedShop
  pub is : IsKept t aim plan
  pub text : IsDocumentOf plan.plan 0 answer

-- the line of an objective, and then the text of an accepted plan with that value; no plan has one below what the line says
pub record IsOptimumText (t : Case) (aim : Aim) (answer : Answer) : Type 0 where
  pub plan : PlannedShop
  pub within : Within
  pub is : IsBest t aim plan within
  pub text : IsHeadedBy (within_line within) plan.plan 0 answer

-- the lines of jobs that exclude each other
pub record AreNeverLines (names : NameBook) (t : Case) (aim : Aim) (answer : Answer) : Type 0 where
  pub found : Exclusions
  pub are : AreExclusions (asked_for t aim) found
  pub lines : answer.text.items ≡ never_lines names found.listed.items
  pub refused : answer.status ≡ 1

-- the line where no plan is without a cycle
pub record IsCyclicLine (t : Case) (answer : Answer) : Type 0 where
  pub cyclic : AreAllCyclic t
  pub line : answer.text.items ≡ codes "never without a cycle\n"
  pub refused : answer.status ≡ 1

-- the line of what isn't decided
pub record IsOpenLine (t : Case) (aim : Aim) (answer : Answer) : Type 0 where
  pub none_alone : NoneIsAlone (asked_for t aim)
  pub line : answer.text.items ≡ codes "open\n"
  pub refused : answer.status ≡ 1

-- the job whose leaving is asked for, if one is
abbrev pub job_of : Aim → Option ℕ
job_of Promises = None
job_of (Least Makespan) = None
job_of (Least (Leaving j)) = Some j

-- what is printed where the numbers are sound, and the job that is asked for is one of the shop
abbrev pub IsDecisionText : NameBook → Case → Aim → Answer → Type 0
IsDecisionText names t aim answer =
    IsKeptText t aim answer
    ⊎ (IsOptimumText t aim answer ⊎ (AreNeverLines names t aim answer ⊎ (IsCyclicLine t answer ⊎ IsOpenLine t aim answer)))

-- a plan that was found has a text that isn't read as this plan
pub record IsFoundUnread (t : Case) (aim : Aim) : Type 0 where
  pub plan : PlannedShop
  pub is : IsKept t aim plan ⊎ ((within : Within) × IsBest t aim plan within)
  pub unreadable : IsPlanText (plan_lines plan.plan) plan.plan → ⊥

-- what is answered there: that, or that the plan that was found isn't read back, or out of memory
abbrev pub IsDecisionAnswer : NameBook → Case → Aim → Result Answer CommandFault → Type 0
IsDecisionAnswer names t aim (Ok answer) = IsDecisionText names t aim answer
IsDecisionAnswer names t aim (Err Memory) = Unit {0}
IsDecisionAnswer names t aim (Err (Plan fault)) = (fault ≡ NotReadBack) × IsFoundUnread t aim
IsDecisionAnswer names t aim (Err other) = ⊥

-- these lines, which refuse
abbrev pub IsLineRefused : List ℕ → Answer → Type 0
IsLineRefused text answer = (answer.text.items ≡ text) × (answer.status ≡ 1)

-- what is answered of a decision: its lines, its plan's text, that this isn't read as that plan, or that memory ran out
abbrev pub IsDecidedAnswer : NameBook → Decided → Result Answer CommandFault → Type 0
IsDecidedAnswer names (Kept plan) = IsDocumentAnswer plan.plan 0
IsDecidedAnswer names (Best plan within) = IsHeadedAnswer (within_line within) plan.plan 0
IsDecidedAnswer names (Never found) = IsOrMemory (IsLineRefused (never_lines names found.listed.items))
IsDecidedAnswer names Cyclic = IsOrMemory (IsLineRefused (codes "never without a cycle\n"))
IsDecidedAnswer names Open = IsOrMemory (IsLineRefused (codes "open\n"))
