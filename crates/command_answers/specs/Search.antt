-- The answer to `plan`: a plan text, or the line that says why there is none.
use Rattle.std.specs.Prelude.{◌≡◌, ℕ, Option, Some, None, ◌⊎◌, codes, Result, Ok, Err}
use Rattle.shop_base.specs.Plan.{ShopPlan}
use Rattle.plan_text.specs.declared.plan_fault.PlanFault.TheVariants.{NotReadBack}
use Rattle.plan_text.specs.Lines.{plan_lines}
use Rattle.plan_text.specs.Documents.{IsPlanText}
use Rattle.plan_seek.specs.declared.seek_fault.SeekFault.{SeekFault}
use Rattle.plan_seek.specs.declared.seek_fault.SeekFault.TheVariants.{BadNumbers, Exhausted, TooManyRounds, Memory as OutOfMemory}
use Rattle.plan_seek.specs.Tasks.{with_order, IsAccepted}
use Rattle.plan_seek.specs.Turns.{PlanSearch}
use Rattle.plan_seek.specs.Search.{IsSought, IsSeekFault}
use Rattle.command_answers.specs.declared.answer.Answer.{Answer}
use Rattle.command_answers.specs.declared.command_fault.CommandFault.{CommandFault}
use Rattle.command_answers.specs.declared.command_fault.CommandFault.TheVariants.{Plan, Memory}
use Rattle.command_answers.specs.Documents.{IsDocumentOf}
use Rattle.command_answers.specs.Shapes.{IsLineOfFault}

-- a plan that the search allows: the first proposal that is accepted, or else the serial plan
pub record IsFoundPlan (s : PlanSearch) (rounds : ℕ) (found : ShopPlan) : Type 0 where
  pub same : record { shop = s.task.shop; plan = found } ≡ with_order s.task found.order
  pub accepted : IsAccepted (record { shop = s.task.shop; plan = found })
  pub sought : IsSought s rounds found.order

-- the text of a plan that the search allows
pub record IsFoundText (s : PlanSearch) (rounds : ℕ) (answer : Answer) : Type 0 where
  pub plan : ShopPlan
  pub found : IsFoundPlan s rounds plan
  pub text : IsDocumentOf plan 0 answer

-- the fault of a command that the search's is, if memory ran out
abbrev pub search_command_fault : SeekFault → Option CommandFault
search_command_fault OutOfMemory = Some Memory
search_command_fault fault = None

-- the line that says why there is no plan
abbrev pub IsNoPlanLine : SeekFault → Answer → Type 0
IsNoPlanLine (BadNumbers fault) answer = IsLineOfFault (codes "bad numbers ") fault answer
IsNoPlanLine Exhausted answer = (answer.text.items ≡ codes "exhausted\n") × (answer.status ≡ 1)
IsNoPlanLine TooManyRounds answer = (answer.text.items ≡ codes "too many rounds\n") × (answer.status ≡ 1)
IsNoPlanLine OutOfMemory answer = ⊥

-- what is answered where there is no plan: the line that says why, or that memory ran out
abbrev pub IsNoPlanAnswer : SeekFault → Result Answer CommandFault → Type 0
IsNoPlanAnswer fault (Ok answer) = IsNoPlanLine fault answer
IsNoPlanAnswer fault (Err Memory) = Unit {0}
IsNoPlanAnswer fault (Err other) = ⊥

-- the line of a search that the search allows to end without a plan
pub record IsNoPlanText (s : PlanSearch) (rounds : ℕ) (answer : Answer) : Type 0 where
  pub fault : SeekFault
  pub is : IsSeekFault s rounds fault
  pub line : IsNoPlanLine fault answer

-- what is printed of the search
abbrev pub IsSearchLine : PlanSearch → ℕ → Answer → Type 0
IsSearchLine s rounds answer = IsFoundText s rounds answer ⊎ IsNoPlanText s rounds answer

-- a plan that the search allows has a text that isn't read as this plan
pub record IsFoundUnreadable (s : PlanSearch) (rounds : ℕ) : Type 0 where
  pub plan : ShopPlan
  pub found : IsFoundPlan s rounds plan
  pub unreadable : IsPlanText (plan_lines plan) plan → ⊥

-- what is answered of the search: its line, or that the text of the plan that was found isn't read as that plan, or that memory ran out
abbrev pub IsSearchAnswer : PlanSearch → ℕ → Result Answer CommandFault → Type 0
IsSearchAnswer s rounds (Ok answer) = IsSearchLine s rounds answer
IsSearchAnswer s rounds (Err Memory) = Unit {0}
IsSearchAnswer s rounds (Err (Plan fault)) = (fault ≡ NotReadBack) × IsFoundUnreadable s rounds
IsSearchAnswer s rounds (Err other) = ⊥
