-- The text of a plan as an answer.
use Rattle.std.specs.Prelude.{◌≡◌, ℕ, List, ◌++◌, Result, Ok, Err}
use Rattle.shop_base.specs.Plan.{ShopPlan}
use Rattle.plan_text.specs.declared.plan_fault.PlanFault.TheVariants.{NotReadBack}
use Rattle.plan_text.specs.Lines.{plan_lines}
use Rattle.plan_text.specs.Documents.{IsPlanText}
use Rattle.command_answers.specs.declared.answer.Answer.{Answer}
use Rattle.command_answers.specs.declared.command_fault.CommandFault.{CommandFault}
use Rattle.command_answers.specs.declared.command_fault.CommandFault.TheVariants.{Plan, Memory}

-- the text of a plan, which is read as this plan, with this status
pub record IsDocumentOf (found : ShopPlan) (status : ℕ) (answer : Answer) : Type 0 where
  pub line : answer.text.items ≡ plan_lines found
  pub read_back : IsPlanText (plan_lines found) found
  pub ends : answer.status ≡ status

-- what is answered of a plan's text: the text, or that it isn't read as the plan, or that memory ran out
abbrev pub IsDocumentAnswer : ShopPlan → ℕ → Result Answer CommandFault → Type 0
IsDocumentAnswer found status (Ok answer) = IsDocumentOf found status answer
IsDocumentAnswer found status (Err Memory) = Unit {0}
IsDocumentAnswer found status (Err (Plan fault)) = (fault ≡ NotReadBack) × (IsPlanText (plan_lines found) found → ⊥)
IsDocumentAnswer found status (Err other) = ⊥

-- a line, and behind it the text of a plan, which is read as this plan, with this status
pub record IsHeadedBy (head : List ℕ) (found : ShopPlan) (status : ℕ) (answer : Answer) : Type 0 where
  pub line : answer.text.items ≡ head ++ plan_lines found
  pub read_back : IsPlanText (plan_lines found) found
  pub ends : answer.status ≡ status

-- what is answered of a plan's text behind a line
abbrev pub IsHeadedAnswer : List ℕ → ShopPlan → ℕ → Result Answer CommandFault → Type 0
IsHeadedAnswer head found status (Ok answer) = IsHeadedBy head found status answer
IsHeadedAnswer head found status (Err fault) = IsDocumentAnswer found status (Err fault)
