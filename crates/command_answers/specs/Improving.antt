-- The answers of the command `improve`.
use Rattle.std.specs.Prelude.{◌≡◌, ◌<◌, ◌≤◌, ◌⊎◌, ℕ, List, [], ◌∷◌, Result, Ok, Err, codes}
use Rattle.shop_base.specs.Plan.{PlannedShop}
use Rattle.cell_tables.specs.Reordered.{IsReordered}
use Rattle.plan_text.specs.declared.plan_fault.PlanFault.TheVariants.{NotReadBack}
use Rattle.plan_text.specs.Lines.{plan_lines}
use Rattle.plan_text.specs.Documents.{IsPlanText}
use Rattle.plan_verifier.specs.Accepted.{HasNoCycle, IsAcceptable}
use Rattle.plan_seek.specs.Orders.{Proposal}
use Rattle.plan_seek.specs.declared.search.TheConstants.{MAX_ROUNDS}
use Rattle.plan_improve.specs.Settings.{Left, Setting, whole_plan}
use Rattle.plan_improve.specs.Runs.{Asked, Rounds}
use Rattle.plan_improve.specs.Improved.{IsFound, IsNeverWorse}
use Rattle.command_answers.specs.declared.answer.Answer.{Answer}
use Rattle.command_answers.specs.declared.command_fault.CommandFault.{CommandFault}
use Rattle.command_answers.specs.declared.command_fault.CommandFault.TheVariants.{Plan, Memory}
use Rattle.command_answers.specs.Documents.{IsDocumentOf}
use Rattle.command_answers.specs.Serial.{serially}

-- these orders or, where there are none, the serial plan's
abbrev pub orders_or_serial : PlannedShop → List (List ℕ) → PlannedShop
orders_or_serial p [] = serially p
orders_or_serial p (order ∷ orders) = p

-- the plan with which a search begins: the plan itself or, where it has no orders at all, the serial plan with its numbers
abbrev pub ordered : PlannedShop → PlannedShop
ordered p = orders_or_serial p p.plan.order

-- what plans a search makes of one, by what is fixed
abbrev pub SearchBy : Type 1
SearchBy = Setting → Asked

-- what so many rounds of questions to these improvers make of a plan
abbrev pub RoundsOf : {B : Type 0} → ℕ → (B → PlannedShop → Left → ℕ → Proposal → Type 0) → List B → SearchBy
RoundsOf rounds may improvers s = Rounds s may improvers rounds

-- the best plan that is met: only the orders may differ, no cycle, never worse, exactly what the questions make of the start, and accepted if the start is
pub record IsBestMet (made : SearchBy) (start best : PlannedShop) : Type 0 where
  pub same : IsReordered start best
  pub acyclic : HasNoCycle best
  pub never_worse : IsNeverWorse whole_plan start best
  pub found : IsFound whole_plan (made whole_plan) start best
  pub stays_accepted : IsAcceptable start → IsAcceptable best

-- the status distinguishes an accepted plan from one of which a job is late
abbrev pub IsStatusOf : PlannedShop → ℕ → Type 0
IsStatusOf best status = (IsAcceptable best × (status ≡ 0)) ⊎ ((IsAcceptable best → ⊥) × (status ≡ 1))

-- the text of the best plan, after at most as many rounds as may be asked for
pub record IsBestText (made : SearchBy) (rounds : ℕ) (start : PlannedShop) (answer : Answer) : Type 0 where
  pub few_rounds : rounds ≤ MAX_ROUNDS
  pub best : PlannedShop
  pub is : IsBestMet made start best
  pub text : IsDocumentOf best.plan answer.status answer
  pub status : IsStatusOf best answer.status

-- the line of more rounds than may be asked for
pub record IsTooManyLine (rounds : ℕ) (answer : Answer) : Type 0 where
  pub many_rounds : MAX_ROUNDS < rounds
  pub line : answer.text.items ≡ codes "too many rounds\n"
  pub refused : answer.status ≡ 1

-- the best plan has a text that isn't read as this plan
pub record IsBestUnreadable (made : SearchBy) (start : PlannedShop) : Type 0 where
  pub best : PlannedShop
  pub is : IsBestMet made start best
  pub unreadable : IsPlanText (plan_lines best.plan) best.plan → ⊥

-- what is answered where the plan is well shaped: the text of the best plan, the line of too many rounds, that the text isn't read as that plan, or that memory ran out
abbrev pub IsBestAnswer : SearchBy → ℕ → PlannedShop → Result Answer CommandFault → Type 0
IsBestAnswer made rounds start (Ok answer) = IsBestText made rounds start answer ⊎ IsTooManyLine rounds answer
IsBestAnswer made rounds start (Err Memory) = Unit {0}
IsBestAnswer made rounds start (Err (Plan fault)) = (fault ≡ NotReadBack) × IsBestUnreadable made start
IsBestAnswer made rounds start (Err other) = ⊥
