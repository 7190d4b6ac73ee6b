-- What texts are read as.
use Rattle.std.specs.Prelude.{◌≡◌, ℕ, List, Option, Result, IfOk, IfErr}
use Rattle.shop_base.specs.Shop.{JobShop}
use Rattle.shop_base.specs.Plan.{ShopPlan, PlannedShop}
use Rattle.orlib_read.specs.declared.or_fault.OrFault.{OrFault}
use Rattle.orlib_read.specs.declared.named.Named.{Named}
use Rattle.plan_text.specs.declared.plan_fault.PlanFault.{PlanFault}
use Rattle.plan_text.specs.Documents.{IsPlanText, IsFirstPlanFault}
use Rattle.command_answers.specs.declared.answer.Answer.{Answer}
use Rattle.command_answers.specs.declared.command_fault.CommandFault.{CommandFault}
use Rattle.command_answers.specs.Facts.{AreFacts, AreFactsOfText}
use Rattle.command_answers.specs.Instances.{ParsesAs, IsFirstInstanceFault, Holds, IsRightInstanceFault, IsInstanceRefusal}
use Rattle.command_answers.specs.Plans.{IsRightPlanFault, IsPlanRefusal, BothParse, ParsesAsShop, IsRightOfBoth, IsOfBoth}

-- the text is read as the instance that it gives, or refused by its first fault, unless memory ran out
pub record IsInstanceRead (text : List ℕ) (name : Option (List ℕ)) (read : Result Named CommandFault) : Type 0 where
  pub found : IfOk read (λ named. ParsesAs text name named.description.items named.shop)
  pub only : (description : List ℕ) (shop : JobShop) → ParsesAs text name description shop → Holds read (λ named. (named.description.items ≡ description) × (named.shop ≡ shop))
  pub fault : IfErr read (IsRightInstanceFault text name)
  pub first : (fault : OrFault) → IsFirstInstanceFault text name fault → IsInstanceRefusal read fault

-- the text is read as the plan that it gives, or refused by its first fault, unless memory ran out
pub record IsPlanRead (text : List ℕ) (read : Result ShopPlan CommandFault) : Type 0 where
  pub found : IfOk read (IsPlanText text)
  pub only : (plan : ShopPlan) → IsPlanText text plan → Holds read (λ found. found ≡ plan)
  pub fault : IfErr read (IsRightPlanFault text)
  pub first : (fault : PlanFault) → IsFirstPlanFault text fault → IsPlanRefusal read fault

-- the facts of the instance that the text gives are answered, or it is refused by its first fault, unless memory ran out
pub record AreFactsAnswered (text : List ℕ) (name : Option (List ℕ)) (read : Result Answer CommandFault) : Type 0 where
  pub found : IfOk read (AreFactsOfText text name)
  pub only : (description : List ℕ) (shop : JobShop) → ParsesAs text name description shop → Holds read (λ answer. AreFacts answer shop)
  pub fault : IfErr read (IsRightInstanceFault text name)
  pub first : (fault : OrFault) → IsFirstInstanceFault text name fault → IsInstanceRefusal read fault

-- what comes belongs to the shop and the plan that the two texts give, and comes wherever they give them; else the first fault of the instance is printed, or that of the plan, unless memory ran out
pub record AreTextsAnswered {A : Type 0} (instance : List ℕ) (name : Option (List ℕ)) (text : List ℕ) (Is : PlannedShop → A → Type 0) (outcome : Result A CommandFault) : Type 0 where
  pub found : IfOk outcome (IsOfBoth instance name text Is)
  pub only : (p : PlannedShop) → BothParse instance name text p → Holds outcome (Is p)
  pub fault : IfErr outcome (IsRightOfBoth instance name text)
  pub first : (fault : OrFault) → IsFirstInstanceFault instance name fault → IsInstanceRefusal outcome fault
  pub second : (fault : PlanFault) → ParsesAsShop instance name → IsFirstPlanFault text fault → IsPlanRefusal outcome fault
