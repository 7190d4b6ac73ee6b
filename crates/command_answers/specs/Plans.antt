-- A plan as a command reads it, and the command's fault where it can't.
use Rattle.std.specs.Prelude.{◌≡◌, ◌≢◌, ℕ, List, Option, Result, Ok, Err}
use Rattle.shop_base.specs.Shop.{JobShop}
use Rattle.shop_base.specs.Plan.{PlannedShop}
use Rattle.plan_text.specs.declared.plan_fault.PlanFault.{PlanFault}
use Rattle.plan_text.specs.declared.plan_fault.PlanFault.TheVariants.{Memory as OutOfMemory}
use Rattle.plan_text.specs.Documents.{IsPlanText, IsFirstPlanFault}
use Rattle.command_answers.specs.declared.command_fault.CommandFault.{CommandFault}
use Rattle.command_answers.specs.declared.command_fault.CommandFault.TheVariants.{Instance, Plan, Memory}
use Rattle.command_answers.specs.Instances.{ParsesAs, IsRightInstanceFault}

-- the fault of the reader of plans as a command's
abbrev pub plan_command_fault : PlanFault → CommandFault
plan_command_fault OutOfMemory = Memory
plan_command_fault fault = Plan fault

-- the fault is the plan text's, or that memory ran out
abbrev pub IsRightPlanFault : List ℕ → CommandFault → Type 0
IsRightPlanFault text (Plan fault) = (fault ≢ OutOfMemory) × IsFirstPlanFault text fault
IsRightPlanFault text Memory = Unit {0}
IsRightPlanFault text other = ⊥

-- the answer is this fault of the plan, unless memory ran out
abbrev pub IsPlanRefusal : {A : Type 0} → Result A CommandFault → PlanFault → Type 0
IsPlanRefusal (Ok a) fault = ⊥
IsPlanRefusal (Err (Plan answered)) fault = answered ≡ fault
IsPlanRefusal (Err Memory) fault = Unit {0}
IsPlanRefusal (Err other) fault = ⊥

-- the shop and the plan that the two texts give
pub record BothParse (instance : List ℕ) (name : Option (List ℕ)) (text : List ℕ) (p : PlannedShop) : Type 0 where
  pub description : List ℕ
  pub shop : ParsesAs instance name description p.shop
  pub plan : IsPlanText text p.plan

-- the instance gives some shop
abbrev pub ParsesAsShop : List ℕ → Option (List ℕ) → Type 0
ParsesAsShop instance name = (description : List ℕ) × (shop : JobShop) × ParsesAs instance name description shop

-- the fault is the instance's, or, where that gives a shop, the plan text's, or that memory ran out
abbrev pub IsRightOfBoth : List ℕ → Option (List ℕ) → List ℕ → CommandFault → Type 0
IsRightOfBoth instance name text (Instance fault) = IsRightInstanceFault instance name (Instance fault)
IsRightOfBoth instance name text (Plan fault) = ParsesAsShop instance name × IsRightPlanFault text (Plan fault)
IsRightOfBoth instance name text Memory = Unit {0}
IsRightOfBoth instance name text other = ⊥

-- the answer is one that belongs to the shop and the plan that the two texts give
pub record IsOfBoth {A : Type 0} (instance : List ℕ) (name : Option (List ℕ)) (text : List ℕ) (Is : PlannedShop → A → Type 0) (answer : A) : Type 0 where
  pub planned : PlannedShop
  pub parsed : BothParse instance name text planned
  pub is : Is planned answer
