-- What the reader of plan texts answers.
use Rattle.std.specs.Prelude.{◌≡◌, ◌≢◌, List, [], ◌∷◌, Result, Ok, Err}
use Rattle.shop_base.specs.Plan.{ShopPlan}
use Rattle.toml.specs.declared.de.error.Error.{Error}
use Rattle.toml.specs.Errors.{IsMemory}
use Rattle.plan_text.specs.declared.plan_fault.PlanFault.{PlanFault}
use Rattle.plan_text.specs.declared.plan_fault.PlanFault.TheVariants.{NotToml, Memory}

-- the answer is this plan, unless memory ran out
abbrev pub IsReadPlan : Result ShopPlan PlanFault → ShopPlan → Type 0
IsReadPlan (Ok answered) plan = answered ≡ plan
IsReadPlan (Err fault) plan = fault ≡ Memory

-- the answer is this fault, unless memory ran out
abbrev pub IsRefusedPlan : Result ShopPlan PlanFault → PlanFault → Type 0
IsRefusedPlan (Ok answered) fault = ⊥
IsRefusedPlan (Err answered) fault = answered ≢ Memory → answered ≡ fault

-- the fault is the first of these
abbrev pub IsFirstOf : List PlanFault → PlanFault → Type 0
IsFirstOf [] fault = ⊥
IsFirstOf (first ∷ rest) fault = first ≡ fault

-- a check that takes no memory, of which these are the faults, passes where there is none, and else answers the first
abbrev pub PassesExactly : {A : Type 0} → List PlanFault → Result A PlanFault → Type 0
PassesExactly faults (Ok x) = faults ≡ []
PassesExactly faults (Err fault) = IsFirstOf faults fault

-- the same where memory is allocated: unless it ran out
abbrev pub Passes : {A : Type 0} → List PlanFault → Result A PlanFault → Type 0
Passes faults (Ok x) = faults ≡ []
Passes faults (Err fault) = fault ≢ Memory → IsFirstOf faults fault

-- the fault that an error of the reader of TOML is: out of memory where it says so, and else that the text is no document
pub record IsFaultOf (error : Error) (fault : PlanFault) : Type 0 where
  pub memory : IsMemory error → fault ≡ Memory
  pub no_document : ¬ (IsMemory error) → fault ≡ NotToml
