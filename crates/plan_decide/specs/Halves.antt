-- What is known of an objective while what lies between a bound and a plan is halved.
use Rattle.std.specs.Prelude.{◌≡◌, ℕ, ◌+◌, ◌-◌, ◌<◌, ◌≤◌, List, false}
use Rattle.shop_base.specs.Plan.{PlannedShop}
use Rattle.shop_base.specs.declared.limits.TheConstants.{MAX_MOMENT}
use Rattle.plan_decide.specs.declared.aim.Objective.{Objective}
use Rattle.plan_decide.specs.declared.aim.Objective.TheVariants.{Makespan, Leaving}
use Rattle.plan_decide.specs.declared.decided.Within.{Within}
use Rattle.plan_decide.specs.declared.halving.Best.{Best}
use Rattle.plan_decide.specs.declared.halving.Halfway.{Halfway}
use Rattle.plan_decide.specs.declared.halving.Looked.{Looked}
use Rattle.plan_decide.specs.declared.halving.Looked.TheVariants.{Better, Never, Open}
use Rattle.plan_decide.specs.Cases.{Case, HasValue, case_jobs, budget_in, with_budget}
use Rattle.plan_decide.specs.Objectives.{IsLeastValue}
use Rattle.plan_decide.specs.declared.kept.Kept.{Kept}
use Rattle.plan_decide.specs.Settings.{plan_of, FitsPast}
use Rattle.plan_decide.specs.Decisions.{IsAcceptedWith, given_with}

-- the job whose leaving is to be as early as it can be is of the shop, and has no promise
abbrev pub IsFree : Case → Objective → Type 0
IsFree t Makespan = Unit {0}
IsFree t (Leaving j) = (j < case_jobs t) × (budget_in t j ≡ MAX_MOMENT)

-- an accepted plan with these orders and no promise to the job has it leave so
pub record IsLeavingBy (t : Case) (job : ℕ) (orders : List (List ℕ)) (value : ℕ) : Type 0 where
  pub plan : PlannedShop
  pub accepted : IsAcceptedWith (with_budget t job MAX_MOMENT) plan
  pub order : plan.plan.order ≡ orders
  pub leaves : HasValue t.past (Leaving job) plan value

module _ (t : Case) (objective : Objective) where
  -- an accepted plan with its value
  pub record IsFoundWith (best : Best) : Type 0 where
    pub plan : IsAcceptedWith (given_with t objective best.value) (plan_of best.plan)
    pub fits : FitsPast t.past best.plan
    pub value : HasValue t.past objective (plan_of best.plan) best.value

  -- what comes of looking for a plan with a value of at most the limit, below this value
  abbrev pub IsLooked : ℕ → ℕ → Looked → Type 0
  IsLooked limit value (Better found) = IsFoundWith found × (found.value < value)
  IsLooked limit value Never = IsLeastValue t objective (limit + 1)
  IsLooked limit value Open = Unit {0}

  -- so far no plan is below at_least, and the best one is found; what is still to be asked for begins at low, which is at_least where no search ended open
  pub record IsHalfway (halfway : Halfway) : Type 0 where
    pub found : IsFoundWith halfway.best
    pub least : IsLeastValue t objective halfway.at_least
    pub same : halfway.ended_open ≡ false → halfway.low ≡ halfway.at_least

  -- what is found in the end
  pub record IsHalved (found : Kept × Within) : Type 0 where
    pub plan : IsAcceptedWith (given_with t objective found.1.at_most) (plan_of found.0)
    pub fits : FitsPast t.past found.0
    pub value : HasValue t.past objective (plan_of found.0) found.1.at_most
    pub least : IsLeastValue t objective found.1.at_least
    pub apart : found.1.at_least ≤ found.1.at_most
    pub exact : found.1.ended_open ≡ false → found.1.at_least ≡ found.1.at_most

-- once this came of looking for a plan with a value of at most the limit, less is left
abbrev pub IsNarrowed : Halfway → ℕ → Looked → Halfway → Type 0
IsNarrowed halfway limit looked next = (t : Case) (objective : Objective) → IsHalfway t objective halfway → IsLooked t objective limit halfway.best.value looked
    → IsHalfway t objective next × (next.best.value - next.low < halfway.best.value - halfway.low)
