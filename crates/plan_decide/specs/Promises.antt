-- Which jobs have a promise, and whose promises are asked for.
use Rattle.std.specs.Prelude.{◌≡◌, ℕ, ◌<◌, true}
use Rattle.shop_base.specs.declared.limits.TheConstants.{MAX_MOMENT}
use Rattle.plan_decide.specs.declared.aim.Aim.{Aim}
use Rattle.plan_decide.specs.declared.aim.Aim.TheVariants.{Promises, Least}
use Rattle.plan_decide.specs.declared.aim.Objective.{Objective}
use Rattle.plan_decide.specs.declared.aim.Objective.TheVariants.{Makespan, Leaving}
use Rattle.plan_decide.specs.Cases.{Case, is_waiting, case_jobs, budget_in, times_in, with_budget}

module _ (t : Case) where
  -- job j has a promise: it isn't gone, and its budget is below the greatest that a plan may have
  pub record IsPromised (j : ℕ) : Type 0 where
    pub inside : j < case_jobs t
    pub waits : is_waiting (times_in t) t.past j ≡ true
    pub below : budget_in t j < MAX_MOMENT

  -- the numbers whose promises are asked for: where the leaving of job j is to be as early as it can be, job j has none
  abbrev pub asked_for : Aim → Case
  asked_for Promises = t
  asked_for (Least Makespan) = t
  asked_for (Least (Leaving j)) = with_budget t j MAX_MOMENT

  -- the job whose leaving is the objective, if one is, is of the shop
  abbrev pub IsObjectiveOfShop : Objective → Type 0
  IsObjectiveOfShop Makespan = Unit {0}
  IsObjectiveOfShop (Leaving j) = j < case_jobs t

  -- the job whose leaving is asked for, if one is, is of the shop
  abbrev pub IsInRange : Aim → Type 0
  IsInRange Promises = Unit {0}
  IsInRange (Least objective) = IsObjectiveOfShop objective
