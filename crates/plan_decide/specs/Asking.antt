-- What a question asks for: a limit for some of the jobs.
use Rattle.std.specs.Prelude.{◌≡◌, ℕ, ◌<◌, min, nat_lt, ◌==◌, ◌||◌, if◌then◌else◌, true, List, length, Option, None, Some}
use Rattle.shop_base.specs.declared.limits.TheConstants.{MAX_MOMENT}
use Rattle.shop_base.specs.Plan.{PlannedShop, jobs}
use Rattle.plan_verifier.specs.Accepted.{HasNoCycle}
use Rattle.plan_limits.specs.Limits.{limit_of}
use Rattle.plan_decide.specs.declared.aim.Objective.TheVariants.{Makespan, Leaving}
use Rattle.plan_decide.specs.declared.asked.Asked.{Asked}
use Rattle.plan_decide.specs.declared.asked.Asked.TheVariants.{All, Nobody, Both, AtMost}
use Rattle.plan_decide.specs.Cases.{Case, IsOutWithin, IsPlanOf, is_waiting, budget_in, times_in}

module _ (t : Case) where
  -- the budget of job j, where it has a promise
  abbrev pub promise_in : ℕ → Option ℕ
  promise_in j = if is_waiting (times_in t) t.past j then (if nat_lt (budget_in t j) MAX_MOMENT then Some (budget_in t j) else None) else None

  -- the limit of job j, where it is asked for
  abbrev pub limit_asked : Asked → ℕ → Option ℕ
  limit_asked All j = promise_in j
  limit_asked Nobody j = None
  limit_asked (Both one other) j = if (j == one) || (j == other) then promise_in j else None
  limit_asked (AtMost Makespan n) j = Some (min (budget_in t j) n)
  limit_asked (AtMost (Leaving i) n) j = if j == i then Some n else promise_in j

  -- the limits of the first n jobs
  pub record AreLimits (asked : Asked) (n : ℕ) (limits : List (Option ℕ)) : Type 0 where
    pub count : length limits ≡ n
    pub each : (j : ℕ) → j < n → limit_of limits j ≡ limit_asked asked j

  -- the plan has no cycle, and each job that is asked for and isn't gone is out by its limit
  pub record KeepsAsked (asked : Asked) (p : PlannedShop) : Type 0 where
    pub acyclic : HasNoCycle p
    pub out : (j n : ℕ) → j < jobs p → is_waiting (times_in t) t.past j ≡ true → limit_asked asked j ≡ Some n → IsOutWithin t.past p j n

  -- no plan of the shop with these releases and cleaning times does
  abbrev pub IsImpossible : Asked → Type 0
  IsImpossible asked = (p : PlannedShop) → IsPlanOf t p → KeepsAsked asked p → ⊥

-- the plan has no cycle, and each job that has a limit and isn't gone is out by it
pub record KeepsLimits (t : Case) (p : PlannedShop) (limits : List (Option ℕ)) : Type 0 where
  pub acyclic : HasNoCycle p
  pub out : (j n : ℕ) → j < jobs p → is_waiting (times_in t) t.past j ≡ true → limit_of limits j ≡ Some n → IsOutWithin t.past p j n

-- no such plan keeps the limits
abbrev pub NoPlanKeeps : Case → List (Option ℕ) → Type 0
NoPlanKeeps t limits = (p : PlannedShop) → IsPlanOf t p → KeepsLimits t p limits → ⊥
