-- Limits of promised jobs, of which some are left out.
use Rattle.std.specs.Prelude.{◌≡◌, ℕ, ◌<◌, ◌≤◌, true, false, List, All, AllPairs, Contains, IsSome, length, slice_set, Option, None, Some}
use Rattle.shop_base.specs.declared.limits.TheConstants.{MAX_MOMENT}
use Rattle.shop_base.specs.Plan.{PlannedShop, jobs}
use Rattle.plan_verifier.specs.Accepted.{HasNoCycle}
use Rattle.plan_limits.specs.Limits.{limit_of}
use Rattle.plan_decide.specs.declared.leaving_out.Left.{Left}
use Rattle.plan_decide.specs.declared.leaving_out.Spared.{Spared}
use Rattle.plan_decide.specs.declared.leaving_out.Spared.TheVariants.{LeftOut, Needed, Open}
use Rattle.plan_decide.specs.Cases.{Case, IsOutWithin, IsPlanOf, is_waiting, case_jobs, budget_in, times_in}
use Rattle.plan_decide.specs.Promises.{IsPromised}
use Rattle.plan_decide.specs.Asking.{NoPlanKeeps}

-- the greatest moment that a limit allows: where there is none, the greatest budget that a plan may have
abbrev pub cap : Option ℕ → ℕ
cap None = MAX_MOMENT
cap (Some n) = n

-- the jobs with limits, of the first n: ascending
pub record AreLimited (limits : List (Option ℕ)) (n : ℕ) (js : List ℕ) : Type 0 where
  pub below : All (λ j. j < n) js
  pub ascending : AllPairs (λ i j. i < j) js
  pub limited : All (λ j. IsSome (limit_of limits j)) js
  pub complete : (j k : ℕ) → j < n → limit_of limits j ≡ Some k → Contains js j

module _ (t : Case) where
  -- each limit is the budget of a promised job
  pub record ArePromised (limits : List (Option ℕ)) : Type 0 where
    pub count : length limits ≡ case_jobs t
    pub each : (j n : ℕ) → limit_of limits j ≡ Some n → IsPromised t j × (n ≡ budget_in t j)

  -- such a plan that keeps the limits, and has each other job that isn't gone out by the greatest budget that a plan may have
  pub record CanKeep (limits : List (Option ℕ)) : Type 0 where
    pub plan : PlannedShop
    pub is : IsPlanOf t plan
    pub acyclic : HasNoCycle plan
    pub out : (j : ℕ) → j < jobs plan → is_waiting (times_in t) t.past j ≡ true → IsOutWithin t.past plan j (cap (limit_of limits j))

  -- what comes of the question whether job j can be left out
  abbrev pub IsSpared : List (Option ℕ) → ℕ → Spared → Type 0
  IsSpared limits j (LeftOut fewer) = (fewer.items ≡ slice_set limits j None) × NoPlanKeeps t fewer.items
  IsSpared limits j Needed = CanKeep (slice_set limits j None)
  IsSpared limits j Open = Unit {0}

  -- what is left once the jobs from this one on were asked about: each of them that has a limit is needed, where no search ended open
  pub record IsLeft (left : Left) (from : ℕ) : Type 0 where
    pub promised : ArePromised left.limits.items
    pub none : NoPlanKeeps t left.limits.items
    pub needed : left.or_fewer ≡ false → (j n : ℕ) → from ≤ j → limit_of left.limits.items j ≡ Some n → CanKeep (slice_set left.limits.items j None)
