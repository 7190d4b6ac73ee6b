-- What a decision says.
use Rattle.std.specs.Prelude.{◌≡◌, ℕ, ◌≤◌, false}
use Rattle.shop_base.specs.Plan.{PlannedShop}
use Rattle.plan_seek.specs.Tasks.{with_order}
use Rattle.plan_decide.specs.declared.aim.Aim.{Aim}
use Rattle.plan_decide.specs.declared.aim.Aim.TheVariants.{Promises, Least}
use Rattle.plan_decide.specs.declared.aim.Objective.{Objective}
use Rattle.plan_decide.specs.declared.aim.Objective.TheVariants.{Makespan, Leaving}
use Rattle.plan_decide.specs.declared.decide_fault.DecideFault.{DecideFault}
use Rattle.plan_decide.specs.declared.decide_fault.DecideFault.TheVariants.{JobOutOfRange, Memory}
use Rattle.plan_decide.specs.declared.decided.Decided.{Decided}
use Rattle.plan_decide.specs.declared.decided.Decided.TheVariants.{Kept, Best, Never, Cyclic, Open}
use Rattle.plan_decide.specs.declared.decided.Within.{Within}
use Rattle.plan_decide.specs.declared.decided.Exclusions.{Exclusions}
use Rattle.plan_decide.specs.Cases.{Case, IsAcceptedFromPast, HasValue, with_budget}
use Rattle.plan_decide.specs.Promises.{asked_for, IsInRange}
use Rattle.plan_decide.specs.Objectives.{IsLeastValue}
use Rattle.plan_decide.specs.Excluding.{AreAllCyclic, AreExclusions, NoneIsAlone}

-- where all promises can be kept
abbrev pub OnKept : (PlannedShop → Type 0) → Decided → Type 0
OnKept P (Kept plan) = P plan
OnKept P (Best plan within) = Unit {0}
OnKept P (Never found) = Unit {0}
OnKept P Cyclic = Unit {0}
OnKept P Open = Unit {0}

-- where the best plan that was found is given
abbrev pub OnBest : (PlannedShop → Within → Type 0) → Decided → Type 0
OnBest P (Kept plan) = Unit {0}
OnBest P (Best plan within) = P plan within
OnBest P (Never found) = Unit {0}
OnBest P Cyclic = Unit {0}
OnBest P Open = Unit {0}

-- where they can't be kept
abbrev pub OnDecidedNever : (Exclusions → Type 0) → Decided → Type 0
OnDecidedNever P (Kept plan) = Unit {0}
OnDecidedNever P (Best plan within) = Unit {0}
OnDecidedNever P (Never found) = P found
OnDecidedNever P Cyclic = Unit {0}
OnDecidedNever P Open = Unit {0}

-- where no plan is without a cycle
abbrev pub OnDecidedCyclic : Type 0 → Decided → Type 0
OnDecidedCyclic P (Kept plan) = Unit {0}
OnDecidedCyclic P (Best plan within) = Unit {0}
OnDecidedCyclic P (Never found) = Unit {0}
OnDecidedCyclic P Cyclic = P
OnDecidedCyclic P Open = Unit {0}

-- where it isn't decided
abbrev pub OnOpen : Type 0 → Decided → Type 0
OnOpen P (Kept plan) = Unit {0}
OnOpen P (Best plan within) = Unit {0}
OnOpen P (Never found) = Unit {0}
OnOpen P Cyclic = Unit {0}
OnOpen P Open = P

-- the plan has these numbers, and is accepted
pub record IsAcceptedWith (t : Case) (p : PlannedShop) : Type 0 where
  pub same : p ≡ with_order t.task p.plan.order
  pub accepted : IsAcceptedFromPast t.past p

-- all promises were asked for, and the plan keeps them
pub record IsKept (t : Case) (aim : Aim) (p : PlannedShop) : Type 0 where
  pub asked : aim ≡ Promises
  pub plan : IsAcceptedWith t p

-- the numbers of a plan whose objective is n: for the leaving of a job, that is its budget
abbrev pub given_with : Case → Objective → ℕ → Case
given_with t Makespan n = t
given_with t (Leaving j) n = with_budget t j n

-- the objective was asked for; the plan keeps all promises that are asked for and has at_most, and no such plan has less than at_least; the two are the same, where no search ended open
pub record IsBest (t : Case) (aim : Aim) (p : PlannedShop) (within : Within) : Type 0 where
  pub objective : Objective
  pub asked : aim ≡ Least objective
  pub plan : IsAcceptedWith (given_with t objective within.at_most) p
  pub value : HasValue t.past objective p within.at_most
  pub least : IsLeastValue (asked_for t aim) objective within.at_least
  pub apart : within.at_least ≤ within.at_most
  pub exact : within.ended_open ≡ false → within.at_least ≡ within.at_most

-- what is decided of a case: where a plan is found, it keeps all promises, and has the objective that is known; else what is listed excludes each other, no plan is without a cycle, or no job is never in time by its bound
pub record IsDecided (t : Case) (aim : Aim) (decided : Decided) : Type 0 where
  pub kept : OnKept (IsKept t aim) decided
  pub best : OnBest (IsBest t aim) decided
  pub never : OnDecidedNever (AreExclusions (asked_for t aim)) decided
  pub cyclic : OnDecidedCyclic (AreAllCyclic t) decided
  pub undecided : OnOpen (NoneIsAlone (asked_for t aim)) decided

-- why nothing is decided: the job isn't of the shop, or else out of memory
abbrev pub IsDecideFault : Case → Aim → DecideFault → Type 0
IsDecideFault t aim JobOutOfRange = IsInRange t aim → ⊥
IsDecideFault t aim Memory = IsInRange t aim
