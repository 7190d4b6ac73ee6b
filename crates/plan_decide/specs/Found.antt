-- What is found with some numbers, before the plan that was given is handed back.
use Rattle.std.specs.Prelude.{◌≡◌, Bool, true, false}
use Rattle.plan_decide.specs.declared.aim.Aim.{Aim}
use Rattle.plan_decide.specs.declared.aim.Aim.TheVariants.{Promises, Least}
use Rattle.plan_decide.specs.declared.aim.Objective.{Objective}
use Rattle.plan_decide.specs.declared.decided.Within.{Within}
use Rattle.plan_decide.specs.declared.decided.Exclusions.{Exclusions}
use Rattle.plan_decide.specs.declared.deciding.Found.{Found}
use Rattle.plan_decide.specs.declared.deciding.Found.TheVariants.{Kept, Best, Never, Cyclic, Open}
use Rattle.plan_decide.specs.declared.kept.Kept.{Kept as KeptPlan}
use Rattle.plan_decide.specs.Settings.{plan_of, FitsPast}
use Rattle.plan_decide.specs.Cases.{Case}
use Rattle.plan_decide.specs.declared.cycles.Acyclic.{Acyclic}
use Rattle.plan_decide.specs.declared.cycles.Acyclic.TheVariants.{Never as NoneIs, Found as OneIs, Open as ItIsOpen}
use Rattle.plan_decide.specs.Excluding.{AreAllCyclic, HasAcyclicPlan, AreExclusions, NoneIsAlone}
use Rattle.plan_decide.specs.Decisions.{IsAcceptedWith}
use Rattle.plan_decide.specs.Halves.{IsFree, IsHalved}

-- the job whose leaving is asked for has no promise
abbrev pub IsReady : Case → Aim → Type 0
IsReady t Promises = Unit {0}
IsReady t (Least objective) = IsFree t objective

-- what is found of plans without a cycle
abbrev pub IsAcyclic : Case → Acyclic → Type 0
IsAcyclic t NoneIs = AreAllCyclic t
IsAcyclic t OneIs = HasAcyclicPlan t
IsAcyclic t ItIsOpen = Unit {0}

-- none is found
abbrev pub is_unfound : Acyclic → Bool
is_unfound NoneIs = true
is_unfound OneIs = false
is_unfound ItIsOpen = true

-- the best plan for the objective that was asked for
pub record IsBestFound (t : Case) (aim : Aim) (best : KeptPlan × Within) : Type 0 where
  pub objective : Objective
  pub asked : aim ≡ Least objective
  pub halved : IsHalved t objective best

-- what is found, where these are the numbers that are asked for
abbrev pub IsFound : Case → Aim → Found → Type 0
IsFound t aim (Kept plan) = (aim ≡ Promises) × IsAcceptedWith t (plan_of plan) × FitsPast t.past plan
IsFound t aim (Best plan within) = IsBestFound t aim (plan, within)
IsFound t aim (Never found) = AreExclusions t found
IsFound t aim Cyclic = AreAllCyclic t
IsFound t aim Open = NoneIsAlone t

-- where what excludes each other is found, it is so
abbrev pub OnFoundNever : (Exclusions → Type 0) → Found → Type 0
OnFoundNever P (Kept plan) = Unit {0}
OnFoundNever P (Best plan within) = Unit {0}
OnFoundNever P (Never found) = P found
OnFoundNever P Cyclic = Unit {0}
OnFoundNever P Open = Unit {0}
