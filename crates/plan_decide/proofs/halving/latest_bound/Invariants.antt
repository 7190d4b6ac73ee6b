use Rattle.plan_decide.specs.declared.aim.Objective.TheVariants.{Makespan}
use Rattle.plan_decide.specs.Objectives.{IsLeastValue}
use Rattle.plan_decide.specs.Settings.{case_in}
use Rattle.plan_decide.proofs.halving.latest_bound.Given as goal

-- no plan is sooner than the bounds of the jobs before this one
abbrev pub invariant-loop-job : goal.invariant-loop-job
invariant-loop-job g l = IsLeastValue (case_in l.setting) Makespan l.bound
