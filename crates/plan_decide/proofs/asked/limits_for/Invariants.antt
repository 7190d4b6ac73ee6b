use Rattle.plan_decide.specs.Settings.{case_in}
use Rattle.plan_decide.specs.Asking.{AreLimits}
use Rattle.plan_decide.proofs.asked.limits_for.Given as goal

-- the limits of the jobs before this one
abbrev pub invariant-loop-job : goal.invariant-loop-job
invariant-loop-job g l = AreLimits (case_in l.setting) l.asked l.job l.limits.items
