use Rattle.plan_decide.specs.LeftOut.{AreLimited}
use Rattle.plan_decide.proofs.leaving_out.limited_jobs.Given as goal

-- the jobs before this one that have limits
abbrev pub invariant-loop-job : goal.invariant-loop-job
invariant-loop-job g l = AreLimited l.limits l.job l.found.items
