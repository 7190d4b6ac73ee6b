use Rattle.plan_decide.specs.Listed.{AreCounted}
use Rattle.plan_decide.proofs.pairs.doubtful_jobs.Given as goal

-- of the jobs before this one so many are in doubt
abbrev pub invariant-loop-job : goal.invariant-loop-job
invariant-loop-job l = AreCounted l.standings l.job l.count
