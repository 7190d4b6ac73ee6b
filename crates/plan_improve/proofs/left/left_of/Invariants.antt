use Rattle.std.proofs.Common.{◌≡◌, map}
use Rattle.plan_improve.proofs.Common.{cleaning, job_rest, range_with_len}
use Rattle.plan_improve.proofs.left.left_of.Given as goal

-- the jobs looked at
abbrev pub invariant-loop-job : goal.invariant-loop-job
invariant-loop-job g l = l.jobs.items ≡ map (job_rest l.rest.plan l.rest.cell l.rest.present) (range_with_len 0 l.job)

-- the machines looked at
abbrev pub invariant-loop-machine : goal.invariant-loop-machine
invariant-loop-machine g l = l.cleanings.items ≡ map (cleaning l.rest.cell) (range_with_len 0 l.machine)
