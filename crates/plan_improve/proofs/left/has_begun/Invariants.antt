use Rattle.std.proofs.Common.{◌<◌, ℕ}
use Rattle.plan_improve.proofs.Common.{HasNotArrived}
use Rattle.plan_improve.proofs.left.has_begun.Given as goal

-- no job looked at has arrived
abbrev pub invariant-loop-job : goal.invariant-loop-job
invariant-loop-job g l = (j : ℕ) → j < l.job → HasNotArrived l.cell.cell j
