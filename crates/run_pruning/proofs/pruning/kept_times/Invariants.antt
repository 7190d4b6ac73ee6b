use Rattle.std.proofs.Common.{◌≡◌, ◌++◌, drop}
use Rattle.run_pruning.specs.Staying.{staying}
use Rattle.run_pruning.proofs.pruning.kept_times.Given as goal

-- the times so far, and those of the jobs that are left, are all that stay
abbrev pub invariant-loop-job : goal.invariant-loop-job
invariant-loop-job l = l.left.items ++ staying (drop l.job l.kept) (drop l.job l.times) ≡ staying l.kept l.times
