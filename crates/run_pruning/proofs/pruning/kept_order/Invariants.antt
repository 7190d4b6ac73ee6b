use Rattle.std.proofs.Common.{◌≡◌, take}
use Rattle.run_pruning.specs.Staying.{renumbered}
use Rattle.run_pruning.proofs.pruning.kept_order.Given as goal

-- those of the jobs so far that stay
abbrev pub invariant-loop-job : goal.invariant-loop-job
invariant-loop-job l = l.left.items ≡ renumbered l.kept (take l.job-index l.order)
