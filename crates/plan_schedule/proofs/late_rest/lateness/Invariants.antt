use Rattle.std.proofs.Common.{◌≡◌}
use Rattle.alt_graph.specs.Times.{earliest_of}
use Rattle.plan_schedule.specs.Lateness.{lateness}
use Rattle.plan_schedule.proofs.late_rest.lateness.Given as goal

-- the greatest of the jobs looked at
abbrev pub invariant-loop-job : goal.invariant-loop-job
invariant-loop-job g l = l.most ≡ lateness l.cell.plan l.cell.cell (earliest_of l.times) l.job
