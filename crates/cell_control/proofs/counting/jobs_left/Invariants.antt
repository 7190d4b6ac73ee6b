use Rattle.std.proofs.Common.{◌≡◌, ◌*◌, ◌≤◌}
use Rattle.shop_base.specs.{Ends.sum_below, ReportsLeft.job_reports_left}
use Rattle.cell_control.proofs.counting.jobs_left.Given as goal

-- those of the jobs looked at
abbrev pub invariant-loop-job : goal.invariant-loop-job
invariant-loop-job g l = (l.left ≡ sum_below (job_reports_left l.cell.plan l.cell.cell) l.job) × (l.left ≤ 101 * l.job)
