use Rattle.std.proofs.Common.{◌≡◌, ◌-◌}
use Rattle.shop_base.specs.Vectors.{lists_of}
use Rattle.orlib_read.specs.Reading.{jobs_at}
use Rattle.orlib_read.specs.Cursor.{lines_left}
use Rattle.orlib_read.proofs.Loops.{with_routes}
use Rattle.orlib_read.proofs.reading.read_jobs.Given as goal

abbrev pub invariant-loop-job : goal.invariant-loop-job
invariant-loop-job l = with_routes (lists_of l.routes.items) (jobs_at l.job (l.jobs - l.job) (lines_left l.left)) ≡ jobs_at 0 l.jobs (lines_left l.lines)
