use Rattle.std.proofs.Common.{◌≡◌, ◌++◌, drop}
use Rattle.orlib_read.specs.Lines.{job_lines}
use Rattle.orlib_read.proofs.document.push_jobs.Given as goal

abbrev pub invariant-loop-job : goal.invariant-loop-job
invariant-loop-job l = l.text.items ++ job_lines (drop l.job l.shop.routes) ≡ l.initial.text.items ++ job_lines l.shop.routes
