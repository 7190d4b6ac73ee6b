use Rattle.std.proofs.Common.{◌≡◌, ◌++◌}
use Rattle.run_state.specs.StateText.{job_lines}
use Rattle.run_state.proofs.rest_state.push_jobs.Given as goal

-- the lines of the jobs so far
abbrev pub invariant-loop-job : goal.invariant-loop-job
invariant-loop-job g l = l.text.items ≡ l.initial.text.items ++ job_lines l.names l.cell.plan l.cell.cell l.at l.job
