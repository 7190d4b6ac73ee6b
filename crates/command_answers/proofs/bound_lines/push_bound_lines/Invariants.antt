use Rattle.std.proofs.Common.{◌≡◌, ◌++◌}
use Rattle.plan_bounds.specs.Bounds.{times_of}
use Rattle.command_answers.specs.BoundLines.{bound_lines_below}
use Rattle.command_answers.proofs.bound_lines.push_bound_lines.Given as goal

-- the lines of the jobs looked at are written
abbrev pub invariant-loop-job : goal.invariant-loop-job
invariant-loop-job l = l.text.items ≡ l.initial.text.items ++ bound_lines_below l.names (times_of l.shaped) l.shaped.plan.budget l.job
