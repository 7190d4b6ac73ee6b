use Rattle.std.proofs.Common.{◌≡◌, ◌++◌}
use Rattle.plan_verifier.specs.Leavings.{leaves_in}
use Rattle.plan_explain.specs.FirstLines.{moment_words, moments_below}
use Rattle.plan_explain.proofs.first_lines.push_leavings.Given as goal

-- the leavings of the jobs looked at are written
abbrev pub invariant-loop-job : goal.invariant-loop-job
invariant-loop-job g l = l.text.items ≡ l.initial.text.items ++ moment_words (moments_below (leaves_in (g.P.Planned.planned l.plan) l.times) l.job)
