use Rattle.plan_bounds.specs.Bounds.{times_of}
use Rattle.command_answers.proofs.BoundTexts.{lines_more}
use Rattle.command_answers.proofs.bound_lines.push_bound_lines.Goals as goal

pub loop-job-preserved : goal.loop-job-preserved
loop-job-preserved c = lines_more c.args.names.now (times_of c.args.shaped.now) c.args.shaped.now.plan.budget _ _ _ c.loop-job.job _ _ c.loop-job.invariant c.job_bound.ensures c.budget_of.ensures.budget
    c.in_ok-push_bound_line.ensures
