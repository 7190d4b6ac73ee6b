use Rattle.event_lines.proofs.JobSteps.{no_step_without_dot, no_job, no_step}
use Rattle.event_lines.proofs.words.job_step_of.Goals as goal

pub returns-in_err-front : goal.returns-in_err-front
returns-in_err-front c = rw c.from_residual.ensures (no_step_without_dot c.args.word.now c.in_err-front.ensures)

pub returns-in_err-job : goal.returns-in_err-job
returns-in_err-job c = rw c.from_residual-in_err-job.ensures (no_job c.args.word.now c.in_ok-front.front.now c.in_ok-front.back.now c.in_ok-front.ensures c.in_err-job.ensures)

pub returns-in_err-step : goal.returns-in_err-step
returns-in_err-step c = rw c.from_residual-in_err-step.ensures (no_step c.args.word.now c.in_ok-front.front.now c.in_ok-front.back.now c.in_ok-front.ensures c.in_err-step.ensures)

pub returns : goal.returns
returns c = record {
  front = c.in_ok-front.front.now;
  back = c.in_ok-front.back.now;
  split = c.in_ok-front.ensures.split;
  is_job = c.in_ok-job.ensures;
  is_step = c.in_ok-step.ensures;
}
