use Rattle.event_lines.proofs.JobSteps.{no_moment_behind, no_step_first, no_moment_last, step_and_moment}
use Rattle.event_lines.proofs.words.step_and_moment.Goals as goal

pub returns-in_err-word : goal.returns-in_err-word
returns-in_err-word c = rw c.from_residual.ensures (no_moment_behind c.args.words.now c.in_err-word.ensures)

pub returns-in_err-job : goal.returns-in_err-job
returns-in_err-job c = rw c.from_residual-in_err-job.ensures (no_step_first c.args.words.now c.in_ok-word.word.now c.in_ok-word.rest.now c.in_ok-word.ensures c.in_err-job.ensures)

pub returns-in_err-at : goal.returns-in_err-at
returns-in_err-at c = rw c.from_residual-in_err-at.ensures (no_moment_last c.args.words.now c.in_ok-word.word.now c.in_ok-word.rest.now c.in_ok-word.ensures c.in_err-at.ensures.number)

pub returns : goal.returns
returns c = step_and_moment c.args.words.now c.in_ok-word.word.now c.in_ok-word.rest.now c.in_ok-word.ensures c.in_ok-job.job c.in_ok-job.step c.in_ok-at.at c.in_ok-job.ensures c.in_ok-at.ensures.number
