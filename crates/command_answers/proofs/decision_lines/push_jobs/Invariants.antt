use Rattle.std.proofs.Common.{◌≡◌, ◌++◌, drop}
use Rattle.command_answers.specs.DecisionLines.{words_of_jobs}
use Rattle.command_answers.proofs.decision_lines.push_jobs.Given as goal

-- what was written, and what is still to come
abbrev pub invariant-loop-job : goal.invariant-loop-job
invariant-loop-job l = l.text.items ++ words_of_jobs l.names (drop l.job-index l.jobs) ≡ l.initial.text.items ++ words_of_jobs l.names l.jobs
