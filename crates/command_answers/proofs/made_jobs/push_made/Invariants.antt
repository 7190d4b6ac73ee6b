use Rattle.std.proofs.Common.{◌≡◌, ◌++◌, drop}
use Rattle.command_answers.specs.MadeJobs.{all_made}
use Rattle.command_answers.proofs.made_jobs.push_made.Given as goal

-- what was added, and what is still to come
abbrev pub invariant-loop-change : goal.invariant-loop-change
invariant-loop-change l = l.origins.items ++ all_made (drop l.change-index l.changes) ≡ l.initial.origins.items ++ all_made l.changes
