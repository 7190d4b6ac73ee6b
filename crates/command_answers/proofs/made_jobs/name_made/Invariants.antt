use Rattle.std.proofs.Common.{◌≡◌, drop, map}
use Rattle.std.specs.Option.{option_copied}
use Rattle.command_answers.specs.MadeJobs.{named_from, unnamed_from}
use Rattle.command_answers.proofs.made_jobs.name_made.Given as goal

-- what is still to come leads to what comes of all
abbrev pub invariant-loop-place : goal.invariant-loop-place
invariant-loop-place l =
    let called = map option_copied l.called in
    record {
      names : named_from called l.place l.names (drop l.place l.changes) ≡ named_from called 0 l.initial.names l.changes;
      first : unnamed_from called l.place l.names l.all (drop l.place l.changes) ≡ unnamed_from called 0 l.initial.names l.fn.all_named l.changes;
    }
