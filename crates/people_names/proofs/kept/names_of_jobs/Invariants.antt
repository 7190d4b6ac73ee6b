use Rattle.std.proofs.Common.{◌≡◌, ◌++◌, drop, map, string_bytes}
use Rattle.people_names.specs.KeptNames.{names_of_jobs}
use Rattle.people_names.proofs.kept.names_of_jobs.Given as goal

abbrev pub invariant-loop-job : goal.invariant-loop-job
invariant-loop-job l =
    let names = map string_bytes l.names in map string_bytes l.kept.items ++ names_of_jobs names (drop l.job-index l.jobs) ≡ names_of_jobs names l.jobs
