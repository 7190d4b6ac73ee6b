use Rattle.std.proofs.Common.{map, string_bytes, sym}
use Rattle.people_names.proofs.KeptNames.{are_short, no_more_jobs, no_name, one_name, short_of_jobs}
use Rattle.people_names.proofs.kept.names_of_jobs.Goals as goal

pub returns-in_default-clause-exact : goal.returns-in_default-clause-exact
returns-in_default-clause-exact c =
    no_name (map string_bytes c.args.names.now) c.args.jobs.now c.loop-job.job-index _ (map string_bytes c.loop-job.kept.items) _ c.loop-job-test.true c.loop-job.invariant (sym c.in_default.ensures)

pub returns-in_default-clause-short : goal.returns-in_default-clause-short
returns-in_default-clause-short c =
    are_short _ _ (returns-in_default-clause-exact c) (short_of_jobs (map string_bytes c.args.names.now) c.args.jobs.now c.requires)

pub loop-job-preserved : goal.loop-job-preserved
loop-job-preserved c =
    one_name (map string_bytes c.args.names.now) c.args.jobs.now c.loop-job.job-index _ (map string_bytes c.loop-job.kept.items) _ c.loop-job-test.true c.loop-job.invariant
    c.in-Some.name.now _ (sym c.in-Some.ensures) c.in_ok-push_copy.ensures

pub returns-clause-exact : goal.returns-clause-exact
returns-clause-exact c =
    no_more_jobs (map string_bytes c.args.names.now) c.args.jobs.now c.loop-job.job-index (map string_bytes c.loop-job.kept.items) c.loop-job-test.false c.loop-job.invariant

pub returns-clause-short : goal.returns-clause-short
returns-clause-short c =
    are_short _ _ (returns-clause-exact c) (short_of_jobs (map string_bytes c.args.names.now) c.args.jobs.now c.requires)
