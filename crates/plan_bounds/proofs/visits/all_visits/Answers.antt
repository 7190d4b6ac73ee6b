use Rattle.std.proofs.Common.{arith}
use Rattle.plan_bounds.specs.Bounds.{times_of}
use Rattle.plan_bounds.proofs.Looking.{all_none, all_looked}
use Rattle.plan_bounds.proofs.visits.all_visits.Goals as goal

pub loop-job-init : goal.loop-job-init
loop-job-init c = let none = c.no_visits-all.ensures in all_none (times_of c.args.shaped.now) c.no_visits-all.result none.count none.work none.head none.tail none.ends

pub returns-clause-known : goal.returns-clause-known
returns-clause-known c =
    let few = c.job_count-job-end.ensures.well_shaped.shop.counts.few_jobs in
    all_looked (times_of c.args.shaped.now) c.loop-job.job c.loop-job.all (omega (arith, c.loop-job-test.false, c.loop-job.auto.job-end, c.job_count-job-end.ensures.count)) (omega (arith, few)) c.loop-job.invariant
