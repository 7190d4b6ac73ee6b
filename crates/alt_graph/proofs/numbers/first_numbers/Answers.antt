use Rattle.std.proofs.Common.{arith, ◌<◌}
use Rattle.shop_base.specs.Plan.{jobs}
use Rattle.shop_base.proofs.Sizes.{steps_few}
use Rattle.alt_graph.proofs.Filling.{firsts_more, firsts_all}
use Rattle.alt_graph.proofs.numbers.first_numbers.Goals as goal

pub overflow_add-next : goal.overflow_add-next
overflow_add-next c =
    let inside : c.loop-job.job < jobs c.args.shaped.now = omega arith in
    omega (arith, c.step_count.ensures.count, steps_few _ c.job_count-jobs.ensures.well_shaped _ inside)

pub overflow_add-next-in-loop-job : goal.overflow_add-next-in-loop-job
overflow_add-next-in-loop-job c =
    let inside : c.loop-job.job < jobs c.args.shaped.now = omega arith in
    omega (arith, c.step_count.ensures.count, steps_few _ c.job_count-jobs.ensures.well_shaped _ inside, c.loop-job.invariant.below.few, c.job_count-jobs.ensures.few)

pub loop-job-preserved : goal.loop-job-preserved
loop-job-preserved c =
    let inside : c.loop-job.job < jobs c.args.shaped.now = omega arith in
    record {
      below = rw (c.push_reserved-in-loop-job.ensures.items, c.step_count.ensures.count) (firsts_more _ _ _ _ c.loop-job.invariant.below c.job_count-jobs.ensures.well_shaped inside);
      room = omega (arith, c.push_reserved-in-loop-job.ensures.capacity, c.loop-job.invariant.room);
    }

pub returns-clause-firsts : goal.returns-clause-firsts
returns-clause-firsts c = firsts_all _ _ _ _ c.loop-job.invariant.below c.job_count-jobs.ensures.well_shaped (omega arith)
