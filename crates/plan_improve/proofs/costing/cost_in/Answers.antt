use Rattle.std.proofs.Common.{◌≡◌, ◌<◌, arith}
use Rattle.plan_improve.proofs.{Common.{jobs, leaves_in}, RestCosts.{late_none, late_few, late_more}}
use Rattle.plan_improve.proofs.costing.cost_in.Goals as goal

pub loop-job-init : goal.loop-job-init
loop-job-init g c = late_none _ _ _

pub loop-job-preserved : goal.loop-job-preserved
loop-job-preserved g c =
    let p = c.args.cell.now.plan in
    let inside : c.loop-job.job < jobs c.args.cell.now.plan = omega (arith, c.loop-job-test.true, c.job_count-job-end.ensures.count) in
    late_more p c.args.cell.now.cell (leaves_in p c.args.times.now) c.loop-job.job c.loop-job.late c.late_of-late.result c.loop-job.invariant c.late_of-late.ensures
    (late_few p c.args.cell.now.cell c.args.times.now c.loop-job.job c.requires.soon inside)

pub returns-clause-late : goal.returns-clause-late
returns-clause-late g c =
    let all : c.loop-job.job ≡ jobs c.args.cell.now.plan = omega (arith, c.loop-job-test.false, c.loop-job.auto.job-end, c.job_count-job-end.ensures.count) in
    rw (← all) c.loop-job.invariant.sum

pub overflow_add-late : goal.overflow_add-late
overflow_add-late g c =
    let inside : c.loop-job.job < jobs c.args.cell.now.plan = omega (arith, c.loop-job-test.true, c.job_count-job-end.ensures.count) in
    omega (
      arith,
      c.loop-job.invariant.few,
      c.late_of-late.ensures,
      late_few c.args.cell.now.plan c.args.cell.now.cell c.args.times.now c.loop-job.job c.requires.soon inside,
      inside,
      c.job_count-job-end.ensures.count,
      c.job_count-job-end.ensures.few,
    )
