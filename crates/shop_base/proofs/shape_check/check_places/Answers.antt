use Rattle.std.proofs.Common.{◌<◌, length, arith}
use Rattle.shop_base.specs.Plan.{job_at}
use Rattle.shop_base.proofs.Marking.{places_none, places_more}
use Rattle.shop_base.proofs.Orders.{no_visitor, some_visitor}
use Rattle.shop_base.proofs.shape_check.check_places.Goals as goal

pub loop-place-init : goal.loop-place-init
loop-place-init c = places_none _ _

pub loop-place-preserved : goal.loop-place-preserved
loop-place-preserved c =
    let is_order = c.order_of-order.ensures in
    let few = c.jobs.ensures.sound.counts.few_jobs in
    let is_job = rw is_order at c.if-job-jobs.false in
    let count = rw is_order at c.visits_on-visits.ensures in
    let less = rw is_order at c.if-listed-job.false in
    rw is_order (places_more _ _ _ _ c.loop-place.invariant (omega (arith, is_job, few, c.loop-place.invariant.size, c.jobs.ensures.count))
    (omega (arith, count, less, c.loop-place.invariant.counts (job_at (record { shop = c.args.shop.now; plan = c.args.plan.now }) c.args.machine c.loop-place.place) (omega (arith, is_job, few, c.loop-place.invariant.size, c.jobs.ensures.count)))))

pub returns-then-visits-eq0-clause-first_fault : goal.returns-then-visits-eq0-clause-first_fault
returns-then-visits-eq0-clause-first_fault c =
    let is_order = c.order_of-order.ensures in
    let inside = rw is_order at c.loop-place-test.true in
    let is_job = rw is_order at c.if-job-jobs.false in
    let count = rw is_order at c.visits_on-visits.ensures in (
      record { reached = c.requires.reached; in_range = omega (arith, inside); before = c.loop-place.invariant.good },
      omega (arith, is_job, c.jobs.ensures.count),
      no_visitor _ _ _ (omega (arith, count, c.if-visits-eq0.true)),
    )

pub returns-then-listed-job-clause-first_fault : goal.returns-then-listed-job-clause-first_fault
returns-then-listed-job-clause-first_fault c =
    let is_order = c.order_of-order.ensures in
    let inside = rw is_order at c.loop-place-test.true in
    let is_job = rw is_order at c.if-job-jobs.false in
    let few = c.jobs.ensures.sound.counts.few_jobs in
    let count = rw is_order at c.visits_on-visits.ensures in
    let many = rw is_order at c.if-listed-job.true in (
      record { reached = c.requires.reached; in_range = omega (arith, inside); before = c.loop-place.invariant.good },
      some_visitor _ _ _ (omega (arith, count, c.if-visits-eq0.false)),
      omega (arith, count, many, c.loop-place.invariant.counts (job_at (record { shop = c.args.shop.now; plan = c.args.plan.now }) c.args.machine c.loop-place.place) (omega (arith, is_job, few, c.loop-place.invariant.size, c.jobs.ensures.count))),
    )

pub returns-clause-good : goal.returns-clause-good
returns-clause-good c = λ a lt. (let within : a < length c.order_of-order.result.now = rw c.order_of-order.ensures lt in c.loop-place.invariant.good a (omega arith))
