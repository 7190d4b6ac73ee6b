use Rattle.std.proofs.Common.{◌≡◌, ◌<◌, ◌≤◌, [], length, arith}
use Rattle.std.proofs.lemmas.Option.{get_or_from_slice_get}
use Rattle.shop_base.specs.Shop.{route_at}
use Rattle.shop_base.proofs.Marking.{visits_none, visits_more, visits_all}
use Rattle.shop_base.proofs.shape_check.count_visits.Goals as goal
use Rattle.shop_base.proofs.shape_check.count_visits.Goals.{in-Some, in_default}

pub loop-job-init : goal.loop-job-init
loop-job-init c = visits_none _

pub loop-job-preserved : goal.loop-job-preserved
loop-job-preserved c = elim c.match-route.branch [
  | in-Some w ↦ (
      let is : route_at c.args.shop.now.routes c.loop-job.job ≡ w.in-Some.route.now = get_or_from_slice_get c.args.shop.now.routes c.loop-job.job w.in-Some.route.now [] w.in-Some.ensures in
      let inside : c.loop-job.job < length c.loop-job.visits = omega (arith, c.jobs-job-end.ensures.count, c.jobs-job-end.ensures.sound.counts.few_jobs, c.loop-job.invariant.size) in
      rw w.visits-is (visits_more _ _ _ c.loop-job.invariant w.visited_by.result inside (rw is w.visited_by.ensures)))
  | in_default w ↦ (let past : length c.args.shop.now.routes ≤ c.loop-job.job = w.in_default.ensures in absurd (omega (arith, past, c.jobs-job-end.ensures.count)))
]

pub returns : goal.returns
returns c = visits_all _ _ _ c.loop-job.invariant (omega arith)
