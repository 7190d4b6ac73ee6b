use Rattle.std.proofs.Common.{◌≡◌, ◌+◌, ◌<◌, ◌-◌, drop, arith, refl}
use Rattle.std.proofs.lemmas.List.Sums.{sum_by_more, sum_by-drop_more}
use Rattle.shop_base.specs.Shop.{no_step}
use Rattle.shop_base.specs.Work.{route_work}
use Rattle.shop_base.specs.Plan.{route, steps, machine_of, nominal}
use Rattle.plan_bounds.specs.Bounds.{times_of}
use Rattle.plan_bounds.proofs.Sizes.{work-le, release-le, take-le, drop-le, head-fits, tail-fits}
use Rattle.plan_bounds.proofs.Looking.{all_more, all_next}
use Rattle.plan_bounds.proofs.visits.add_visits.Goals as goal

pub work-tail-requires : goal.work-tail-requires
work-tail-requires c = rw c.route_of-route.ensures.route (omega (arith, work-le c.args.shaped.now c.args.job c.route_of-route.ensures.well_shaped c.requires.job))

pub more_visits-requires-clause-head : goal.more_visits-requires-clause-head
more_visits-requires-clause-head c =
    let p = c.args.shaped.now in
    let shaped = c.route_of-route.ensures.well_shaped in
    let is = c.route_of-route.ensures.route in
    let k = c.loop-place.place in
    let step = (shaped.shop.routes c.args.job c.requires.job).steps k (rw is at c.loop-place-test.true) in
    let tail : c.loop-place.tail ≡ route_work (drop k (route p c.args.job)) = rw is at c.loop-place.invariant.2 in
    let few = drop-le p c.args.job shaped c.requires.job k in
    rw is (head-fits p (machine_of p c.args.job k) shaped c.args.job k _ _
    (c.loop-place.invariant.0.each (machine_of p c.args.job k) _ (omega (arith, step.in_range, shaped.shop.counts.few_machines, c.loop-place.invariant.0.size)))
    (omega (arith, tail, few)))

pub more_visits-requires-clause-tail : goal.more_visits-requires-clause-tail
more_visits-requires-clause-tail c =
    let p = c.args.shaped.now in
    let shaped = c.route_of-route.ensures.well_shaped in
    let is = c.route_of-route.ensures.route in
    let k = c.loop-place.place in
    let step = (shaped.shop.routes c.args.job c.requires.job).steps k (rw is at c.loop-place-test.true) in
    let early = release-le p c.args.job shaped c.requires.job in
    let few = take-le p c.args.job shaped c.requires.job k in
    rw is (tail-fits p (machine_of p c.args.job k) shaped c.args.job k _ _
    (c.loop-place.invariant.0.each (machine_of p c.args.job k) _ (omega (arith, step.in_range, shaped.shop.counts.few_machines, c.loop-place.invariant.0.size)))
    (omega (arith, c.loop-place.invariant.1, early, few)))

pub overflow_add-head : goal.overflow_add-head
overflow_add-head c =
    let p = c.args.shaped.now in
    let shaped = c.route_of-route.ensures.well_shaped in
    let is = c.route_of-route.ensures.route in
    let step = (shaped.shop.routes c.args.job c.requires.job).steps c.loop-place.place (rw is at c.loop-place-test.true) in
    let early = release-le p c.args.job shaped c.requires.job in
    let few = take-le p c.args.job shaped c.requires.job c.loop-place.place in
    rw is (omega (arith, c.loop-place.invariant.1, early, few, step.nominal))

pub loop-place-preserved : goal.loop-place-preserved
loop-place-preserved c =
    let p = c.args.shaped.now in
    let t = times_of p in
    let j = c.args.job in
    let shaped = c.route_of-route.ensures.well_shaped in
    let is = c.route_of-route.ensures.route in
    let k = c.loop-place.place in
    let within : k < steps p j = rw is at c.loop-place-test.true in
    let step = (shaped.shop.routes j c.requires.job).steps k within in
    let before = c.loop-place.invariant in
    let left : c.loop-place.tail ≡ route_work (drop k (route p j)) = rw is at before.2 in
    let less = sum_by-drop_more (λ s. s.nominal) (route p j) k no_step within in
    let more = sum_by_more (λ s. s.nominal) (route p j) k no_step within in
    let rest : c.loop-place.tail - nominal p j k ≡ route_work (drop (k + 1) (route p j)) = omega (arith, left, less) in
    let known = rw is at c.more_visits.ensures in
    rw is (
      rw known (all_more t j k c.loop-place.all _ _ before.0 (omega (arith, step.in_range, shaped.shop.counts.few_machines, before.0.size)) within before.1 rest refl (omega (arith, step.nominal))),
      omega (arith, before.1, more),
      rest,
    )

pub returns : goal.returns
returns c =
    let p = c.args.shaped.now in
    let shaped = c.route_of-route.ensures.well_shaped in
    let last = rw c.route_of-route.ensures.route at c.loop-place-test.false in
    let within = rw c.route_of-route.ensures.route at c.loop-place.auto.place-end in
    let few = (shaped.shop.routes c.args.job c.requires.job).few_steps in
    all_next (times_of p) c.args.job c.loop-place.place c.loop-place.all (omega (arith, last, within)) (omega (arith, few)) c.loop-place.invariant.0
