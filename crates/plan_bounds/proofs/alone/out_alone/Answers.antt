use Rattle.std.proofs.Common.{◌≡◌, ◌<◌, ◌-◌, ◌+◌, ◌*◌, arith, ap, ◌∙◌}
use Rattle.shop_base.specs.Plan.{route, steps, machine_of}
use Rattle.plan_bounds.specs.Bounds.{times_of, alone_after}
use Rattle.plan_bounds.proofs.Showing.{shows_none, shows_first, shows_later, shows_next}
use Rattle.plan_bounds.proofs.alone.out_alone.Goals as goal
use Rattle.plan_bounds.proofs.alone.out_alone.Goals.{then-place-gt0, else-place-gt0}

pub loop-place-init : goal.loop-place-init
loop-place-init c = (omega arith, shows_none (times_of c.args.shaped.now) c.args.job c.args.made c.args.at)

pub loop-place-preserved : goal.loop-place-preserved
loop-place-preserved c =
    let p = c.args.shaped.now in
    let t = times_of p in
    let shaped = c.route_of-route.ensures.well_shaped in
    let is = c.route_of-route.ensures.route in
    let k = c.loop-place.place in
    let within : k < steps p c.args.job = rw is at c.loop-place-test.true in
    let sound = (shaped.shop.routes c.args.job c.requires.job).steps in
    let few = shaped.shop.counts.few_machines in
    let begun = c.loop-place.auto.place in
    let shows = c.loop-place.invariant.1 in
    let a = alone_after t c.args.job c.args.made c.args.at (k - c.args.made) in
    let limit = c.args.at + (k - c.args.made) * 2000000 in
    let enters = rw is at c.max-enters.ensures in
    let inside = sound k within in (
      rw is (omega (arith, begun, within)),
      rw is (shows_next t c.args.job c.args.made c.args.at k _ _ begun (elim c.if-place-gt0.branch [
        | then-place-gt0 w ↦ (
            let left = sound (k - 1) (omega (arith, within, w.if-place-gt0)) in
            let cleaned = rw is at w.clean_of.ensures in
            rw w.free-is (rw is (rw cleaned (shows_later t (route p c.args.job) a limit c.loop-place.ready c.loop-place.free shows k c.max-enters.result (omega (arith, inside.in_range, few)) enters (omega (arith, inside.nominal))
            (k - 1) (omega (arith, w.if-place-gt0)) (omega (arith, left.in_range, few)) (omega (arith, shaped.limits.cleanings (machine_of p c.args.job (k - 1)) left.in_range))))))
        | else-place-gt0 w ↦
            rw w.free-is (shows_first t (route p c.args.job) a limit c.loop-place.ready c.loop-place.free shows k c.max-enters.result (omega (arith, inside.in_range, few)) enters (omega (arith, inside.nominal)) (omega (arith, w.if-place-gt0)))
      ])),
    )

pub returns : goal.returns
returns c =
    let p = c.args.shaped.now in
    let last = rw c.route_of-route.ensures.route at c.loop-place-test.false in
    let few = rw c.route_of-route.ensures.route at c.loop-place.invariant.0 in
    let all : c.loop-place.place - c.args.made ≡ steps p c.args.job - c.args.made = omega (arith, last, few) in
    c.loop-place.invariant.1.ready ∙ ap (λ n. (alone_after (times_of p) c.args.job c.args.made c.args.at n).ready) all
