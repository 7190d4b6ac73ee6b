use Rattle.std.proofs.Common.{◌<◌, length, arith}
use Rattle.shop_base.specs.Shop.{step_at}
use Rattle.shop_base.specs.Vectors.{lists_of}
use Rattle.plan_seek.proofs.Rows.{length_lists, route_none, route_more, route_whole}
use Rattle.plan_seek.proofs.orders.add_visits.Goals as goal

pub loop-step-init : goal.loop-step-init
loop-step-init c = route_none (lists_of c.args.orders.now.items) c.args.route.now c.args.job

pub index_mut-requires : goal.index_mut-requires
index_mut-requires c =
    omega (arith, c.requires c.loop-step.step-index (omega arith), c.loop-step.invariant.count, length_lists c.args.orders.now.items, length_lists c.loop-step.orders.items, c.loop-step.orders.ok.0)

pub loop-step-preserved : goal.loop-step-preserved
loop-step-preserved c =
    let inside : (step_at c.args.route.now c.loop-step.step-index).machine < length c.loop-step.orders.items =
    omega (arith, c.requires c.loop-step.step-index (omega arith), c.loop-step.invariant.count, length_lists c.args.orders.now.items, length_lists c.loop-step.orders.items) in
    route_more c.args.route.now (lists_of c.args.orders.now.items) c.loop-step.orders.items c.loop-step.step-index c.args.job c.index_mut.result.now c.push.new.self
    (omega arith) inside c.index_mut.ensures.value c.in_ok-push.ensures.items c.loop-step.invariant

pub returns : goal.returns
returns c = route_whole c.args.route.now (lists_of c.args.orders.now.items) (lists_of c.loop-step.orders.items) c.loop-step.step-index c.args.job (omega arith) c.loop-step.invariant
