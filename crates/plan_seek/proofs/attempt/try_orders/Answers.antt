use Rattle.std.proofs.Common.{◌∙◌}
use Rattle.shop_base.specs.Vectors.{lists_of}
use Rattle.plan_seek.proofs.Asking.{shaped_outcome, refused_outcome}
use Rattle.plan_seek.proofs.attempt.try_orders.Goals as goal

pub returns-in-Ok : goal.returns-in-Ok
returns-in-Ok c = shaped_outcome c.args.task (lists_of c.args.order.items) c.in-Ok.shaped c.try_shaped.result
    (c.in-Ok.ensures.shaped ∙ c.with_order-shop.ensures) c.try_shaped.ensures

pub returns-in-Err : goal.returns-in-Err
returns-in-Err c = refused_outcome c.args.task c.of.result (lists_of c.args.order.items) c.with_order-shop.result.0 c.in-Err.refused.shop
    c.with_order-shop.result.1 c.in-Err.refused.plan c.in-Err.refused.fault c.with_order-shop.ensures c.in-Err.ensures.same_shop c.in-Err.ensures.same_plan
    c.of.ensures c.in-Err.ensures.first_fault
