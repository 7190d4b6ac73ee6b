use Rattle.std.proofs.Common.{sym, ap, subst, ◌∙◌}
use Rattle.shop_base.specs.Plan.{IsWellShaped}
use Rattle.plan_seek.specs.Tasks.{with_order}
use Rattle.shop_base.proofs.Refusals.{shape_fault_refutes}
use Rattle.plan_seek.proofs.serial.shape_serial.Goals as goal

pub unreachable-requires : goal.unreachable-requires
unreachable-requires c =
    shape_fault_refutes (record { shop = c.with_order-shop.result.0; plan = c.with_order-shop.result.1 }) c.in-Err.field-0.fault c.in-Err.ensures.first_fault
    (subst IsWellShaped (sym (c.with_order-shop.ensures ∙ ap (with_order c.args.task) c.requires.serial)) c.requires.sound)

pub verify_serial-requires : goal.verify_serial-requires
verify_serial-requires c = subst IsWellShaped (sym c.in-Ok.ensures.shaped) c.in-Ok.ensures.well_shaped

pub returns : goal.returns
returns c = c.verify_serial.ensures c.args.task (c.in-Ok.ensures.shaped ∙ c.with_order-shop.ensures ∙ ap (with_order c.args.task) c.requires.serial)
