use Rattle.std.proofs.Common.{◌≡◌, inr, ap, subst, ◌∙◌}
use Rattle.plan_improve.proofs.{Common.{HasCycle, PlannedShop, lists_of, reordered, serial_order}, Serially.{serial_fits, serial_acyclic}}
use Rattle.plan_improve.proofs.Standing.{stands_by, fresh_begins, stands_own, costs_back}
use Rattle.plan_improve.proofs.beginning.first_serially.Goals as goal

pub reorder_by-serial-requires-clause-shaped : goal.reorder_by-serial-requires-clause-shaped
reorder_by-serial-requires-clause-shaped c =
    serial_fits c.args.start.plan c.shop.result.now (lists_of c.in-Ok.order.items) c.shaped.ensures.well_shaped (c.shop.ensures.same ∙ ap (λ (p : PlannedShop). p.shop) c.shaped.ensures.plan) c.in-Ok.ensures

pub reorder_by-serial-requires-clause-begins : goal.reorder_by-serial-requires-clause-begins
reorder_by-serial-requires-clause-begins c =
    fresh_begins c.args.fixed.now c.args.start (reordered c.args.start.plan (lists_of c.in-Ok.order.items)) c.shaped.ensures.well_shaped c.shaped.ensures.sound c.requires.stands c.requires.fresh

pub cost-requires : goal.cost-requires
cost-requires c =
    let begins = fresh_begins c.args.fixed.now c.args.start c.reorder_by-serial.result.plan c.shaped.ensures.well_shaped c.shaped.ensures.sound c.requires.stands c.requires.fresh in
    let there = stands_by c.args.fixed.now c.args.start c.reorder_by-serial.result (lists_of c.in-Ok.order.items) c.requires.stands c.reorder_by-serial.ensures.plan c.reorder_by-serial.ensures.cell
    c.reorder_by-serial.ensures.present begins in
    stands_own c.args.fixed.now c.args.start c.reorder_by-serial.result there

pub unreachable-requires : goal.unreachable-requires
unreachable-requires c =
    let serial : c.reorder_by-serial.result.plan ≡ reordered c.args.start.plan (serial_order c.args.start.plan.shop) = c.reorder_by-serial.ensures.plan
    ∙ ap (reordered c.args.start.plan) (c.in-Ok.ensures ∙ ap serial_order (c.shop.ensures.same ∙ ap (λ (p : PlannedShop). p.shop) c.shaped.ensures.plan)) in
    serial_acyclic c.args.start.plan c.shaped.ensures.well_shaped (subst HasCycle serial (rw c.in-Ok-None.field-0-is at c.in-Ok-None.ensures))

pub returns-in-Ok-Some-clause-first : goal.returns-in-Ok-Some-clause-first
returns-in-Ok-Some-clause-first c =
    let serial : c.reorder_by-serial.result.plan ≡ reordered c.args.start.plan (serial_order c.args.start.plan.shop) = c.reorder_by-serial.ensures.plan
    ∙ ap (reordered c.args.start.plan) (c.in-Ok.ensures ∙ ap serial_order (c.shop.ensures.same ∙ ap (λ (p : PlannedShop). p.shop) c.shaped.ensures.plan)) in
    let begins = fresh_begins c.args.fixed.now c.args.start c.reorder_by-serial.result.plan c.shaped.ensures.well_shaped c.shaped.ensures.sound c.requires.stands c.requires.fresh in
    let there = stands_by c.args.fixed.now c.args.start c.reorder_by-serial.result (lists_of c.in-Ok.order.items) c.requires.stands c.reorder_by-serial.ensures.plan c.reorder_by-serial.ensures.cell
    c.reorder_by-serial.ensures.present begins in (
      inr (c.requires.cycle, c.requires.fresh, serial),
      there,
      costs_back c.args.fixed.now c.args.start c.reorder_by-serial.result there c.reorder_by-serial.result.plan c.in-Ok-Some.cost (rw c.in-Ok-Some.field-0-is at c.in-Ok-Some.ensures),
    )
