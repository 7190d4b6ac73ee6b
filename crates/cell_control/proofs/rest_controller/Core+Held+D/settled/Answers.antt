use Rattle.std.proofs.Common.{ap, sym, subst, ◌∙◌}
use Rattle.cell_control.specs.{Control.IsControl, Begun.IsBegun, Fields.begun_with}
use Rattle.cell_control.proofs.Fields.{begun_is, settled-begun, settled-control}
use Rattle.cell_control.proofs.rest_controller.Core+Held+D.settled.Goals as goal

pub begin_at_rest-requires-clause-control : goal.begin_at_rest-requires-clause-control
begin_at_rest-requires-clause-control g c =
    let rest = c.args.rest in
    let parts = c.into_parts-cell.ensures in
    let new = c.dispatch_enabled.new.cell in
    let orders = c.dispatch_enabled.new.orders.items in
    let settled = rw (c.hold-cell.ensures.plan, c.hold-cell.ensures.cell, parts.plan, parts.cell, parts.present) at c.dispatch_enabled.ensures.settled in
    let sound = rw (parts.plan, parts.cell) at c.shaped-plan.ensures.sound in
    rw parts.present (subst IsControl
    (sym (begun_is new rest.plan new.basis.times c.args.times orders rest.present (ap (λ x. x.plan) c.dispatch_enabled.ensures.same_plan ∙ c.hold-cell.ensures.plan ∙ parts.plan)
    (ap (λ x. x.basis.times) c.dispatch_enabled.ensures.same_plan ∙ c.hold-cell.ensures.times)))
    (settled-control rest.plan rest.cell rest.present c.args.times orders new.cell sound parts.rest.moment c.requires.ordered settled parts.rest.reached))

pub returns : goal.returns
returns g c =
    let rest = c.args.rest in
    let parts = c.into_parts-cell.ensures in
    let new = c.dispatch_enabled.new.cell in
    let orders = c.dispatch_enabled.new.orders.items in
    let settled = rw (c.hold-cell.ensures.plan, c.hold-cell.ensures.cell, parts.plan, parts.cell, parts.present) at c.dispatch_enabled.ensures.settled in
    let sound = rw (parts.plan, parts.cell) at c.shaped-plan.ensures.sound in
    let began = c.begin_at_rest.ensures ∙ ap (begun_with new new.basis.times orders) parts.present in
    subst (IsBegun rest.plan rest.cell rest.present)
    (sym (began ∙ begun_is new rest.plan new.basis.times c.args.times orders rest.present (ap (λ x. x.plan) c.dispatch_enabled.ensures.same_plan ∙ c.hold-cell.ensures.plan ∙ parts.plan)
    (ap (λ x. x.basis.times) c.dispatch_enabled.ensures.same_plan ∙ c.hold-cell.ensures.times)))
    (settled-begun rest.plan rest.cell rest.present c.args.times orders new.cell sound parts.rest.moment c.requires.ordered settled)
