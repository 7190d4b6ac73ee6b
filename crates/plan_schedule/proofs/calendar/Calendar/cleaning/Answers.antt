use Rattle.std.proofs.Common.{◌+◌, ◌<◌, arith, rules, ap, subst}
use Rattle.shop_base.specs.{Plan.{PlannedShop, machines, clean}, Graph.node}
use Rattle.shop_base.proofs.Sizes.{steps_few}
use Rattle.plan_schedule.proofs.calendar.Calendar.cleaning.Goals as goal

pub overflow_add-left : goal.overflow_add-left
overflow_add-left g c = omega (arith, steps_few c.args.self.now.plan c.step-machine.ensures.calendar.ranks.shaped c.args.job c.requires.job, c.requires.place)

pub overflow_add-result : goal.overflow_add-result
overflow_add-result g c =
    let m = c.step-machine.result.machine in
    let here : m < machines c.shaped.result.now = search rules in
    let inside = subst (λ (q : PlannedShop). m < machines q) c.shaped.ensures.plan here in
    omega (
      arith,
      c.at-from.ensures,
      ap (λ (q : PlannedShop). clean q m) c.shaped.ensures.plan,
      c.shaped.ensures.well_shaped.limits.cleanings m inside,
      c.step-machine.ensures.calendar.soon (node c.args.job (c.args.place + 1)) (record { job = c.requires.job; place = omega (arith, c.requires.place) }) c.requires.ahead,
    )
