use Rattle.std.proofs.Common.{arith, ap}
use Rattle.shop_base.specs.{declared.shop.Step.Step, Graph.node}
use Rattle.shop_base.proofs.Sizes.{steps_few}
use Rattle.plan_schedule.proofs.calendar.Calendar.visit.Goals as goal

pub overflow_add-next : goal.overflow_add-next
overflow_add-next g c = omega (arith, steps_few c.args.self.now.plan c.step-step.ensures.calendar.ranks.shaped c.args.job c.requires.job, c.requires.place)

pub overflow_add-result : goal.overflow_add-result
overflow_add-result g c =
    let is = c.step-step.ensures.calendar in
    omega (
      arith,
      c.at-from.ensures,
      is.soon (node c.args.job c.args.place) (record { job = c.requires.job; place = omega (arith, c.requires.place) }) c.requires.ahead,
      ap (λ (s : Step). s.nominal) c.step-step.ensures.step,
      ((is.ranks.shaped.shop.routes c.args.job c.requires.job).steps c.args.place c.requires.place).nominal,
    )
