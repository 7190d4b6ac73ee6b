use Rattle.std.proofs.Common.{arith, ap}
use Rattle.shop_base.specs.declared.shop.Step.{Step}
use Rattle.plan_schedule.proofs.calendar.Calendar.operation_end.Goals as goal

pub overflow_add-due : goal.overflow_add-due
overflow_add-due g c =
    omega (
      arith,
      c.state-state.ensures.early,
      ap (λ (s : Step). s.nominal) c.step-step.ensures.step,
      ((c.step-step.ensures.calendar.ranks.shaped.shop.routes c.args.job c.requires.job).steps c.args.place c.requires.place).nominal,
    )
