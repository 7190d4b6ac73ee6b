use Rattle.std.proofs.Common.{arith}
use Rattle.shop_base.proofs.Sizes.{steps_few}
use Rattle.plan_schedule.proofs.calendar.Calendar.entered.Goals as goal

pub overflow_add-left : goal.overflow_add-left
overflow_add-left g c = omega (arith, steps_few c.args.self.now.plan c.step-step.ensures.calendar.ranks.shaped c.args.job c.requires.job, c.requires.place)
