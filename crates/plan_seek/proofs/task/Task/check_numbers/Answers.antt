use Rattle.std.proofs.Common.{rules}
use Rattle.plan_seek.proofs.SerialPlan.{serial-shaped}
use Rattle.plan_seek.proofs.task.Task.check_numbers.Goals as goal

pub returns-clause-sound : goal.returns-clause-sound
returns-clause-sound c = serial-shaped c.args.self.now (search rules) c.in_ok-check_counts.ensures.sound (search rules)
