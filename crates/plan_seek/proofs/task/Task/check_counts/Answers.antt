use Rattle.std.proofs.Common.{rules}
use Rattle.plan_seek.proofs.SerialPlan.{serial_count}
use Rattle.plan_seek.proofs.task.Task.check_counts.Goals as goal

pub returns-in-Some-clause-first_fault : goal.returns-in-Some-clause-first_fault
returns-in-Some-clause-first_fault c = (search rules, search rules, serial_count c.args.self.now, search rules)

pub returns-in_default-clause-sound : goal.returns-in_default-clause-sound
returns-in_default-clause-sound c = record {
  releases = search rules;
  budgets = search rules;
  orders = serial_count c.args.self.now;
  cleanings = search rules;
}

pub returns-in_default-2-clause-sound : goal.returns-in_default-2-clause-sound
returns-in_default-2-clause-sound c = record {
  releases = search rules;
  budgets = search rules;
  orders = serial_count c.args.self.now;
  cleanings = search rules;
}

pub returns-then-len-jobs-clause-first_fault : goal.returns-then-len-jobs-clause-first_fault
returns-then-len-jobs-clause-first_fault c = search rules depth 2
