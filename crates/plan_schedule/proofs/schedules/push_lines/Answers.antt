use Rattle.plan_schedule.proofs.schedules.push_lines.Goals as goal

pub returns : goal.returns
returns g c = rw c.in_ok-calendar.ensures at c.push_all.ensures
