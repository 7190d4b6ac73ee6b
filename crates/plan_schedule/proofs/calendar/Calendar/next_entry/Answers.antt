use Rattle.plan_schedule.proofs.calendar.Calendar.next_entry.Goals as goal

pub returns : goal.returns
returns g c = rw (← c.self.view_is) (rw c.self.invariant.0 at c.blocking_target.ensures)
