use Rattle.std.proofs.Common.{None, refl}
use Rattle.plan_schedule.proofs.calendar.Calendar.cleaning_due.Goals as goal

pub returns-in-None : goal.returns-in-None
returns-in-None g c = (None, c.in-None.ensures, refl)
