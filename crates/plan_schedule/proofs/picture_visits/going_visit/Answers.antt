use Rattle.std.proofs.Common.{refl, ◌∙◌}
use Rattle.plan_schedule.specs.Calendars.{at_of, due_at}
use Rattle.plan_schedule.proofs.Drawing.{behind}
use Rattle.plan_schedule.proofs.picture_visits.going_visit.Goals as goal

pub returns : goal.returns
returns g c =
    let k = c.args.calendar.now in
    rw (c.cleaned.ensures ∙ behind k.plan (at_of k) (due_at k) c.args.visit.job c.args.place c.cleaning.result c.cleaning.ensures, c.moment_or.ensures, c.entered-here.ensures) refl
