use Rattle.std.proofs.Common.{codes}
use Rattle.plan_explain.proofs.Texts.{none_added, one_more_added}
use Rattle.plan_schedule.specs.{Calendars.{at_of, due_at, IsVisitTextBy}, Schedules.visit_of}
use Rattle.plan_schedule.proofs.scheduling.push_visits.Goals as goal

pub loop-place-init : goal.loop-place-init
loop-place-init g c = none_added _ c.args.first _

pub loop-place-preserved : goal.loop-place-preserved
loop-place-preserved g c =
    let k = c.args.calendar.now in
    one_more_added (λ place. IsVisitTextBy c.args.names.now k (codes " from ") (visit_of k.plan (at_of k) (due_at k) c.args.job place) place) c.args.first c.loop-place.place _ _ _
    c.loop-place.invariant (rw c.visit-visit.ensures at c.in_ok-push_visit.ensures)
