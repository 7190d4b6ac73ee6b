use Rattle.std.proofs.Common.{◌≡◌, ◌-◌, ◌<◌, ◌≤◌, ◌++◌}
use Rattle.shop_base.specs.Plan.{steps}
use Rattle.plan_schedule.specs.{Calendars.at_of, DrawnVisits.job_visits}
use Rattle.plan_schedule.proofs.picture_visits.push_job.Given as goal

-- the visits looked at are drawn; none if the job is gone
abbrev pub invariant-loop-place : goal.invariant-loop-place
invariant-loop-place g l = record {
  from : l.made ≤ l.place;
  gone : steps l.calendar.plan l.job < l.made → l.place ≤ l.made;
  visits : l.visits.items ≡ l.initial.visits.items ++ job_visits l.calendar.plan (at_of l.calendar) l.job l.made (l.place - l.made);
}
