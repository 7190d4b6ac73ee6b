use Rattle.run_gantt.proofs.VisitEndFacts.{entering-passed, leave-passed, leave-noted}
use Rattle.run_gantt.proofs.visit_ends.note_order.Goals as goal

pub returns-in-Out : goal.returns-in-Out
returns-in-Out c later are = entering-passed _ later c.args.order c.in-Out.is are

pub returns-in-Some : goal.returns-in-Some
returns-in-Some c later are = leave-noted _ later c.args.order c.in-At.machine c.in-Some.place c.in-At.is c.in-Some.ensures are

pub returns-in_default : goal.returns-in_default
returns-in_default c later are = leave-passed _ later c.args.order c.in-At.machine c.in-At.is c.in_default.ensures are
